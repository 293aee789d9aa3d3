pub mod Book
pub mod Books
