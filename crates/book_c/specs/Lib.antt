pub mod Answers
pub mod Calls
pub mod Kinds
pub mod Slices
pub mod inner
