pub mod Groups
pub mod Back
pub mod Objects
