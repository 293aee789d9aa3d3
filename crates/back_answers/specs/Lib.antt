pub mod Answers
pub mod Delay
pub mod Waits
