pub mod Counts
pub mod Drained
pub mod Ends
pub mod Parts
pub mod Steps
pub mod inner
