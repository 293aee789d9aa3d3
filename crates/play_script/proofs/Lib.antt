pub mod Answering
pub mod Ended
pub mod Marked
pub mod PointSteps
pub mod Splitting
pub mod Wording
