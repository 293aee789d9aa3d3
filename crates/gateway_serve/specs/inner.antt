pub mod Rounds
pub mod Accepted
pub mod CutOff
pub mod Tasks
