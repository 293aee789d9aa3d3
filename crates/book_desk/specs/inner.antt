pub mod Alone
pub mod EndRanges
pub mod Faults
pub mod Opened
pub mod Returned
pub mod WordsOf
