pub mod Runs
pub mod Sums
pub mod Machine
pub mod Counted
pub mod Known
