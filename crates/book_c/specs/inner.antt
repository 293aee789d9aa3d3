pub mod Handles
pub mod Names
