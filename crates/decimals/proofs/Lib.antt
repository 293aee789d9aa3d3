mod Digits
pub mod Told
