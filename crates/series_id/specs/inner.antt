pub mod Values
pub mod Shares
pub mod Views
pub mod Written
