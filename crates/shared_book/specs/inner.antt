pub mod Receipts
pub mod Moments
pub mod Audits
