pub mod Framing
pub mod Body
pub mod Head
pub mod Holds
pub mod Request
pub mod Sent
pub mod WriteBuffer
pub mod Reply
