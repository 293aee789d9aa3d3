pub mod Shown
pub mod Heard
pub mod Bodies
