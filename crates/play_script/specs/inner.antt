pub mod Views
pub mod Ends
pub mod Run
pub mod Answered
pub mod Played
