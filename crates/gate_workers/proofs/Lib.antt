pub mod Hearing
pub mod Pacing
pub mod BookTurns
pub mod BookServes
pub mod OneRequest
