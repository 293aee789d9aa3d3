pub mod Ended
pub mod TimeLimit
pub mod Rounds
pub mod Called
pub mod ServedClient
pub mod inner
