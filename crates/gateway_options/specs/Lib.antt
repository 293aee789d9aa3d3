pub mod CommandLine
pub mod LineFault
pub mod inner
