pub mod CommandLine
pub mod NumberOption
