-- What loading a file answers.
pub mod Loaded
