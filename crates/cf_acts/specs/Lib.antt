pub mod Acts
pub mod Commands
pub mod Ranges
