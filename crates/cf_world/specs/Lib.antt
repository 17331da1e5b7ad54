pub mod Capture
pub mod Making
pub mod World
