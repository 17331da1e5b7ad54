pub mod Meets
pub mod Reads
pub mod Rules
