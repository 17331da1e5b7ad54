pub mod AssemblyValue
pub mod Passing
pub mod Segments
pub mod Transport
