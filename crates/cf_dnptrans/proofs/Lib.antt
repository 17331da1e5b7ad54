pub mod History
mod Passing
pub mod Seams
mod Segments
