mod Blocks
mod FramePlaces
pub mod Frames
pub mod Reading
mod Table
pub mod Writing
