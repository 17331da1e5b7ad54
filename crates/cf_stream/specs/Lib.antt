pub mod FirstCopy
pub mod Position
pub mod Sizes
pub mod Stream
