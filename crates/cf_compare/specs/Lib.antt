pub mod Cells
pub mod Corners
pub mod Inclusion
pub mod Outcome
pub mod Parts
pub mod Search
pub mod Tables
