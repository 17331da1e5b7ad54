pub mod FileRows
pub mod Isolated
pub mod Lines
pub mod Lives
pub mod Logged
pub mod ReadBack
pub mod Records
pub mod Rows
