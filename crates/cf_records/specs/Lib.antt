pub mod Capture
pub mod Form
pub mod Moments
pub mod Pieces
pub mod Reader
pub mod Records
