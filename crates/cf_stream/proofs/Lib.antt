pub mod Extends
pub mod FirstCopy
pub mod Letters
pub mod PlaceOrZero
pub mod Taken
