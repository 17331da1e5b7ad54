pub mod Common
pub mod Covered
pub mod Including
pub mod Outlines
pub mod Regions
