pub mod Draft
pub mod Parts
