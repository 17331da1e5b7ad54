pub mod Small
pub mod Takes
