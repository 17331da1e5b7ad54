pub mod Header
pub mod Record
