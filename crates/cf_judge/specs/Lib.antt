pub mod Ruling
pub mod Found
pub mod Front
pub mod Objections
pub mod Plain
pub mod SiteLaws
