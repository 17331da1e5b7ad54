pub mod Acts
pub mod Asdu
pub mod Mirror
pub mod Types
