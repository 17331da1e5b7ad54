pub mod Acts
pub mod Fragment
pub mod Headers
pub mod Objects
pub mod Reply
