pub mod Command
pub mod Forms
pub mod Names
pub mod Words
