mod Calls
pub mod Deciding
pub mod Fronts
pub mod Insides
mod OptionLists
mod Spelled
