-- The interface of lemmas for the crates above is Fronts.
pub mod Fronts
mod Places
mod Spelled
