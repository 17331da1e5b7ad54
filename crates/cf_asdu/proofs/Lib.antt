-- The interface of lemmas for the crates above is Readings.
mod ActList
mod Mirrors
pub mod Readings
