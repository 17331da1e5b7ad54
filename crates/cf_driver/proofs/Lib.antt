-- The interface of lemmas for the crates above: Histories, Limits and Whole.
pub mod Histories
pub mod Limits
mod Taking
pub mod Whole
