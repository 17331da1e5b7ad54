-- The interface of lemmas for the crates above: Projection.
pub mod Projection
mod Room
