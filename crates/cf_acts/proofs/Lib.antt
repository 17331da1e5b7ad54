-- The interface of lemmas for the crates above is OfCommands, Ranges and Served.
mod OfAsdus
pub mod OfCommands
mod OfFragments
mod OfRequests
pub mod Ranges
pub mod Served
mod Tables
