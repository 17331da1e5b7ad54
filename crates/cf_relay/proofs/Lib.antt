-- The interface of lemmas for the crates above: Lined, Starting and Turned.
mod Asked
mod Asking
mod Doing
mod Ending
mod Files
mod Gave
mod Giving
pub mod Lined
mod Lists
mod Moving
mod OnePair
mod Owing
mod Scenes
mod Serving
mod Stages
mod Standing
pub mod Starting
mod Taking
pub mod Turned
