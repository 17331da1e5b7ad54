-- The interface of lemmas for the crates above: Cells, Framing, OctetLists, Places and Units.
pub mod Cells
mod Digits
pub mod Framing
pub mod OctetLists
pub mod Places
pub mod Units
