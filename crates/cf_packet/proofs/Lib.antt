mod Addressed
mod Mss
mod PseudoHeader
mod Sums
pub mod Written
