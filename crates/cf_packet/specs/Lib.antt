pub mod Checksum
pub mod Ipv4
pub mod Packet
pub mod Recorded
pub mod Tcp
pub mod Written
