pub mod Crc
pub mod FramePlaces
pub mod LinkFrame
pub mod UserOctets
