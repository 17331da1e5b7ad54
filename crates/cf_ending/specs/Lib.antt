pub mod Captures
pub mod Denial
pub mod Ending
pub mod Objection
pub mod Outside
pub mod PacketLine
