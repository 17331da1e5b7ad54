pub mod Keeping
pub mod ReceiveWindow
pub mod Ring
pub mod WindowCalls
