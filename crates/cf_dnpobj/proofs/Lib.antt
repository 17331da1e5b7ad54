pub mod Grammar
mod Headers
mod InOrder
pub mod Replies
mod Sums
