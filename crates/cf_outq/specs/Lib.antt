pub mod QueueCalls
pub mod SendQueue
