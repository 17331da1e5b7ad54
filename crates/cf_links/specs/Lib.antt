pub mod Laws
pub mod LinkValue
pub mod Links
pub mod MemoryLinks
pub mod Service
