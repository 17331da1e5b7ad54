mod Common
pub mod Ends
mod Filing
mod Halves
mod Items
pub mod Legs
pub mod Lists
pub mod Lives
mod Logging
mod Moments
mod Naming
mod Order
mod Output
pub mod Packets
mod Ranges
mod Reading
pub mod Sending
pub mod Tables
mod Theirs
mod Turns
mod Words
mod Worked
mod WorkedFile
pub mod Writing
mod Written
