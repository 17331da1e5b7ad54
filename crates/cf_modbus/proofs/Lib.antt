pub mod ActLists
mod Answered
pub mod Framing
pub mod Fronts
mod Layouts
pub mod Reading
mod Singles
