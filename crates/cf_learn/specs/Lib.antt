pub mod Assets
pub mod Greatest
pub mod OwnUnits
pub mod Polls
pub mod Reading
pub mod Rules
pub mod Seen
pub mod Shown
