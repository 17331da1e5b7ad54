mod Asked
mod Begun
mod Broken
mod Carried
mod Clocked
mod Counts
pub mod CutOffs
mod Edges
mod Events
mod Fixed
mod Greets
mod Grows
mod Hears
mod Newly
mod Numbers
mod Owed
mod Phases
mod Pieces
mod Reach
mod Reached
pub mod Saying
mod Sent
mod Speech
mod Spoken
mod Streams
