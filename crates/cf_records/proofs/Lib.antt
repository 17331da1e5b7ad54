pub mod Behind
mod BlockPieces
mod ClassicPieces
mod FilePieces
mod Finding
mod Forms
mod Passing
pub mod RecordLists
