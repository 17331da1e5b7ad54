pub mod AllKept
mod Apart
pub mod ForAssets
mod Leading
mod Lengths
mod Letters
mod Near
mod OneStream
mod Pieces
mod Portions
mod Ranges
mod Runs
mod Seen
mod SoFar
mod Standing
pub mod StretchFlows
mod Tables
mod Tags
mod Taking
