mod Pieces
mod Runs
