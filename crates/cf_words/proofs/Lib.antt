pub mod FileNames
mod LastWords
mod Numerals
