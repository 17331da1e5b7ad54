mod Begun
mod Lengths
mod Meaning
