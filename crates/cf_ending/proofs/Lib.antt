mod Spelled
mod Texts
