mod Draining
mod Elements
mod Logs
mod Room
mod Sifted
mod Stored
mod Streams
