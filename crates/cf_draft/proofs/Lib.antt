mod Allowing
mod Reading
