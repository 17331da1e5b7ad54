mod Codes
mod Reach
mod ReadsHad
mod SomeRead
