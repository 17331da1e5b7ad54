mod Asdus
mod Flows
mod Fronts
mod Readers
mod Reading
mod Shown
mod Sites
