pub mod FirstPlace
mod ByCode
mod CodePart
mod Pairs
pub mod FirstRule
mod Fronts
mod PointTable
mod ByTable
mod Runs
mod Sites
mod Steps
pub mod FromPlaces
pub mod SiteLaws
