mod AddressesBack
mod Alone
mod AssetsBack
mod Called
mod Depths
mod DocumentsBack
mod Kept
mod ListsBack
pub mod Marks
mod Middles
mod NameNumbers
pub mod Members
mod PointsBack
mod Printed
mod Ranges
mod ReadBack
mod Readings
mod RulesBack
mod SetsBack
mod SetsKept
mod SitesBack
mod SitesKept
mod Stated
mod Tables
mod Texts
mod Written
