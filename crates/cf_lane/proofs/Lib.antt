mod ActsShown
mod Allowed
mod Apdus
mod Asdus
mod Assemblies
pub mod Commands
mod Dnp3Fates
mod Dnp3Frames
mod Dnp3Growth
mod Dnp3Segments
mod Dnp3Steps
pub mod Earlier
mod Ends
mod Failing
mod Feeding
mod FrameSizes
mod Fronts
mod GoingOn
pub mod Growth
mod Handling
mod Histories
mod Holding
pub mod Judgements
mod Lasting
mod LineFeeds
mod Logging
mod Moments
pub mod Parting
mod Pieces
mod Places
mod Plains
mod Quiet
mod Rated
mod Recuts
mod Recutting
mod Renumbering
mod ReplySizes
mod Runs
mod Saying
mod Sides
pub mod Sites
mod Sizes
mod Starting
mod Taking
pub mod Units
mod Unrated
