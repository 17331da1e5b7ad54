mod Commands
mod Inclusion
mod LowCodes
mod OutlineLooks
mod RegionActs
mod SpanLists
