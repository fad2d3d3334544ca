pub mod Climbing
pub mod Cutting
pub mod Depths
pub mod Going
pub mod Joining
pub mod Lists
pub mod Nearest
pub mod Neighbours
pub mod Ordered
pub mod Orders
pub mod Pairs
pub mod Places
pub mod Raised
pub mod Raising
mod DepthRows
mod Rows
