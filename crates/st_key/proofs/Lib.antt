pub mod Canonical
pub mod Cover
pub mod Examples
pub mod Joining
pub mod Subset
