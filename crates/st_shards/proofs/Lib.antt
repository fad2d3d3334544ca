mod Pairs
pub mod Cuts
mod Openings
pub mod Begun
mod Places
mod Reading
