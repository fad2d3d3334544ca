pub mod Bytes
pub mod Lengths
mod Rows
pub mod Sweeps
