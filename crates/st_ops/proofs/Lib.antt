pub mod Breaks
pub mod Fields
pub mod Parts
pub mod Payloads
mod Rows
pub mod Steps
