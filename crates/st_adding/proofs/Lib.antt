pub mod Handed
pub mod Logs
pub mod Parts
pub mod Rows
pub mod Slots
