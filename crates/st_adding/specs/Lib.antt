pub mod Rows
pub mod Updates
