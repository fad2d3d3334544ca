mod Rows
pub mod Spans
pub mod States
pub mod Values
