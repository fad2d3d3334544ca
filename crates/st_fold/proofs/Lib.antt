pub mod Pairs
pub mod Rows
pub mod Taken
pub mod Order
