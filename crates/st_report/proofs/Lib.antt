pub mod Appended
pub mod Untraced
mod Rows
