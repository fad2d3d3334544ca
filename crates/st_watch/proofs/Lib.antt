pub mod Lists
pub mod Order
pub mod Numbers
pub mod Changes
pub mod Runs
pub mod Sets
pub mod Course
pub mod Rows
