pub mod Opened
pub mod Agreement
pub mod After
