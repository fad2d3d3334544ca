pub mod Sent
pub mod Jobs
pub mod Course
