pub mod Play
pub mod Ended
pub mod Stopping
pub mod Leaving
pub mod Lives
pub mod Readers
pub mod Running
pub mod Waiting
