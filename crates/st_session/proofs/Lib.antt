pub mod Orders
pub mod Ways
pub mod Next
pub mod Shown
pub mod Selected
pub mod Lengths
pub mod Replies
