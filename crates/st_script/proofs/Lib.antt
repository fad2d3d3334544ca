pub mod Cutting
pub mod Drafts
pub mod Numbers
pub mod Played
mod Rows
