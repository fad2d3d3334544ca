mod Played
mod Synced
mod Demanded
mod Runs
mod RowParts
mod Rows
mod FileRows
mod CrashRows
pub mod Versioned
pub mod Polls
pub mod Merging
mod Telling
mod Acting
mod Leading
mod Closing
mod Ending
