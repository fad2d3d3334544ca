mod Kept
mod Told
mod Steps
mod Undone
