mod Events
mod Rows
