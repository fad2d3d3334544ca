mod Users
mod Stores
mod Available
mod Differences
mod Rows
