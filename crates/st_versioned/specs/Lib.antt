pub mod Apart
pub mod Neighbours
pub mod Root
pub mod Window
pub mod Writing
