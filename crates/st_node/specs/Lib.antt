pub mod Keys
pub mod Shapes
pub mod Drops
