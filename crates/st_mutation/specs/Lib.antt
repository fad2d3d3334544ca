pub mod Clip
pub mod Effect
