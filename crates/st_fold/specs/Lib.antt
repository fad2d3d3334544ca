pub use Rattle.st_key.specs.Spans
pub use Rattle.st_mutation.specs.Effect
pub mod Assigned
pub mod Effects
pub mod Endings
pub mod Map
pub mod Plain
pub mod Reading
