pub use Rattle.st_key.specs.Spans
pub use Rattle.st_fold.specs.Map
pub use Rattle.st_model.specs.State
pub use Rattle.st_model.specs.Watching
pub mod Watches
pub mod Layout
pub mod Course
