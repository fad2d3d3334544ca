pub use Rattle.st_key.specs.Spans
pub mod Text
pub mod Forms
