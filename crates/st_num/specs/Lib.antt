pub mod Number
pub use Rattle.byteorder.specs.Numbers
