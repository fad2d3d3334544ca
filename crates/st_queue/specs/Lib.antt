pub mod Frames
pub mod Place
pub mod Due
pub mod Writing
pub mod Prepared
pub mod Queue
pub mod Reading
pub mod Mounting
pub use Rattle.st_disk.specs.History
pub use Rattle.st_disk.specs.Moments
pub use Rattle.st_disk.specs.Calls
pub use Rattle.st_ops.specs.Reading as OpsReading
