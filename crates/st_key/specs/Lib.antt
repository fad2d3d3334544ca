pub mod Forms
pub mod KeyOrder
pub mod Members
pub mod Parts
pub mod Refused
pub mod Spans
