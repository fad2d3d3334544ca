pub mod Acts
pub mod Driving
pub mod Lending
pub mod Refusing
pub mod Server
