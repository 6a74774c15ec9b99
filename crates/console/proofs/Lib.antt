pub mod Lines
pub mod Texts
pub mod Provings
pub mod Begun
pub mod Turns
pub mod Outputs
pub mod Values
