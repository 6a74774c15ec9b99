pub mod Crossings
pub mod Codes
pub mod Plans
