pub mod Refusals
pub mod Faults
pub mod Schemes
pub mod Regular
pub mod Names
