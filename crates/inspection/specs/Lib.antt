pub mod Tables
pub mod Settling
pub mod Answers
pub mod Runs
pub mod Views
pub mod Faults
pub mod Readings
