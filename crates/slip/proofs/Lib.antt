pub mod Joins
pub mod Counted
pub mod Addressing
pub mod Written
