pub mod Digits
pub mod Row
pub mod Lines
