pub mod Rounding
pub mod Deciding
pub mod Truths
