pub mod Recurrence
pub mod Combinations
pub mod Products
pub mod Hypergeometric
pub mod Binomial
pub mod Held
