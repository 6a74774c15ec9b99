pub mod Certified
pub mod Certifies
pub mod Chances
pub mod Rows
pub mod Searches
