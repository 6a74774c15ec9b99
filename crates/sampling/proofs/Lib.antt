pub mod Overlays
pub mod Moves
pub mod Phases
pub mod Samples
pub mod Promises
pub mod Searching
pub mod Truths
pub mod Certifying
