pub mod Bytes
pub mod Cursors
pub mod Fields
pub mod Answers
pub mod Faults
pub mod Rooms
