pub mod Reels
