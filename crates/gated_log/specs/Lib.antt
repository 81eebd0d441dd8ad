pub mod Blocks
pub mod Log
pub mod Places
pub mod Steps
pub mod Walk
