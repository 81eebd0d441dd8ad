pub mod Asked
pub mod Ended
pub mod Moments
pub mod Session
pub mod Made
pub mod Places
pub mod Reading
pub mod Turns
