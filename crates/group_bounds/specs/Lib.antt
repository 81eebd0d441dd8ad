pub mod Walk
pub mod Bounds
