pub mod Fits
pub mod Ends
pub mod Walks
pub mod Plans
pub mod Stops
pub mod Kinds
pub mod Steps
