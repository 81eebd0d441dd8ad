pub mod Needed
pub mod Files
pub mod Named
pub mod Kept
