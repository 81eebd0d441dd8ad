pub mod Append
pub mod Blocks
pub mod Kept
pub mod Numbers
pub mod Staging
pub mod Unique
pub mod Walking
pub mod Whole
