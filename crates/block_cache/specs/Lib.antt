pub mod Cached
pub mod Sizes
pub mod Walks
