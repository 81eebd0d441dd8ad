pub mod Lock
pub mod Table
pub mod Index
pub mod Levels
pub mod Tree
pub mod Shelves
