pub mod Sides
pub mod Breaks
pub mod Faults
pub mod Given
pub mod Images
