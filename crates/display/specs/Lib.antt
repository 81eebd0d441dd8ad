pub mod Display
pub mod Slots
