pub mod Askable
pub mod Schedules
