pub mod Shown
pub mod Replayed
pub mod Deposits
pub mod Unsaved
pub mod Requests
