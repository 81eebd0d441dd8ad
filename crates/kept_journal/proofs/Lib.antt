pub mod CallLemmas
pub mod Following
pub mod Putting
pub mod Rooms
