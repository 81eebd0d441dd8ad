pub mod Asks
pub mod Positions
pub mod Refusals
pub mod Replies
pub mod Requests
pub mod Values
pub mod Variables
