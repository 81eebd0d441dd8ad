pub mod Requests
pub mod Entries
pub mod Replies
pub mod Lines
pub mod Listed
pub mod FirstBad
