pub mod Texts
pub mod RequestText
pub mod EntryText
pub mod ReplyText
pub mod HistoryListing
