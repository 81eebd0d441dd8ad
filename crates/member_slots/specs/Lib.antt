pub mod Member
pub mod Members
pub mod Entries
pub mod Changes
