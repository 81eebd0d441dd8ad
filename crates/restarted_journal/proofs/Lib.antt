pub mod Beginnings
pub mod Depositing
pub mod Ends
pub mod Rooted
