pub mod Chain
pub mod Links
pub mod Others
pub mod Receivers
