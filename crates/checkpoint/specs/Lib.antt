pub mod Holding
pub mod Roots
pub mod States
