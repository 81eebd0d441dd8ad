pub mod Effects
pub mod Sources
pub mod Members
pub mod Records
pub mod Opens
pub mod Views
