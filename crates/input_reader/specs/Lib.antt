pub mod Input
pub mod Ready
