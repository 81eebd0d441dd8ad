pub mod Arithmetic
pub mod Order
