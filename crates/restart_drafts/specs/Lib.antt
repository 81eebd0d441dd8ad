pub mod Undos
