pub mod CursorPosition
pub mod Finding
pub mod Reading
pub mod PositionBytes
