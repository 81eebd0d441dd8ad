pub mod KeyedFiles
pub use Rattle.file_cursor.specs.PositionBytes
pub use Rattle.path_set.specs.RecordChanges
pub use Rattle.path_set.specs.Sharing
