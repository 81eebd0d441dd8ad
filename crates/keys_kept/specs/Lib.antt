pub mod KeysKept
