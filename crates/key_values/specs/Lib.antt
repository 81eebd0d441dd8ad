pub mod KeyValues
