pub mod SystemName
