pub mod FormatLemmas
pub mod KeyLemmas
pub mod ListLemmas
pub mod PathLemmas
pub mod RestoredLemmas
pub mod TestedLemmas
pub mod UniqueLemmas
