pub mod FileLemmas
pub mod NamedLemmas
pub mod AgreeLemmas
pub mod PlaceLemmas
pub mod RecordLemmas
pub mod SettledLemmas
