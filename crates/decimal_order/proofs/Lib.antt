pub mod OrderLemmas
pub mod PowerLemmas
