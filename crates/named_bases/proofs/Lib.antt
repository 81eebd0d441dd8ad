pub mod NamedLemmas
pub mod ReferLemmas
