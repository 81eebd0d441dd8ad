pub mod CountLemmas
pub mod DueLemmas
pub mod SpentLemmas
