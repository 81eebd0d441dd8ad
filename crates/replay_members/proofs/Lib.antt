pub mod PutLemmas
pub mod HeldLemmas
