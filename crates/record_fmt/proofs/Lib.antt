pub mod ExampleLemmas
pub mod HeldLemmas
pub mod LayoutLemmas
pub mod WrittenLemmas
