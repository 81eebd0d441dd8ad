pub mod StoodLemmas
