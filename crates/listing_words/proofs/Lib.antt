mod NameLemmas
mod NumberLemmas
mod ReadLemmas
