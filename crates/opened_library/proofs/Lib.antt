mod JudgedLemmas
mod BuiltLemmas
mod OpenedLemmas
