mod OrderLemmas
mod SplitLemmas
mod SumLemmas
mod TextLemmas
mod ZeroLemmas
