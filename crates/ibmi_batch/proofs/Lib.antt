mod FrontLemmas
mod OutcomeLemmas
mod RunLemmas
mod ShortLemmas
mod ShownLemmas
mod WordLemmas
