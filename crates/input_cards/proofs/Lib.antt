mod FrontLemmas
mod LeastLemmas
mod NameLemmas
mod SectionLemmas
