mod InputLemmas
mod JobLemmas
mod LeastLemmas
mod ScheduleLemmas
mod SourceLengths
