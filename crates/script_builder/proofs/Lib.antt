mod AssemblyLemmas
mod EndLemmas
mod LawLemmas
mod LeastLemmas
mod MemoryLemmas
mod StackLemmas
mod WayLemmas
