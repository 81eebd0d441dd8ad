mod FallLemmas
mod RefusalLemmas
mod ReplyLemmas
mod StateLemmas
mod VariableLemmas
