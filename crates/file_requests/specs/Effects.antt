-- What an effect of a request leaves that deposits entries. (Our own.)
use Rattle.std.specs.Prelude.{true, List}
use Rattle.entry_codec.specs.declared.entries.Draft.{Draft}
use Rattle.library_model.specs.declared.replies.Reply.TheVariants.{Done}
use Rattle.library_steps.specs.State.{State, Memory, memory_of}
use Rattle.library_steps.specs.Change.{journaled}
use Rattle.library_parts.specs.Deposits.{Leaves}

-- the effect on the memory, and the drafts as entries behind those that were there
abbrev pub Deposits : (old new : State) → List Draft → (Memory → Memory) → Type 0
Deposits old new drafts effect = Leaves old new (journaled drafts true Done (effect (memory_of old)))
