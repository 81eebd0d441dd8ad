-- What a request does where none of its refusals holds: the memory after it, the entries that it deposits, its reply, and whether they are forced first.
-- (Journal Management, "Journal entries".)
use Rattle.std.specs.Prelude.{◌+◌, Bool, false, Result, Ok, Err, List, [], ◌++◌, length}
use Rattle.journal_model.below.entry_codec.specs.declared.entries.Entry.{Entry}
use Rattle.journal_model.below.entry_codec.specs.declared.entries.Draft.{Draft}
use Rattle.journal_model.specs.Rollback.{numbered_from}
use Rattle.library_model.specs.declared.replies.Reply.{Reply}
use Rattle.library_steps.specs.State.{Memory, State, with_entries}

pub record Change : Type 0 where
  pub memory : Memory
  pub entries : List Entry
  pub reply : Reply
  -- the entries are on the disk before the reply is given
  pub forced : Bool

-- the entries that drafts become behind the last
abbrev pub deposited : Memory → List Draft → List Entry
deposited m drafts = numbered_from (m.last_entry + 1) drafts

-- a change that deposits entries
abbrev pub journaled : List Draft → Bool → Reply → Memory → Change
journaled drafts forced reply m =
    record { memory = record m { last_entry = m.last_entry + length drafts }; entries = deposited m drafts; reply = reply; forced = forced }

-- a change of which the journal knows nothing
abbrev pub unjournaled : Reply → Memory → Change
unjournaled reply m = record { memory = m; entries = []; reply = reply; forced = false }

-- what a plan does, or the refusal in its place
abbrev pub does : {A : Type 0} → (A → Change) → Result A Reply → Result Change Reply
does effect (Ok plan) = Ok (effect plan)
does effect (Err reply) = Err reply

-- the state and the reply that a change gives; a refusal changes nothing
abbrev pub changed : State → Result Change Reply → State × Reply
changed s (Ok change) = (with_entries s.gone (s.entries ++ change.entries) change.memory, change.reply)
changed s (Err reply) = (s, reply)
