-- What a row compares of the state that calls lead to.
use Rattle.std.specs.Prelude.{ℕ, List, Option, drop, map}
use Rattle.entry_codec.specs.declared.entries.Entry.{Entry}
use Rattle.entry_codec.specs.declared.kinds.EntryKind.{EntryKind}
use Rattle.member_slots.specs.declared.slot.Slot.{Slot}
use Rattle.member_slots.specs.Members.{member_of}
use Rattle.lock_table.specs.declared.lock.Lock.{Lock}
use Rattle.key_spec.specs.declared.KeySpec.{KeySpec}
use Rattle.library_model.specs.declared.replies.Reply.{Reply}
use Rattle.library_steps.specs.State.{State}
use Rattle.library_rows.specs.Customers.{library}
use Rattle.library_rows.specs.Calls.{Asked, run}

-- the slots of the member
abbrev pub slots : State → List Slot
slots s = (member_of 1 s.members).slots

-- an entry of a record, or of none, of an open commit cycle or of none
pub record Told : Type 0 where
  pub cycle : Option ℕ
  pub rrn : Option ℕ
  pub kind : EntryKind

abbrev pub told_by : Entry → Told
told_by e = record { cycle = e.group; rrn = e.rrn; kind = e.kind }

-- the entries behind a sequence, where no receiver is gone
abbrev pub entries_behind : ℕ → State → List Told
entries_behind sequence s = map told_by (drop sequence s.entries)

abbrev pub told : (cycle rrn : Option ℕ) → EntryKind → Told
told cycle rrn kind = record { cycle = cycle; rrn = rrn; kind = kind }

-- a lock by its job and record
pub record Locked : Type 0 where
  pub job : ℕ
  pub rrn : ℕ

abbrev pub locked_by : Lock → Locked
locked_by lock = record { job = lock.job; rrn = lock.at.rrn }

abbrev pub locked : State → List Locked
locked s = map locked_by s.locks

abbrev pub lock : (job rrn : ℕ) → Locked
lock job rrn = record { job = job; rrn = rrn }

-- calls behind others, on the file with this key: the replies of the later ones
abbrev pub replies_behind : KeySpec → List Asked → List Asked → List Reply
replies_behind keys before calls = (run 10 calls (run 0 before (library keys)).state).replies

-- and the state that all lead to
abbrev pub led_to : KeySpec → List Asked → State
led_to keys calls = (run 0 calls (library keys)).state
