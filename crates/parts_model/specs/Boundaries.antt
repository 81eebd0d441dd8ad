-- What a boundary of a job takes back and deposits, in the order in which it is done. (Our own.)
use Rattle.std.specs.Prelude.{ℕ, ◌+◌, false, Option, Some, List, [], ◌∷◌, ◌++◌, option_to_list}
use Rattle.std.specs.Option.{option_map}
use Rattle.commit_level.specs.declared.Level.{Level}
use Rattle.entry_codec.specs.declared.entries.Draft.{Draft}
use Rattle.entry_codec.specs.declared.kinds.EntryKind.{EntryKind}
use Rattle.entry_codec.specs.declared.kinds.EntryKind.TheVariants.{CommitCycleRolledBack, CommitmentEnded}
use Rattle.journal_model.specs.Rollback.{MemberChange, undo_drafts}
use Rattle.library_model.specs.declared.replies.Reply.TheVariants.{Done}
use Rattle.library_steps.specs.Change.{Change, journaled}
use Rattle.library_steps.specs.Commitment.{commitment_ended}
use Rattle.library_steps.specs.Drafts.{Author, author_of, cycle_draft, library_draft}
use Rattle.library_steps.specs.State.{Memory}
use Rattle.parts_model.specs.declared.boundaries.Origin.{Origin}

abbrev pub author : (job : List ℕ) (moment : ℕ) → Author
author job moment = record { job = job; moment = moment }

-- the entry that tells of what was done to the record
abbrev pub told : Origin → EntryKind → Draft
told origin kind = record {
  job = Some origin.job;
  moment = origin.moment;
  group = Some origin.cycle;
  member = Some origin.member;
  rrn = Some origin.rrn;
  kind = kind;
}

-- the draft that ends a commit cycle, where one is open
abbrev pub cycle_end : (job : List ℕ) (moment : ℕ) → EntryKind → Option ℕ → Option Draft
cycle_end job moment kind cycle = option_map (λ sequence. cycle_draft (author job moment) sequence kind) cycle

-- what ENDCMTCTL does where none of its refusals holds
abbrev pub ended : Memory → ℕ → (timestamp : ℕ) → Change
ended m job timestamp = journaled (library_draft (author_of m job timestamp) CommitmentEnded ∷ []) false Done (commitment_ended job m)

-- the draft that ends commitment control, where it was started
abbrev pub definition_end : (job : List ℕ) (moment : ℕ) → Option Level → Option Draft
definition_end job moment level = option_map (λ l. library_draft (author job moment) CommitmentEnded) level

-- what taking these changes back deposits, with the end of their commit cycle
abbrev pub roll_drafts : (job : List ℕ) (moment : ℕ) → Option ℕ → List MemberChange → List Draft
roll_drafts job moment cycle undos = undo_drafts (Some job) moment undos ++ option_to_list (cycle_end job moment CommitCycleRolledBack cycle)
