use Rattle.std.proofs.Common.{◌≡◌, ◌+◌, ◌≤◌, length}
use Rattle.std.specs.Vec.Iter.{into_iter_items, into_iter_len}
use Rattle.parts_model.below.memory_journal.specs.declared.journal.TheConstants.{LAST_BEFORE_DEPOSIT}
use Rattle.library_steps.specs.State.{memory_of}
use Rattle.parts_model.specs.Deposits.{with_drafts}
use Rattle.library_parts.proofs.deposits.deposit_all.Given as goal

abbrev pub invariant-loop-draft : goal.invariant-loop-draft
invariant-loop-draft l = (with_drafts l.contents.state (into_iter_items l.draft-iterator) ≡ with_drafts l.initial.contents.state (into_iter_items l.initial.draft-iterator))
    × (length (into_iter_items l.draft-iterator) ≤ l.contents.room.entries)
    × ((memory_of l.contents.state).last_entry + length (into_iter_items l.draft-iterator) ≤ LAST_BEFORE_DEPOSIT)
    × (l.initial.contents.room.entries + length (into_iter_items l.draft-iterator) ≤ l.contents.room.entries + length (into_iter_items l.initial.draft-iterator))
    × (l.contents.room ≡ record l.initial.contents.room { entries = l.contents.room.entries })
    × (into_iter_len l.draft-iterator ≡ length (into_iter_items l.draft-iterator))
