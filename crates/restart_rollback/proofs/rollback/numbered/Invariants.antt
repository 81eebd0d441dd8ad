use Rattle.std.proofs.Common.{◌≡◌, ◌+◌, ◌++◌, length}
use Rattle.std.specs.Vec.Iter.{into_iter_items, into_iter_len}
use Rattle.journal_model.specs.Rollback.{numbered_from}
use Rattle.restart_rollback.proofs.rollback.numbered.Given as goal

abbrev pub invariant-loop-draft : goal.invariant-loop-draft
invariant-loop-draft l = (l.more.items ++ numbered_from (l.sequence + 1) (into_iter_items l.draft-iterator) ≡ numbered_from (l.initial.sequence + 1) (into_iter_items l.initial.draft-iterator))
    × (into_iter_len l.draft-iterator ≡ length (into_iter_items l.draft-iterator))
