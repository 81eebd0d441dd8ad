use Rattle.std.proofs.Common.{◌+◌, drop, map}
use Rattle.std.specs.Option.{option_copied}
use Rattle.journal_model.specs.Acts.{acts}
use Rattle.journal_model.specs.Walks.{numbered}
use Rattle.range_images.specs.Sides.{numbered_of, first_sequence}
use Rattle.range_images.proofs.ReadingLemmas.{IsRead}
use Rattle.range_images.proofs.reading.slot_changes.Given as goal

abbrev pub invariant-loop-entry : goal.invariant-loop-entry
invariant-loop-entry l =
    IsRead l.number (first_sequence l.entries + l.entry-index) (option_copied l.prior) (drop l.entry-index l.entries)
    (map numbered_of l.changes.items) (numbered (first_sequence l.entries) (acts l.number (option_copied l.fn.prior) l.entries))
