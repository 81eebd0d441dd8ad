use Rattle.std.proofs.Common.{◌++◌, map, ap, ◌∙◌}
use Rattle.std.specs.Option.{option_copied, option_to_list}
use Rattle.journal_model.specs.Acts.{acts}
use Rattle.journal_model.specs.Walks.{numbered}
use Rattle.range_images.specs.Sides.{numbered_of, first_sequence}
use Rattle.range_images.proofs.ReadingLemmas.{read-next}
use Rattle.range_images.proofs.reading.slot_changes.Goals as goal

pub loop-entry-preserved : goal.loop-entry-preserved
loop-entry-preserved c =
    let entries = c.args.entries.now in
    let read = map numbered_of c.loop-entry.changes.items in
    read-next c.args.number (first_sequence entries) c.loop-entry.entry-index (option_copied c.loop-entry.prior) c.entry-item.result entries read
    (map numbered_of c.add.new.changes.items) (numbered (first_sequence entries) (acts c.args.number (option_copied c.args.prior) entries))
    c.loop-entry-test.true
    c.entry-item.is
    (c.in_ok-add.ensures ∙ ap (λ o. read ++ option_to_list o) c.slot_change.ensures)
    c.loop-entry.invariant
