use Rattle.std.proofs.Common.{◌∙◌, length, option_to_list, Some, Option, ap, arith}
use Rattle.entry_codec.specs.declared.entries.Draft.{Draft}
use Rattle.entry_codec.specs.declared.kinds.EntryKind.TheVariants.{CommitCycleRolledBack}
use Rattle.journal_model.specs.Rollback.{undo_drafts}
use Rattle.parts_model.specs.Journal.{deposited}
use Rattle.parts_model.specs.Boundaries.{cycle_end}
use Rattle.parts_model.proofs.BoundaryLemmas.{deposited-append, length-end}
use Rattle.library_parts.proofs.boundaries.roll_back.Goals as goal

pub take_all_back-requires-clause-room : goal.take_all_back-requires-clause-room
take_all_back-requires-clause-room c = let room = c.requires.room in omega (arith, room)

pub deposit_if-requires : goal.deposit_if-requires
deposit_if-requires c =
    let room = c.requires.room in
    let kept = c.take_all_back.ensures.room in
    let same = ap (λ (d : Option Draft). length (option_to_list d)) c.rolled_back.ensures in
    let one = length-end c.args.job c.args.moment CommitCycleRolledBack c.args.cycle in
    omega (arith, room, kept, same, one)

pub returns-clause-indexed : goal.returns-clause-indexed
returns-clause-indexed c = c.take_all_back.ensures.indexed

pub returns-clause-journal : goal.returns-clause-journal
returns-clause-journal c =
    c.deposit_if.ensures.journal
    ∙ (λ i. deposited (option_to_list (c.rolled_back.ensures i)) (c.take_all_back.ensures.journal i))
    ∙ deposited-append (undo_drafts (Some c.args.job) c.args.moment c.args.undos.changes) (option_to_list (cycle_end c.args.job c.args.moment CommitCycleRolledBack c.args.cycle)) c.args.journal.now.journal

pub returns-clause-room : goal.returns-clause-room
returns-clause-room c =
    let kept = c.take_all_back.ensures.room in
    let more = c.deposit_if.ensures.room in
    let same = ap (λ (d : Option Draft). length (option_to_list d)) c.rolled_back.ensures in
    let one = length-end c.args.job c.args.moment CommitCycleRolledBack c.args.cycle in
    omega (arith, kept, more, same, one)
