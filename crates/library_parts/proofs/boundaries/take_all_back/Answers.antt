use Rattle.parts_model.proofs.TakingBackLemmas.{IsUnderway-first, IsUnderway-next, next-fits}
use Rattle.parts_model.proofs.UndoingLemmas.{undoing-first, undoing-can, undoing-next, undoing-end}
use Rattle.library_parts.proofs.boundaries.take_all_back.Goals as goal

pub loop-undo-init : goal.loop-undo-init
loop-undo-init c = (
  IsUnderway-first c.args.job c.args.moment c.args.undos.changes c.args.members.now c.args.journal.now c.requires.fit c.requires.room,
  undoing-first c.args.members.now.members c.args.paths.now c.args.undos.changes c.args.undos.moves c.requires.can,
)

pub take_back-requires-clause-fits : goal.take_back-requires-clause-fits
take_back-requires-clause-fits c =
    (next-fits c.args.job c.args.moment c.args.undos.changes c.args.members.now c.args.journal.now _ _ _ _ _ c.loop-undo.invariant.0 c.in-Some.ensures.changes).0

pub take_back-requires-clause-can : goal.take_back-requires-clause-can
take_back-requires-clause-can c =
    undoing-can c.args.members.now.members c.args.paths.now c.args.undos.changes c.args.undos.moves _ _ _ _ _ _ _ _ c.in-Some.ensures.changes c.in-Some.ensures.moves c.kept-kept.ensures.shared
    c.loop-undo.invariant.1

pub take_back-requires-clause-room : goal.take_back-requires-clause-room
take_back-requires-clause-room c =
    (next-fits c.args.job c.args.moment c.args.undos.changes c.args.members.now c.args.journal.now _ _ _ _ _ c.loop-undo.invariant.0 c.in-Some.ensures.changes).1

pub loop-undo-preserved : goal.loop-undo-preserved
loop-undo-preserved c = (
  IsUnderway-next c.args.job c.args.moment c.args.undos.changes c.args.members.now c.args.journal.now _ _ _ _ _ _ _ c.loop-undo.invariant.0 c.in-Some.ensures.changes c.take_back.ensures.members
      c.take_back.ensures.spares c.take_back.ensures.member_room c.take_back.ensures.journal c.take_back.ensures.room,
  undoing-next c.args.members.now.members c.args.paths.now c.args.undos.changes c.args.undos.moves _ _ _ _ _ _ _ _ _ _ c.in-Some.ensures.changes c.in-Some.ensures.moves
      c.kept-kept.ensures.shared c.take_back.ensures.bytes c.take_back.ensures.members c.take_back.ensures.paths c.take_back.ensures.path_rooms c.loop-undo.invariant.1,
)

pub returns-clause-indexed : goal.returns-clause-indexed
returns-clause-indexed c = undoing-end c.args.members.now.members c.args.paths.now c.args.undos.changes c.args.undos.moves _ _ _ _ c.loop-undo.invariant.1
