use Rattle.kept_journal.proofs.Rooms.{first-room}
use Rattle.kept_journal.proofs.journal.KeptJournal.over.Goals as goal

pub invariant_of-result : goal.invariant_of-result
invariant_of-result c = first-room c.args.book c.reserve.new.self c.reserve.ensures.same c.requires.begun c.requires.alone c.in_ok-reserve.ensures.room
