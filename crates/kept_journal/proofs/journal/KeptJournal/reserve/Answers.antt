use Rattle.kept_journal.proofs.Rooms.{more-room}
use Rattle.kept_journal.proofs.journal.KeptJournal.reserve.Goals as goal

pub invariant_of-self : goal.invariant_of-self
invariant_of-self c = more-room c.self.inside.book c.reserve.new.self c.reserve.ensures.same c.self.invariant
