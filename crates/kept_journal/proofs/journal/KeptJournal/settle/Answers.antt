use Rattle.std.proofs.Common.{inl, inr, refl}
use Rattle.receiver_chain.proofs.Others.{roots_here}
use Rattle.journal_book.proofs.Forcing.{none_exactly}
use Rattle.kept_journal.proofs.journal.KeptJournal.settle.Goals as goal

pub returns-else-is_due-clause-moments : goal.returns-else-is_due-clause-moments
returns-else-is_due-clause-moments g c = λ tells all holds. none_exactly c.args.self.now all (g.S.Store.disk c.args.store.now) holds

pub returns-in_ok-force-clause-whole : goal.returns-in_ok-force-clause-whole
returns-in_ok-force-clause-whole g c = inr c.in_ok-force.ensures.nothing_waits

pub returns-else-is_due-clause-whole : goal.returns-else-is_due-clause-whole
returns-else-is_due-clause-whole g c = inl refl

pub returns-else-is_due-clause-roots : goal.returns-else-is_due-clause-roots
returns-else-is_due-clause-roots g c = roots_here (g.S.Store.disk c.args.store.now)
