use Rattle.std.proofs.Common.{sym, subst}
use Rattle.journal_book.specs.Book.{BookState, Keeps}
use Rattle.kept_journal.specs.Journals.{MayWait}
use Rattle.kept_journal.proofs.Rooms.{room-for, taken-room}
use Rattle.kept_journal.proofs.journal.KeptJournal.take.Goals as goal

pub put_all-requires-clause-begun : goal.put_all-requires-clause-begun
put_all-requires-clause-begun c = c.self.invariant.begun

pub put_all-requires-clause-may : goal.put_all-requires-clause-may
put_all-requires-clause-may c = subst (λ (v : BookState). MayWait v c.args.entries.now) (sym c.self.view_is) c.requires

pub put_all-requires-clause-room : goal.put_all-requires-clause-room
put_all-requires-clause-room c =
    room-for c.self.inside.book c.args.entries.now c.self.invariant (subst (λ (v : BookState). MayWait v c.args.entries.now) (sym c.self.view_is) c.requires)

pub invariant_of-self : goal.invariant_of-self
invariant_of-self c =
    taken-room c.self.inside.book c.put_all.new.book c.args.entries.now c.self.invariant (subst (λ (v : BookState). MayWait v c.args.entries.now) (sym c.self.view_is) c.requires)
    c.put_all.ensures.put c.put_all.ensures.less_room

pub returns-clause-holds : goal.returns-clause-holds
returns-clause-holds c = λ kept all keeps. c.put_all.ensures.holds kept all (subst (λ (v : BookState). Keeps v kept all) (sym c.self.view_is) keeps)
