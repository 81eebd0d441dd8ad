use Rattle.std.proofs.Common.{◌<◌, List, length, OnOk, sym, subst}
use Rattle.store_model.specs.Disk.{Leaves}
use Rattle.entry_codec.specs.declared.entries.Entry.{Entry}
use Rattle.journal_book.specs.Book.{BookState, Holds, IsHeld}
use Rattle.journal_book.specs.Kept.{IsForcedOrFrom}
use Rattle.kept_journal.proofs.Rooms.{same-room}
use Rattle.kept_journal.proofs.journal.KeptJournal.force.Goals as goal

pub force-requires-clause-held : goal.force-requires-clause-held
force-requires-clause-held g c = λ tells. subst (λ (v : BookState). IsHeld v (g.S.Store.disk c.args.store.now)) (sym c.self.view_is) (c.requires.held tells)

pub force-requires-clause-place : goal.force-requires-clause-place
force-requires-clause-place g c = subst (λ (v : BookState). 0 < v.waiting → 0 < v.chain.room) (sym c.self.view_is) c.requires.place

pub force-requires-clause-small : goal.force-requires-clause-small
force-requires-clause-small g c = c.self.invariant.small

pub invariant_of-self : goal.invariant_of-self
invariant_of-self g c = same-room c.self.inside.book c.force.new.self (c.force.ensures.begun c.self.invariant.begun) c.force.ensures.freed c.force.ensures.no_longer c.self.invariant

pub returns-clause-forced : goal.returns-clause-forced
returns-clause-forced g c =
    subst (λ (v : BookState). OnOk c.force.result (g.S.Store.tells → (entries : List Entry) → Holds v entries (g.S.Store.disk c.args.store.now) → Holds c.force.new.self entries (g.S.Store.disk c.force.new.store))) c.self.view_is
    c.force.ensures.forced

pub returns-clause-exactly : goal.returns-clause-exactly
returns-clause-exactly g c =
    subst (λ (v : BookState). g.S.Store.tells → (entries : List Entry) → Holds v entries (g.S.Store.disk c.args.store.now) → Leaves (g.S.Store.disk c.args.store.now) (g.S.Store.disk c.force.new.store) (IsForcedOrFrom v.chain.first v.forced (length entries) entries)) c.self.view_is
    c.force.ensures.exactly
