use Rattle.std.proofs.Common.{◌≡◌, ◌≤◌, ℕ, List, sym, subst}
use Rattle.std.specs.Prelude.{IfOk, IsErrOf}
use Rattle.entry_codec.specs.declared.entries.Entry.{Entry}
use Rattle.journal_book.specs.Book.{BookState, Holds, IsHeld, last_of}
use Rattle.journal_book.specs.Reads.{between}
use Rattle.journal_book.specs.declared.fault.BookFault.TheVariants as faults
use Rattle.block_cache.specs.Cached.{AreStretches}
use Rattle.library_core.proofs.reading.entries_between.Goals as goal

pub entries-requires-clause-held : goal.entries-requires-clause-held
entries-requires-clause-held g c = subst (λ (b : BookState). g.S.Store.tells → IsHeld b (g.S.Store.disk c.args.store.now)) (sym c.book.ensures) c.requires.held

pub entries-requires-clause-cached : goal.entries-requires-clause-cached
entries-requires-clause-cached g c =
    subst (λ (b : BookState). g.S.Store.tells → (all : List Entry) → Holds b all (g.S.Store.disk c.args.store.now) → AreStretches b.first all c.args.cache.now)
    (sym c.book.ensures) c.requires.cached

pub returns-clause-entries : goal.returns-clause-entries
returns-clause-entries g c =
    subst (λ (b : BookState). IfOk c.entries.result
    (λ found. g.S.Store.tells → (all : List Entry) → Holds b all (g.S.Store.disk c.args.store.now) → found.items ≡ between b.first c.args.from c.args.to all))
    c.book.ensures c.entries.ensures.entries

pub returns-clause-there : goal.returns-clause-there
returns-clause-there g c =
    subst (λ (b : BookState). c.args.from ≤ c.args.to → 1 ≤ c.args.from → c.args.to ≤ last_of b → IsErrOf c.entries.result faults.NoSuchEntry → ⊥) c.book.ensures c.entries.ensures.there

pub returns-clause-kept : goal.returns-clause-kept
returns-clause-kept g c =
    subst (λ (b : BookState). b.first ≤ c.args.from → (sequence : ℕ) → IsErrOf c.entries.result (faults.ReceiverGone sequence) → ⊥) c.book.ensures c.entries.ensures.kept

pub returns-clause-cached : goal.returns-clause-cached
returns-clause-cached g c =
    subst (λ (b : BookState). g.S.Store.tells → (all : List Entry) → Holds b all (g.S.Store.disk c.entries.new.store) → AreStretches b.first all c.entries.new.self)
    c.book.ensures c.entries.ensures.cached
