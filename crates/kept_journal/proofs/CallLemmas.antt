-- The entries of a call, from taking them to forcing them.
use Rattle.std.proofs.Common.{◌≡◌, ◌+◌, ◌<◌, List, ◌++◌, length, Result, Ok, Err, OnOk, sym, ap, subst, arith}
use Rattle.std.proofs.Math.Logic.{∥∥₁_map}
use Rattle.store_model.specs.Disk.{Disk, Leaves}
use Rattle.entry_codec.specs.declared.entries.Entry.{Entry}
use Rattle.receiver_chain.specs.Receivers.{Kept}
use Rattle.receiver_chain.specs.Chain.{ChainState}
use Rattle.journal_book.specs.Book.{BookState, Holds, IsHeld, Keeps, next_of}
use Rattle.journal_book.specs.Kept.{IsForcedOrFrom}
use Rattle.journal_book.proofs.Deposits.{holds_same_chain}
use Rattle.kept_journal.specs.Journals.{with_entries}

pub ok-map : {A E P Q : Type 0} (r : Result A E) → OnOk r P → (P → Q) → OnOk r Q
ok-map (Ok x) p f = f p
ok-map (Err e) p f = p

module _ (old new : BookState) (entries : List Entry) (disk : Disk) (put : new ≡ with_entries entries new.bytes old) (keeps : (kept : Kept) (xs : List Entry) → Keeps old kept xs → Keeps new kept (xs ++ entries)) where
  pub taken-holds : (all : List Entry) → Holds old all disk → Holds new (all ++ entries) disk
  taken-holds all holds = holds_same_chain old new all (all ++ entries) disk (ap (λ (b : BookState). b.chain) put) (λ kept. keeps kept all) holds

  pub taken-held : IsHeld old disk → IsHeld new disk
  taken-held held = ∥∥₁_map held (λ has. (has.0 ++ entries, taken-holds has.0 has.1))

  pub taken-place : 0 < old.chain.room → 0 < new.chain.room
  taken-place some = subst (λ (chain : ChainState). 0 < chain.room) (sym (ap (λ (b : BookState). b.chain) put)) some

  pub taken-moments : (later : Disk) (all : List Entry) → Leaves disk later (IsForcedOrFrom new.chain.first new.forced (length (all ++ entries)) (all ++ entries))
      → Leaves disk later (IsForcedOrFrom old.chain.first old.forced (length (all ++ entries)) (all ++ entries))
  taken-moments later all leaves = subst (λ (b : BookState). Leaves disk later (IsForcedOrFrom b.chain.first b.forced (length (all ++ entries)) (all ++ entries))) put leaves

  pub taken-next : next_of new ≡ next_of old + length entries
  taken-next = omega (arith, ap (λ (b : BookState). b.first) put, ap (λ (b : BookState). b.forced) put, ap (λ (b : BookState). b.waiting) put)
