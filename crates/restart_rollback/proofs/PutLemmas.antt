-- Entries that are put behind those of a journal, and what a stop leaves meanwhile.
use Rattle.std.proofs.Common.{inl, ℕ, ◌≤◌, List, ◌++◌, length, refl, sym, subst, arith, length-append}
use Rattle.store_model.specs.Disk.{Disk, Leaves}
use Rattle.store_model.proofs.Runs.{leaves_stays}
use Rattle.entry_codec.specs.declared.entries.Entry.{Entry}
use Rattle.receiver_chain.proofs.Switches.{stays_here}
use Rattle.journal_book.specs.Book.{BookState, HasMoreRoom, Holds, IsHeld}
use Rattle.journal_book.specs.Kept.{IsForcedOrFrom, SpellEntries}
use Rattle.journal_book.proofs.Deposits.{more_holds}
use Rattle.journal_book.proofs.Forcing.{all_counted, forced_left}

-- nothing was done yet
pub still : (book : BookState) (entries more : List Entry) (disk : Disk) → Holds book entries disk → Leaves disk disk (IsForcedOrFrom book.chain.first book.forced (length (entries ++ more)) (entries ++ more))
still book entries more disk holds =
    let counted = all_counted book entries disk holds in
    let within : book.forced ≤ length entries = omega (arith, counted) in
    leaves_stays disk disk (IsForcedOrFrom book.chain.first book.forced (length (entries ++ more)) (entries ++ more)) (stays_here disk)
    (λ c may. record {
      count = book.forced;
      which = inl refl;
      at_most = omega (arith, within, length-append entries more);
      spells = subst (λ (l : List Entry). SpellEntries book.chain.first l c) (sym (Rattle.std.proofs.lemmas.List.take-append-le book.forced entries more within)) (forced_left book entries disk holds c may);
    })

-- the book with more room
module _ (old new : BookState) (entries more : List Entry) (disk : Disk) (room : HasMoreRoom old new) where
  pub roomy-holds : Holds old entries disk → Holds new entries disk
  roomy-holds holds = more_holds old new entries disk room holds

  pub roomy-held : Holds old entries disk → IsHeld new disk
  roomy-held holds = ∣ (entries, roomy-holds holds) ∣₁

  pub roomy-moments : (later : Disk) → Leaves disk later (IsForcedOrFrom new.chain.first new.forced (length (entries ++ more)) (entries ++ more))
      → Leaves disk later (IsForcedOrFrom old.chain.first old.forced (length (entries ++ more)) (entries ++ more))
  roomy-moments later leaves =
      subst (λ (n : ℕ). Leaves disk later (IsForcedOrFrom old.chain.first n (length (entries ++ more)) (entries ++ more))) room.forced
      (subst (λ (n : ℕ). Leaves disk later (IsForcedOrFrom n new.forced (length (entries ++ more)) (entries ++ more))) room.receiver leaves)
