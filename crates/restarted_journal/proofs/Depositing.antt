-- An entry that is deposited in an empty book, forced alone.
use Rattle.std.proofs.Common.{◌≡◌, ℕ, ◌+◌, ◌<◌, ◌≤◌, Option, List, [], ◌∷◌, ◌++◌, length, refl, sym, ◌∙◌, ap, subst, arith}
use Rattle.store_model.specs.Disk.{Disk, Leaves}
use Rattle.gated_log.specs.declared.layout.TheConstants.{MAX_BLOCK}
use Rattle.entry_codec.specs.declared.entries.Entry.{Entry}
use Rattle.entry_codec.specs.declared.entries.Draft.{Draft}
use Rattle.entry_codec.specs.declared.kinds.EntryKind.TheVariants.{PreviousReceiver}
use Rattle.entry_codec.specs.Drafts.{numbered}
use Rattle.entry_codec.specs.Spelling.{HasSpelling, spelling}
use Rattle.journal_model.specs.Catalogue.{Descriptions}
use Rattle.journal_model.specs.Rollback.{library_draft}
use Rattle.journal_replay.specs.Standing.{Standing}
use Rattle.receiver_chain.specs.Chain.{ChainState}
use Rattle.receiver_chain.specs.Receivers.{Kept}
use Rattle.journal_book.specs.Book.{BookState, HasMoreRoom, Holds, IsHeld, Keeps, with_entry}
use Rattle.journal_book.specs.Kept.{IsForcedOrFrom}
use Rattle.journal_book.proofs.Deposits.{holds_same_chain}
use Rattle.restart_rollback.specs.Journals.{IsLeftBy}
use Rattle.restart_rollback.specs.Rollbacks.{IsForcedOrReplayed}
use Rattle.restart_rollback.proofs.PutLemmas.{roomy-moments}
use Rattle.restart_rollback.proofs.Wholes.{left-reopens, replayed-exactly}
use Rattle.restarted_journal.specs.Restarts.{first_entry}
use Rattle.restarted_journal.proofs.Beginnings.{first-whole}

-- the entry by which a receiver begins has a spelling
pub first-spelled : {job : _} {moment : _} (number sequence : ℕ) → HasSpelling (first_entry job moment number sequence)
first-spelled number sequence = record { placed = refl; fields = tt }

module _ (old new : BookState) (e its : Entry) (is : e ≡ its) (deposited : new ≡ with_entry its new.bytes old) where
  chain-same : new.chain ≡ old.chain
  chain-same = ap (λ (b : BookState). b.chain) deposited

  pub deposited-some : 0 < new.waiting
  deposited-some = let more = ap (λ (b : BookState). b.waiting) deposited in omega (arith, more)

  pub deposited-place : 0 < old.chain.room → 0 < new.chain.room
  deposited-place some = subst (λ (chain : ChainState). 0 < chain.room) (sym chain-same) some

  pub deposited-small : old.buffered ≡ [] → length (spelling e) ≤ MAX_BLOCK → length new.buffered ≤ MAX_BLOCK
  deposited-small none small =
      let all : length new.buffered ≡ length (spelling e) =
      ap (λ (b : BookState). length b.buffered) deposited ∙ ap (λ (l : List ℕ). length (l ++ spelling its)) none ∙ ap (λ (x : Entry). length (spelling x)) (sym is) in
      omega (arith, all, small)

  module _ (keeps : (kept : Kept) (entries : List Entry) → Keeps old kept entries → Keeps new kept (entries ++ its ∷ [])) (entries : List Entry) (disk : Disk) where
    pub deposited-holds : Holds old entries disk → Holds new (entries ++ e ∷ []) disk
    deposited-holds holds = holds_same_chain old new entries (entries ++ e ∷ []) disk chain-same (λ kept front. subst (λ (x : Entry). Keeps new kept (entries ++ x ∷ [])) (sym is)
        (keeps kept entries front)) holds

    pub deposited-held : Holds old entries disk → IsHeld new disk
    deposited-held holds = ∣ (entries ++ e ∷ [], deposited-holds holds) ∣₁

    pub deposited-moments : (later : Disk) → Leaves disk later (IsForcedOrFrom new.chain.first new.forced (length (entries ++ e ∷ [])) (entries ++ e ∷ []))
        → Leaves disk later (IsForcedOrFrom old.chain.first old.forced (length (entries ++ e ∷ [])) (entries ++ e ∷ []))
    deposited-moments later leaves = subst (λ (b : BookState). Leaves disk later (IsForcedOrFrom b.chain.first b.forced (length (entries ++ e ∷ [])) (entries ++ e ∷ []))) deposited leaves

-- ---- the entry by which a receiver begins

pub entry-is : (job : Option (List ℕ)) (moment number : ℕ) (slice entries : List Entry) (draft : Draft) (e : Entry) (sequence : ℕ) → slice ≡ entries → draft ≡ library_draft job moment
    (PreviousReceiver number)
    → e ≡ numbered draft sequence → sequence ≡ length slice + 1 → e ≡ first_entry job moment number (length entries + 1)
entry-is job moment number slice entries draft e sequence same from is behind =
    is ∙ ap (λ (d : Draft). numbered d sequence) from ∙ ap (λ (n : ℕ). numbered (library_draft job moment (PreviousReceiver number)) n) behind
    ∙ ap (λ (l : List Entry). numbered (library_draft job moment (PreviousReceiver number)) (length l + 1)) same

-- it is put behind the others, in a book that got room
module _ (job : Option (List ℕ)) (moment number sequence : ℕ) (book roomy : BookState) (room : HasMoreRoom book roomy) (entries : List Entry) (e : Entry)
    (is : e ≡ first_entry job moment number sequence) (old new : Disk)
    (leaves : Leaves old new (IsForcedOrFrom roomy.chain.first roomy.forced (length (entries ++ e ∷ [])) (entries ++ e ∷ []))) where
  abbrev its : Entry
  its = first_entry job moment number sequence

  pub first-moments : Leaves old new (IsForcedOrFrom book.chain.first book.forced (length (entries ++ its ∷ [])) (entries ++ its ∷ []))
  first-moments =
      subst (λ (x : Entry). Leaves old new (IsForcedOrFrom book.chain.first book.forced (length (entries ++ x ∷ [])) (entries ++ x ∷ []))) is
      (roomy-moments book roomy entries (e ∷ []) old room new leaves)

  -- and was taken
  pub first-replays : (d : Descriptions) (s : Standing) → IsLeftBy d (entries ++ e ∷ []) s → Leaves old new (IsForcedOrReplayed d book.chain.first book.forced (entries ++ its ∷ []))
  first-replays d s left =
      let here : IsLeftBy d (entries ++ its ∷ []) s = subst (λ (x : Entry). IsLeftBy d (entries ++ x ∷ []) s) is left in
      replayed-exactly d book.chain.first book.forced (entries ++ its ∷ []) old new
      (left-reopens d (entries ++ its ∷ []) s here (first-whole job moment number sequence entries)) first-moments
