-- The last entry of a restart begins no pair of images, so that a journal with these entries can be replayed where they were taken.
use Rattle.std.proofs.Common.{◌≡◌, inl, inr, ℕ, ◌+◌, ◌≤◌, Option, Some, None, List, [], ◌∷◌, ◌++◌, length, take, refl, sym, ◌∙◌, ap, subst, arith, append_assoc}
use Rattle.std.specs.List.{filter}
use Rattle.std.proofs.lemmas.List.{take_all, take-append-le}
use Rattle.store_model.specs.Disk.{Disk, Leaves}
use Rattle.store_model.proofs.Runs.{leaves_less, leaves_stays}
use Rattle.entry_codec.specs.declared.entries.Entry.{Entry}
use Rattle.entry_codec.specs.declared.entries.Draft.{Draft}
use Rattle.entry_codec.specs.declared.kinds.EntryKind.TheVariants.{AbnormalEnd, CommitCycleRolledBack}
use Rattle.entry_codec.specs.Drafts.{numbered}
use Rattle.receiver_chain.proofs.Switches.{stays_here}
use Rattle.journal_model.specs.Acts.{entry_before}
use Rattle.journal_model.specs.Catalogue.{Descriptions}
use Rattle.journal_model.specs.Journal.{open_cycles}
use Rattle.journal_model.specs.Pairs.{BeginsNoPair}
use Rattle.journal_model.specs.Replay.{is_in}
use Rattle.journal_model.specs.Rollback.{MemberChange, all_rollback_drafts, cycle_draft, library_draft, numbered_from, restart_drafts, undo_drafts, undos_of}
use Rattle.journal_book.specs.Book.{BookState, Holds}
use Rattle.journal_book.specs.Kept.{IsForcedOrFrom, SpellEntries}
use Rattle.journal_book.proofs.Forcing.{all_counted, forced_left}
use Rattle.journal_replay.specs.SoFar.{EndsWhole}
use Rattle.journal_replay.specs.Standing.{Standing}
use Rattle.journal_replay.proofs.SoFarLemmas.{entry_before-append, journal-whole}
use Rattle.journal_opening.specs.Journals.{IsLeftBy, journal_with}
use Rattle.restart_rollback.specs.Rollbacks.{CanReopen, IsForcedOrReplayed, rollback_entries, rolled_back}

-- ---- the last of them

-- whatever comes before this draft, those from it on end so
module _ (d : Draft) (more : List Draft) (ends : (n k : ℕ) → BeginsNoPair (entry_before (Some (numbered d n)) (numbered_from k more))) where
  end-behind : (drafts : List Draft) (k : ℕ) (prior : Option Entry) → BeginsNoPair (entry_before prior (numbered_from k (drafts ++ d ∷ more)))
  end-behind [] k prior = ends k (k + 1)
  end-behind (x ∷ drafts) k prior = end-behind drafts (k + 1) (Some (numbered x k))

module _ (job : Option (List ℕ)) (moment : ℕ) (undos : List MemberChange) where
  rollbacks-end : (cycles : List ℕ) (k : ℕ) (prior : Option Entry) → BeginsNoPair prior → BeginsNoPair (entry_before prior (numbered_from k (all_rollback_drafts job moment cycles undos)))
  rollbacks-end [] k prior none = none
  rollbacks-end (n ∷ cycles) k prior none =
      let own = undo_drafts job moment (filter (λ (c : MemberChange). is_in n c.change) undos) in
      let last = cycle_draft job moment n CommitCycleRolledBack in
      let more = all_rollback_drafts job moment cycles undos in
      subst (λ (drafts : List Draft). BeginsNoPair (entry_before prior (numbered_from k drafts))) (sym (append_assoc own (last ∷ []) more))
      (end-behind last more (λ m i. rollbacks-end cycles i (Some (numbered last m)) refl) own k prior)

  restart-end : (cycles : List ℕ) (k : ℕ) (prior : Option Entry) → BeginsNoPair prior → BeginsNoPair (entry_before prior (numbered_from k (restart_drafts job moment cycles undos)))
  restart-end [] k prior none = none
  restart-end (n ∷ cycles) k prior none = rollbacks-end (n ∷ cycles) (k + 1) (Some (numbered (library_draft job moment AbnormalEnd) k)) refl

-- ---- the journal with them

pub rolled-whole : (job : Option (List ℕ)) (moment : ℕ) (entries : List Entry) → EndsWhole (journal_with entries) → EndsWhole (journal_with (rolled_back job moment entries))
rolled-whole job moment entries whole =
    subst (λ (last : Option Entry). BeginsNoPair last) (sym (entry_before-append None entries (rollback_entries job moment entries)))
    (restart-end job moment (undos_of [] None entries) (open_cycles (journal_with entries)) (length entries + 1) (entry_before None entries) whole)

-- what entries leave tells that they can be replayed
pub left-reopens : (d : Descriptions) (entries : List Entry) (s : Standing) → IsLeftBy d entries s → EndsWhole (journal_with entries) → CanReopen d entries
left-reopens d entries s left whole = record {
  replays = journal-whole d (journal_with entries) left.left.so_far whole left.stays;
  deposited = record { placed = left.placed; journaled = left.journaled };
}

-- ---- what a stop leaves

-- nothing was done yet
pub replayed-still : (d : Descriptions) (book : BookState) (entries more : List Entry) (disk : Disk) → Holds book entries disk → Leaves disk disk
    (IsForcedOrReplayed d book.chain.first book.forced (entries ++ more))
replayed-still d book entries more disk holds =
    let counted = all_counted book entries disk holds in
    let within : book.forced ≤ length entries = omega (arith, counted) in
    leaves_stays disk disk (IsForcedOrReplayed d book.chain.first book.forced (entries ++ more)) (stays_here disk)
    (λ c may. inl (subst (λ (l : List Entry). SpellEntries book.chain.first l c) (sym (take-append-le book.forced entries more within)) (forced_left book entries disk holds c may)))

-- all of them can be replayed
pub replayed-exactly : (d : Descriptions) (receiver forced : ℕ) (entries : List Entry) (old new : Disk) → CanReopen d entries → Leaves old new
    (IsForcedOrFrom receiver forced (length entries) entries)
    → Leaves old new (IsForcedOrReplayed d receiver forced entries)
replayed-exactly d receiver forced entries old new can leaves =
    leaves_less old new (IsForcedOrFrom receiver forced (length entries) entries) (IsForcedOrReplayed d receiver forced entries) leaves
    (λ areas left. elim left.which [
      | inl same ↦ inl (subst (λ (n : ℕ). SpellEntries receiver (take n entries) areas) same left.spells)
      | inr whole ↦ inr (subst (λ (l : List Entry). SpellEntries receiver l areas) (take_all left.count entries whole) left.spells, can)
    ])

-- while those that were taken are put behind these
pub put-replayed : (d : Descriptions) (job : Option (List ℕ)) (moment : ℕ) (entries now more : List Entry) (s : Standing) (receiver forced : ℕ) (old new : Disk) → now ≡ entries → more ≡
    rollback_entries job moment now
    → IsLeftBy d (now ++ more) s → EndsWhole (journal_with entries) → Leaves old new (IsForcedOrFrom receiver forced (length (entries ++ more)) (entries ++ more))
    → Leaves old new (IsForcedOrReplayed d receiver forced (rolled_back job moment entries))
put-replayed d job moment entries now more s receiver forced old new same is left whole leaves =
    let here : more ≡ rollback_entries job moment entries = is ∙ ap (rollback_entries job moment) same in
    replayed-exactly d receiver forced (rolled_back job moment entries) old new
    (left-reopens d (rolled_back job moment entries) s (subst (λ (l : List Entry). IsLeftBy d (entries ++ l) s) here (subst (λ (l : List Entry). IsLeftBy d (l ++ more) s) same left))
    (rolled-whole job moment entries whole))
    (subst (λ (l : List Entry). Leaves old new (IsForcedOrFrom receiver forced (length (entries ++ l)) (entries ++ l))) here leaves)
