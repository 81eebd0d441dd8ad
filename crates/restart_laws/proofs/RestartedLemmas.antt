-- What restart deposits leaves the files and members of a journal as they were, and goes on with the numbers of its entries.
use Rattle.std.proofs.Common.{◌≡◌, ℕ, ◌+◌, Option, Some, None, List, [], ◌∷◌, ◌++◌, length, refl, ◌∙◌, ap, subst, arith}
use Rattle.std.specs.List.{AllByRecursion, filter}
use Rattle.entry_codec.specs.declared.entries.Draft.{Draft}
use Rattle.entry_codec.specs.declared.entries.Entry.{Entry}
use Rattle.entry_codec.specs.declared.kinds.EntryKind.{EntryKind}
use Rattle.entry_codec.specs.declared.kinds.EntryKind.TheVariants.{FileCreated, FileDeleted, MemberAdded, JournalingStarted, InitialSlot, JournalingEnded, MemberCleared, MemberReorganized, ChangesApplied, ChangesRemoved, RecordAdded, RecordAddedAtNumber, BeforeImage, AfterImage, RecordDeleted, UndoBeforeImage, UndoAfterImage, UndoDelete, CommitmentStarted, CommitCycleStarted, CommitCycleCommitted, CommitCycleRolledBack, CommitmentEnded, AbnormalEnd, NextReceiver, PreviousReceiver}
use Rattle.entry_codec.specs.Drafts.{numbered}
use Rattle.member_slots.specs.declared.slot.Slot.{Slot}
use Rattle.member_slots.specs.declared.slot.Slot.TheVariants.{Live, Deleted}
use Rattle.journal_model.specs.Acts.{entry_before}
use Rattle.journal_model.specs.Catalogue.{Catalogue, catalogue_after, catalogue_by}
use Rattle.journal_model.specs.Journal.{Journal, AreNumbered, catalogue_of, entries, last_sequence, open_cycles, restart_entries, restarted}
use Rattle.journal_model.specs.Replay.{before_of, is_in}
use Rattle.journal_model.specs.Rollback.{MemberChange, all_rollback_drafts, change_drafts, missing_behind, missing_draft, missing_kind, numbered_from, restart_drafts, rollback_drafts, undo_drafts, undo_kinds, undos_of}
use Rattle.journal_replay.proofs.SoFarLemmas.{catalogue_after-append}
use Rattle.logical_laws.proofs.ListLemmas.{each-append}

-- ---- entries that make and delete no file and no member

-- and begin and end no journaling
abbrev pub Quiet : Draft → Type 0
Quiet d = (e : Entry) (c : Catalogue) → catalogue_by d.kind e c ≡ c

pub quiet-entries : (drafts : List Draft) (k : ℕ) (c : Catalogue) → AllByRecursion Quiet drafts → catalogue_after c (numbered_from k drafts) ≡ c
quiet-entries [] k c all = refl
quiet-entries (d ∷ drafts) k c all =
    ap (λ (x : Catalogue). catalogue_after x (numbered_from (k + 1) drafts)) (all.0 (numbered d k) c) ∙ quiet-entries drafts (k + 1) c all.1

module _ (job : Option (List ℕ)) (moment : ℕ) where
  one-quiet : (c : MemberChange) (given changed : Slot) → AllByRecursion Quiet (change_drafts job moment c (undo_kinds given changed))
  one-quiet c (Live before) (Live after) = ((λ e x. refl), ((λ e x. refl), tt))
  one-quiet c (Live before) Deleted = ((λ e x. refl), tt)
  one-quiet c Deleted (Live after) = ((λ e x. refl), tt)
  one-quiet c Deleted Deleted = tt

  undo-quiet : (undos : List MemberChange) → AllByRecursion Quiet (undo_drafts job moment undos)
  undo-quiet [] = tt
  undo-quiet (c ∷ undos) =
      each-append Quiet (change_drafts job moment c (undo_kinds (before_of c.change) c.change.after)) (undo_drafts job moment undos)
      (one-quiet c (before_of c.change) c.change.after) (undo-quiet undos)

  rollback-quiet : (n : ℕ) (undos : List MemberChange) → AllByRecursion Quiet (rollback_drafts job moment n undos)
  rollback-quiet n undos =
      each-append Quiet (undo_drafts job moment (filter (λ (c : MemberChange). is_in n c.change) undos)) _
      (undo-quiet (filter (λ (c : MemberChange). is_in n c.change) undos)) ((λ e x. refl), tt)

  all-quiet : (cycles : List ℕ) (undos : List MemberChange) → AllByRecursion Quiet (all_rollback_drafts job moment cycles undos)
  all-quiet [] undos = tt
  all-quiet (n ∷ cycles) undos =
      each-append Quiet (rollback_drafts job moment n undos) (all_rollback_drafts job moment cycles undos) (rollback-quiet n undos) (all-quiet cycles undos)

  restart-quiet : (cycles : List ℕ) (undos : List MemberChange) → AllByRecursion Quiet (restart_drafts job moment cycles undos)
  restart-quiet [] undos = tt
  restart-quiet (n ∷ cycles) undos = ((λ e x. refl), all-quiet (n ∷ cycles) undos)

  kind-quiet : (kind : EntryKind) → AllByRecursion Quiet (missing_draft job moment (missing_kind kind))
  kind-quiet (NextReceiver number) = ((λ e x. refl), tt)
  kind-quiet (FileCreated kind name source) = tt
  kind-quiet (FileDeleted name) = tt
  kind-quiet (MemberAdded file name) = tt
  kind-quiet (JournalingStarted images slots) = tt
  kind-quiet (InitialSlot image) = tt
  kind-quiet JournalingEnded = tt
  kind-quiet MemberCleared = tt
  kind-quiet MemberReorganized = tt
  kind-quiet (ChangesApplied first last changes) = tt
  kind-quiet (ChangesRemoved first last changes) = tt
  kind-quiet (RecordAdded image) = tt
  kind-quiet (RecordAddedAtNumber image) = tt
  kind-quiet (BeforeImage image) = tt
  kind-quiet (AfterImage has_before image) = tt
  kind-quiet (RecordDeleted before) = tt
  kind-quiet (UndoBeforeImage image) = tt
  kind-quiet (UndoAfterImage has_before image) = tt
  kind-quiet (UndoDelete image) = tt
  kind-quiet (CommitmentStarted level) = tt
  kind-quiet CommitCycleStarted = tt
  kind-quiet CommitCycleCommitted = tt
  kind-quiet CommitCycleRolledBack = tt
  kind-quiet CommitmentEnded = tt
  kind-quiet AbnormalEnd = tt
  kind-quiet (PreviousReceiver number) = tt

  missing-quiet : (last : Option Entry) → AllByRecursion Quiet (missing_behind job moment last)
  missing-quiet None = tt
  missing-quiet (Some last) = kind-quiet last.kind

  pub catalogue-restarted : (j : Journal) → catalogue_of (restarted job moment j) ≡ catalogue_of j
  catalogue-restarted j =
      catalogue_after-append j.catalogue j.later (restart_entries job moment j)
      ∙ quiet-entries _ (last_sequence j + 1) (catalogue_after j.catalogue j.later)
      (each-append Quiet (missing_behind job moment (entry_before None (entries j))) (restart_drafts job moment (open_cycles j) (undos_of [] (entry_before None j.kept) j.later))
      (missing-quiet (entry_before None (entries j))) (restart-quiet (open_cycles j) (undos_of [] (entry_before None j.kept) j.later)))

-- ---- no sequence is left out

pub numbered-drafts : (drafts : List Draft) (k : ℕ) → AreNumbered k (numbered_from k drafts)
numbered-drafts [] k = tt
numbered-drafts (d ∷ drafts) k = (refl, numbered-drafts drafts (k + 1))

pub numbered-append : (n m : ℕ) (xs ys : List Entry) → m ≡ n + length xs → AreNumbered n xs → AreNumbered m ys → AreNumbered n (xs ++ ys)
numbered-append n m [] ys is are more = subst (λ (k : ℕ). AreNumbered k ys) (omega (arith, is)) more
numbered-append n m (x ∷ xs) ys is are more = (are.0, numbered-append (n + 1) m xs ys (omega (arith, is)) are.1 more)

pub numbered-restarted : (job : Option (List ℕ)) (moment : ℕ) (j : Journal) → AreNumbered (j.checkpoint + 1) j.later → AreNumbered (j.checkpoint + 1) (j.later ++ restart_entries job moment j)
numbered-restarted job moment j are =
    numbered-append (j.checkpoint + 1) (last_sequence j + 1) j.later (restart_entries job moment j) (omega arith) are (numbered-drafts _ (last_sequence j + 1))
