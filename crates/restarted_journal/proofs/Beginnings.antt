-- The entry by which a receiver begins changes nothing of what is open, so that what is rolled back behind it is what a restart rolls back.
use Rattle.std.proofs.Common.{◌≡◌, ◌⊎◌, inl, inr, ℕ, ◌+◌, ◌-◌, Option, Some, None, List, [], ◌∷◌, ◌++◌, length, take, get_or, refl, sym, ◌∙◌, ap, subst, arith, append_assoc, length-append}
use Rattle.std.proofs.lemmas.List.{append-nil, take_all, take_more}
use Rattle.entry_codec.specs.declared.entries.Entry.{Entry}
use Rattle.entry_codec.specs.declared.entries.Draft.{Draft}
use Rattle.entry_codec.specs.declared.kinds.EntryKind.{EntryKind}
use Rattle.entry_codec.specs.declared.kinds.EntryKind.TheVariants.{FileCreated, FileDeleted, MemberAdded, JournalingStarted, InitialSlot, JournalingEnded, MemberCleared, MemberReorganized, ChangesApplied, ChangesRemoved, RecordAdded, RecordAddedAtNumber, BeforeImage, AfterImage, RecordDeleted, UndoBeforeImage, UndoAfterImage, UndoDelete, CommitmentStarted, CommitCycleStarted, CommitCycleCommitted, CommitCycleRolledBack, CommitmentEnded, AbnormalEnd, NextReceiver, PreviousReceiver}
use Rattle.journal_model.specs.Acts.{Act, Nothing, act, acts, entry_before}
use Rattle.journal_model.specs.Replay.{State, replay}
use Rattle.journal_model.specs.Rollback.{MemberChange, library_draft, missing_behind, missing_draft, missing_kind, named, numbered_from, restart_drafts, undos_by, undos_of}
use Rattle.journal_model.specs.Journal.{last_sequence, open_cycles, start_of}
use Rattle.journal_model.specs.Pairs.{BeginsNoPair}
use Rattle.journal_model.proofs.MemberLemmas.{acts-append}
use Rattle.journal_model.proofs.ReplayLemmas.{replay-append}
use Rattle.journal_replay.specs.SoFar.{EndsWhole}
use Rattle.restart_rollback.specs.Journals.{journal_with}
use Rattle.restart_rollback.specs.Rollbacks.{rolled_back}
use Rattle.restarted_journal.specs.Restarts.{beginning, begun_with, first_entry, restarted_entries}

-- ---- the last entry

before-push : (prior : Option Entry) (entries : List Entry) (e : Entry) → entry_before prior (entries ++ e ∷ []) ≡ Some e
before-push prior [] e = refl
before-push prior (x ∷ entries) e = before-push (Some x) entries e

-- an entry by which a receiver begins ends the journal whole
pub first-whole : (job : Option (List ℕ)) (moment number sequence : ℕ) (entries : List Entry) → EndsWhole (journal_with (entries ++ first_entry job moment number sequence ∷ []))
first-whole job moment number sequence entries =
    subst (λ (last : Option Entry). BeginsNoPair last) (sym (before-push None entries (first_entry job moment number sequence))) refl

pub last-before : (entries : List Entry) (i : ℕ) (e : Entry) → length entries ≡ i + 1 → e ≡ get_or entries i e → entry_before None entries ≡ Some e
last-before entries i e long is =
    ap (entry_before None) (sym (take_all (i + 1) entries (omega (arith, long))) ∙ take_more entries i e (omega (arith, long)) ∙ ap (λ (x : Entry). take i entries ++ x ∷ []) (sym is))
    ∙ before-push None (take i entries) e

-- ---- what is missing behind it

one-missing : (kind : EntryKind) → (missing_kind kind ≡ None) ⊎ ((number : ℕ) × (missing_kind kind ≡ Some (PreviousReceiver number)))
one-missing (FileCreated kind name source) = inl refl
one-missing (FileDeleted name) = inl refl
one-missing (MemberAdded file name) = inl refl
one-missing (JournalingStarted images slots) = inl refl
one-missing (InitialSlot image) = inl refl
one-missing JournalingEnded = inl refl
one-missing MemberCleared = inl refl
one-missing MemberReorganized = inl refl
one-missing (ChangesApplied first last changes) = inl refl
one-missing (ChangesRemoved first last changes) = inl refl
one-missing (RecordAdded image) = inl refl
one-missing (RecordAddedAtNumber image) = inl refl
one-missing (BeforeImage image) = inl refl
one-missing (AfterImage has_before image) = inl refl
one-missing (RecordDeleted before) = inl refl
one-missing (UndoBeforeImage image) = inl refl
one-missing (UndoAfterImage has_before image) = inl refl
one-missing (UndoDelete image) = inl refl
one-missing (CommitmentStarted level) = inl refl
one-missing CommitCycleStarted = inl refl
one-missing CommitCycleCommitted = inl refl
one-missing CommitCycleRolledBack = inl refl
one-missing CommitmentEnded = inl refl
one-missing AbnormalEnd = inl refl
one-missing (NextReceiver number) = inr (number - 1, refl)
one-missing (PreviousReceiver number) = inl refl

missing-none-or-one : (job : Option (List ℕ)) (moment : ℕ) (last : Option Entry) → (missing_behind job moment last ≡ []) ⊎
    ((number : ℕ) × (missing_behind job moment last ≡ library_draft job moment (PreviousReceiver number) ∷ []))
missing-none-or-one job moment None = inl refl
missing-none-or-one job moment (Some last) = elim (one-missing last.kind) [
  | inl none ↦ inl (ap (missing_draft job moment) none)
  | inr one ↦ inr (one.0, ap (missing_draft job moment) one.1)
]

-- of the entries in a slice, by the number that was found
pub missing-at : (job : Option (List ℕ)) (moment : ℕ) (slice entries : List Entry) (found number : Option ℕ) → slice ≡ entries → found ≡ number
    → missing_behind job moment (entry_before None slice) ≡ missing_draft job moment (beginning found) → missing_behind job moment (entry_before None entries) ≡ missing_draft job moment
    (beginning number)
missing-at job moment slice entries found number same is missing =
    sym (ap (λ (l : List Entry). missing_behind job moment (entry_before None l)) same) ∙ missing ∙ ap (λ (o : Option ℕ). missing_draft job moment (beginning o)) is

-- ---- it changes nothing of what is open

module _ (job : Option (List ℕ)) (moment number sequence : ℕ) (entries : List Entry) where
  no-acts : acts 0 None (entries ++ first_entry job moment number sequence ∷ []) ≡ acts 0 None entries ++ Nothing ∷ []
  no-acts = acts-append 0 None entries (first_entry job moment number sequence ∷ [])

  cycles-begun : open_cycles (journal_with (entries ++ first_entry job moment number sequence ∷ [])) ≡ open_cycles (journal_with entries)
  cycles-begun =
      ap (λ (l : List Act). (replay (start_of (journal_with entries) 0) l).cycles) no-acts
      ∙ ap (λ (s : State). s.cycles) (replay-append (start_of (journal_with entries) 0) (acts 0 None entries) (Nothing ∷ []))

undos-push : (undos : List MemberChange) (prior : Option Entry) (entries : List Entry) (e : Entry)
    → undos_of undos prior (entries ++ e ∷ []) ≡ undos_by (act (named e.member) (entry_before prior entries) e) (named e.member) (undos_of undos prior entries)
undos-push undos prior [] e = refl
undos-push undos prior (x ∷ entries) e = undos-push (undos_by (act (named x.member) prior x) (named x.member) undos) (Some x) entries e

undos-begun : (job : Option (List ℕ)) (moment number sequence : ℕ) (entries : List Entry) → undos_of [] None (entries ++ first_entry job moment number sequence ∷ []) ≡ undos_of [] None entries
undos-begun job moment number sequence entries = undos-push [] None entries (first_entry job moment number sequence)

-- ---- so both together are the restart

module _ (job : Option (List ℕ)) (moment : ℕ) (entries : List Entry) where
  abbrev rolling : List Draft
  rolling = restart_drafts job moment (open_cycles (journal_with entries)) (undos_of [] None entries)

  from-last : last_sequence (journal_with entries) ≡ length entries
  from-last = omega arith

  restarted-by : (missing : List Draft) → missing_behind job moment (entry_before None entries) ≡ missing → restarted_entries job moment entries ≡ entries ++ numbered_from (length entries + 1)
      (missing ++ rolling)
  restarted-by missing is =
      ap (λ (ds : List Draft). entries ++ numbered_from (last_sequence (journal_with entries) + 1) (ds ++ rolling)) is
      ∙ ap (λ (n : ℕ). entries ++ numbered_from (n + 1) (missing ++ rolling)) from-last

  ends-none : missing_behind job moment (entry_before None entries) ≡ [] → rolled_back job moment (begun_with job moment entries) ≡ restarted_entries job moment entries
  ends-none none =
      ap (λ (ds : List Draft). rolled_back job moment (entries ++ numbered_from (length entries + 1) ds)) none
      ∙ ap (rolled_back job moment) (append-nil entries) ∙ sym (restarted-by [] none)

  module _ (number : ℕ) (one : missing_behind job moment (entry_before None entries) ≡ library_draft job moment (PreviousReceiver number) ∷ []) where
    abbrev its : Entry
    its = first_entry job moment number (length entries + 1)

    long : length (entries ++ its ∷ []) ≡ length entries + 1
    long = length-append entries (its ∷ [])

    rolled-one : rolled_back job moment (entries ++ its ∷ []) ≡ (entries ++ its ∷ []) ++ numbered_from (length entries + 1 + 1) rolling
    rolled-one =
        ap (λ (n : ℕ). (entries ++ its ∷ []) ++ numbered_from (n + 1) (restart_drafts job moment (open_cycles (journal_with (entries ++ its ∷ []))) (undos_of [] None (entries ++ its ∷ [])))) long
        ∙ ap (λ (cycles : List ℕ). (entries ++ its ∷ []) ++ numbered_from (length entries + 1 + 1) (restart_drafts job moment cycles (undos_of [] None (entries ++ its ∷ []))))
        (cycles-begun job moment number (length entries + 1) entries)
        ∙ ap (λ (undos : List MemberChange). (entries ++ its ∷ []) ++ numbered_from (length entries + 1 + 1) (restart_drafts job moment (open_cycles (journal_with entries)) undos))
        (undos-begun job moment number (length entries + 1) entries)

    ends-one : rolled_back job moment (begun_with job moment entries) ≡ restarted_entries job moment entries
    ends-one =
        ap (λ (ds : List Draft). rolled_back job moment (entries ++ numbered_from (length entries + 1) ds)) one
        ∙ rolled-one ∙ append_assoc entries (its ∷ []) (numbered_from (length entries + 1 + 1) rolling)
        ∙ sym (restarted-by (library_draft job moment (PreviousReceiver number) ∷ []) one)

  pub rolled-restarted : rolled_back job moment (begun_with job moment entries) ≡ restarted_entries job moment entries
  rolled-restarted = elim (missing-none-or-one job moment (entry_before None entries)) [
    | inl none ↦ ends-none none
    | inr one ↦ ends-one one.0 one.1
  ]

  -- by the number that is missing
  pub begun-none : missing_behind job moment (entry_before None entries) ≡ missing_draft job moment (beginning None) → begun_with job moment entries ≡ entries
  begun-none none = ap (λ (ds : List Draft). entries ++ numbered_from (length entries + 1) ds) none ∙ append-nil entries

  pub begun-one : (number : ℕ) → missing_behind job moment (entry_before None entries) ≡ missing_draft job moment (beginning (Some number))
      → begun_with job moment entries ≡ entries ++ first_entry job moment number (length entries + 1) ∷ []
  begun-one number one = ap (λ (ds : List Draft). entries ++ numbered_from (length entries + 1) ds) one

  -- no pair of images is open behind it either
  pub begun-whole : EndsWhole (journal_with entries) → EndsWhole (journal_with (begun_with job moment entries))
  begun-whole whole = elim (missing-none-or-one job moment (entry_before None entries)) [
    | inl none ↦ subst (λ (l : List Entry). EndsWhole (journal_with l)) (sym (begun-none none)) whole
    | inr one ↦ subst (λ (l : List Entry). EndsWhole (journal_with l)) (sym (begun-one one.0 one.1)) (first-whole job moment one.0 (length entries + 1) entries)
  ]
