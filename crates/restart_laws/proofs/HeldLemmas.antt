-- The slots of a member hold what is so of the images in its entries, and so do they once open commit cycles are rolled back.
use Rattle.std.proofs.Common.{◌≡◌, ℕ, zero, suc, ◌<◌, true, false, if◌then◌else◌, Option, Some, None, List, [], ◌∷◌, length, replicate, refl, sym, ◌∙◌, subst, arith}
use Rattle.std.specs.List.{AllByRecursion, filter}
use Rattle.entry_codec.specs.declared.entries.Entry.{Entry}
use Rattle.entry_codec.specs.declared.kinds.EntryKind.{EntryKind}
use Rattle.entry_codec.specs.declared.kinds.EntryKind.TheVariants.{FileCreated, FileDeleted, MemberAdded, JournalingStarted, InitialSlot, JournalingEnded, MemberCleared, MemberReorganized, ChangesApplied, ChangesRemoved, RecordAdded, RecordAddedAtNumber, BeforeImage, AfterImage, RecordDeleted, UndoBeforeImage, UndoAfterImage, UndoDelete, CommitmentStarted, CommitCycleStarted, CommitCycleCommitted, CommitCycleRolledBack, CommitmentEnded, AbnormalEnd, NextReceiver, PreviousReceiver}
use Rattle.member_slots.specs.declared.slot.Slot.{Slot}
use Rattle.member_slots.specs.declared.slot.Slot.TheVariants.{Live, Deleted}
use Rattle.member_slots.specs.Member.{is_live}
use Rattle.record_fmt.specs.declared.formats.Field.{Field}
use Rattle.journal_model.specs.Acts.{Act, Changed, Began, Committed, RolledBack, Journaled, Stood, Cleared, Reorganized, Ended, Nothing, Change, act, act_elsewhere, act_there, is_number}
use Rattle.journal_model.specs.Images.{images_of}
use Rattle.journal_model.specs.Places.{put_slot, slot_of}
use Rattle.journal_model.specs.Replay.{State, all_moved, before_of, is_in, is_not_in, moved, noted, step, undos_after}
use Rattle.journal_model.specs.Replayable.{MayFollow}
use Rattle.journal_model.specs.Restart.{all_rollback_acts, all_undone, restart_acts, rollback_acts, undo_acts}
use Rattle.journal_model.proofs.PlaceLemmas.{length-put_slot}
use Rattle.journal_model.proofs.SoundLemmas.{told_by}
use Rattle.logical_laws.proofs.ListLemmas.{each-append, each-filter}
use Rattle.lawful_states.specs.Lawful.{HoldsValues}
use Rattle.library_kept.specs.Told.{IsRecordOf}

-- what an act gives is so
abbrev pub Gives : (Slot → Type 0) → Act → Type 0
Gives P (Changed c) = P c.after
Gives P (Stood place image) = P (Live image)
Gives P (Began n) = Unit {0}
Gives P (Committed n) = Unit {0}
Gives P (RolledBack n) = Unit {0}
Gives P (Journaled images number) = Unit {0}
Gives P Cleared = Unit {0}
Gives P Reorganized = Unit {0}
Gives P Ended = Unit {0}
Gives P Nothing = Unit {0}

-- so are both sides of a change
abbrev pub IsUndo : (Slot → Type 0) → Change → Type 0
IsUndo P c = P (before_of c) × P c.after

pub record Holds (P : Slot → Type 0) (s : State) : Type 0 where
  pub slots : AllByRecursion P s.slots
  pub undos : AllByRecursion (IsUndo P) s.undos

module _ (P : Slot → Type 0) (none : P Deleted) where
  put-holds : (slots : List Slot) (place : ℕ) (new : Slot) → P new → AllByRecursion P slots → AllByRecursion P (put_slot slots place new)
  put-holds [] zero new p all = (p, tt)
  put-holds [] (suc place) new p all = (none, put-holds [] place new p tt)
  put-holds (slot ∷ slots) zero new p all = (p, all.1)
  put-holds (slot ∷ slots) (suc place) new p all = (all.0, put-holds slots place new p all.1)

  slot-holds : (slots : List Slot) (place : ℕ) → AllByRecursion P slots → P (slot_of slots place)
  slot-holds [] place all = none
  slot-holds (slot ∷ slots) zero all = all.0
  slot-holds (slot ∷ slots) (suc place) all = slot-holds slots place all.1

  replicate-holds : (n : ℕ) → AllByRecursion P (replicate n Deleted)
  replicate-holds zero = tt
  replicate-holds (suc n) = (none, replicate-holds n)

  moved-holds : (slots : List Slot) (a : Act) → Gives P a → AllByRecursion P slots → AllByRecursion P (moved slots a)
  moved-holds slots (Changed c) gives all = put-holds slots c.place c.after gives all
  moved-holds slots (Stood place image) gives all = put-holds slots place (Live image) gives all
  moved-holds slots (Began n) gives all = all
  moved-holds slots (Committed n) gives all = all
  moved-holds slots (RolledBack n) gives all = all
  moved-holds slots (Journaled images number) gives all = replicate-holds number
  moved-holds slots Cleared gives all = tt
  moved-holds slots Reorganized gives all = each-filter P is_live slots all
  moved-holds slots Ended gives all = all
  moved-holds slots Nothing gives all = all

  undos-hold : (s : State) (a : Act) → MayFollow s a → Gives P a → Holds P s → AllByRecursion (IsUndo P) (undos_after s.undos a)
  undos-hold s (Changed c) may gives holds = by c.cycle refl
    where
      by : (o : Option ℕ) → c.cycle ≡ o → AllByRecursion (IsUndo P) (noted o c s.undos)
      by None is = holds.undos
      by (Some n) is = ((subst P (sym (told_by s c n is may)) (slot-holds s.slots c.place holds.slots), gives), holds.undos)
  undos-hold s (Committed n) may gives holds = each-filter (IsUndo P) (is_not_in n) s.undos holds.undos
  undos-hold s (RolledBack n) may gives holds = each-filter (IsUndo P) (is_not_in n) s.undos holds.undos
  undos-hold s (Stood place image) may gives holds = holds.undos
  undos-hold s (Began n) may gives holds = holds.undos
  undos-hold s (Journaled images number) may gives holds = holds.undos
  undos-hold s Cleared may gives holds = holds.undos
  undos-hold s Reorganized may gives holds = holds.undos
  undos-hold s Ended may gives holds = holds.undos
  undos-hold s Nothing may gives holds = holds.undos

  pub step-holds : (s : State) (a : Act) → MayFollow s a → Gives P a → Holds P s → Holds P (step s a)
  step-holds s a may gives holds = record { slots = moved-holds s.slots a gives holds.slots; undos = undos-hold s a may gives holds }

  -- ---- rolled back

  all-moved-hold : (acts : List Act) (slots : List Slot) → AllByRecursion (Gives P) acts → AllByRecursion P slots → AllByRecursion P (all_moved slots acts)
  all-moved-hold [] slots give all = all
  all-moved-hold (a ∷ acts) slots give all = all-moved-hold acts (moved slots a) give.1 (moved-holds slots a give.0 all)

  undo-gives : (undos : List Change) → AllByRecursion (IsUndo P) undos → AllByRecursion (Gives P) (undo_acts undos)
  undo-gives [] all = tt
  undo-gives (c ∷ undos) all = (all.0.0, undo-gives undos all.1)

  all-give : (cycles : List ℕ) (undos : List Change) → AllByRecursion (IsUndo P) undos → AllByRecursion (Gives P) (all_rollback_acts cycles undos)
  all-give [] undos all = tt
  all-give (n ∷ cycles) undos all =
      each-append (Gives P) (rollback_acts n undos) (all_rollback_acts cycles undos)
      (each-append (Gives P) (undo_acts (filter (is_in n) undos)) (RolledBack n ∷ []) (undo-gives (filter (is_in n) undos) (each-filter (IsUndo P) (is_in n) undos all)) (tt, tt))
      (all-give cycles undos all)

  pub undone-holds : (s : State) → Holds P s → AllByRecursion P (all_undone s)
  undone-holds s holds = all-moved-hold (restart_acts s) s.slots (all-give s.cycles s.undos holds.undos) holds.slots

-- ---- no slot more

abbrev Fits : ℕ → Act → Type 0
Fits many (Changed c) = c.place < many
Fits many (Stood place image) = ⊥
Fits many (Began n) = Unit {0}
Fits many (Committed n) = Unit {0}
Fits many (RolledBack n) = Unit {0}
Fits many (Journaled images number) = ⊥
Fits many Cleared = ⊥
Fits many Reorganized = ⊥
Fits many Ended = Unit {0}
Fits many Nothing = Unit {0}

moved-long : (slots : List Slot) (a : Act) → Fits (length slots) a → length (moved slots a) ≡ length slots
moved-long slots (Changed c) fits = let long = length-put_slot slots c.place c.after in omega (arith, long, fits)
moved-long slots (Stood place image) fits = absurd fits
moved-long slots (Began n) fits = refl
moved-long slots (Committed n) fits = refl
moved-long slots (RolledBack n) fits = refl
moved-long slots (Journaled images number) fits = absurd fits
moved-long slots Cleared fits = absurd fits
moved-long slots Reorganized fits = absurd fits
moved-long slots Ended fits = refl
moved-long slots Nothing fits = refl

all-moved-long : (acts : List Act) (slots : List Slot) → AllByRecursion (Fits (length slots)) acts → length (all_moved slots acts) ≡ length slots
all-moved-long [] slots fit = refl
all-moved-long (a ∷ acts) slots fit =
    let one = moved-long slots a fit.0 in
    all-moved-long acts (moved slots a) (subst (λ (n : ℕ). AllByRecursion (Fits n) acts) (sym one) fit.1) ∙ one

undo-fits : (many : ℕ) (undos : List Change) → AllByRecursion (λ (c : Change). c.place < many) undos → AllByRecursion (Fits many) (undo_acts undos)
undo-fits many [] all = tt
undo-fits many (c ∷ undos) all = (all.0, undo-fits many undos all.1)

all-fit : (many : ℕ) (cycles : List ℕ) (undos : List Change) → AllByRecursion (λ (c : Change). c.place < many) undos → AllByRecursion (Fits many) (all_rollback_acts cycles undos)
all-fit many [] undos all = tt
all-fit many (n ∷ cycles) undos all =
    each-append (Fits many) (rollback_acts n undos) (all_rollback_acts cycles undos)
    (each-append (Fits many) (undo_acts (filter (is_in n) undos)) (RolledBack n ∷ [])
    (undo-fits many (filter (is_in n) undos) (each-filter (λ (c : Change). c.place < many) (is_in n) undos all)) (tt, tt))
    (all-fit many cycles undos all)

pub undone-long : (s : State) → AllByRecursion (λ (c : Change). c.place < length s.slots) s.undos → length (all_undone s) ≡ length s.slots
undone-long s within = all-moved-long (restart_acts s) s.slots (all-fit (length s.slots) s.cycles s.undos within)

-- ---- the images of an entry

gives-there : (fields : List Field) (kind : EntryKind) (prior : Option Entry) (e : Entry) → AllByRecursion (IsRecordOf fields) (images_of kind) → Gives (HoldsValues fields) (act_there kind prior e)
gives-there fields (RecordAdded image) prior e all = all.0.values
gives-there fields (RecordAddedAtNumber image) prior e all = all.0.values
gives-there fields (AfterImage true image) prior e all = all.0.values
gives-there fields (AfterImage false image) prior e all = all.0.values
gives-there fields (UndoAfterImage true image) prior e all = all.0.values
gives-there fields (UndoAfterImage false image) prior e all = all.0.values
gives-there fields (RecordDeleted before) prior e all = tt
gives-there fields (UndoDelete image) prior e all = tt
gives-there fields (JournalingStarted images slots) prior e all = tt
gives-there fields (InitialSlot image) prior e all = all.0.values
gives-there fields JournalingEnded prior e all = tt
gives-there fields MemberCleared prior e all = tt
gives-there fields MemberReorganized prior e all = tt
gives-there fields (FileCreated kind name source) prior e all = tt
gives-there fields (FileDeleted name) prior e all = tt
gives-there fields (MemberAdded file name) prior e all = tt
gives-there fields (ChangesApplied first last changes) prior e all = tt
gives-there fields (ChangesRemoved first last changes) prior e all = tt
gives-there fields (BeforeImage image) prior e all = tt
gives-there fields (UndoBeforeImage image) prior e all = tt
gives-there fields (CommitmentStarted level) prior e all = tt
gives-there fields CommitCycleStarted prior e all = tt
gives-there fields CommitCycleCommitted prior e all = tt
gives-there fields CommitCycleRolledBack prior e all = tt
gives-there fields CommitmentEnded prior e all = tt
gives-there fields AbnormalEnd prior e all = tt
gives-there fields (NextReceiver number) prior e all = tt
gives-there fields (PreviousReceiver number) prior e all = tt

gives-elsewhere : (P : Slot → Type 0) (kind : EntryKind) (e : Entry) → Gives P (act_elsewhere kind e)
gives-elsewhere P (RecordAdded image) e = tt
gives-elsewhere P (RecordAddedAtNumber image) e = tt
gives-elsewhere P (AfterImage has_before image) e = tt
gives-elsewhere P (UndoAfterImage has_before image) e = tt
gives-elsewhere P (RecordDeleted before) e = tt
gives-elsewhere P (UndoDelete image) e = tt
gives-elsewhere P (JournalingStarted images slots) e = tt
gives-elsewhere P (InitialSlot image) e = tt
gives-elsewhere P JournalingEnded e = tt
gives-elsewhere P MemberCleared e = tt
gives-elsewhere P MemberReorganized e = tt
gives-elsewhere P (FileCreated kind name source) e = tt
gives-elsewhere P (FileDeleted name) e = tt
gives-elsewhere P (MemberAdded file name) e = tt
gives-elsewhere P (ChangesApplied first last changes) e = tt
gives-elsewhere P (ChangesRemoved first last changes) e = tt
gives-elsewhere P (BeforeImage image) e = tt
gives-elsewhere P (UndoBeforeImage image) e = tt
gives-elsewhere P (CommitmentStarted level) e = tt
gives-elsewhere P CommitCycleStarted e = tt
gives-elsewhere P CommitCycleCommitted e = tt
gives-elsewhere P CommitCycleRolledBack e = tt
gives-elsewhere P CommitmentEnded e = tt
gives-elsewhere P AbnormalEnd e = tt
gives-elsewhere P (NextReceiver number) e = tt
gives-elsewhere P (PreviousReceiver number) e = tt

-- of the member that it names
pub gives-act : (fields : List Field) (member : ℕ) (prior : Option Entry) (e : Entry) → (is_number e.member member ≡ true → AllByRecursion (IsRecordOf fields) (images_of e.kind))
    → Gives (HoldsValues fields) (act member prior e)
gives-act fields member prior e own =
    elim (is_number e.member member) as (λ b. (b ≡ true → AllByRecursion (IsRecordOf fields) (images_of e.kind))
    → Gives (HoldsValues fields) (if b then act_there e.kind prior e else act_elsewhere e.kind e)) [
      | true ↦ λ its. gives-there fields e.kind prior e (its refl)
      | false ↦ λ its. gives-elsewhere (HoldsValues fields) e.kind e
    ] own
