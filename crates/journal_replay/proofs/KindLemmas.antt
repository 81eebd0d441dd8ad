-- What an entry of each kind does to a member that is there, to one that isn't, and to the catalogue.
use Rattle.std.proofs.Common.{◌≡◌, ℕ, ◌+◌, Bool, true, false, ◌==◌, cond, List, [], ◌∷◌, ◌++◌, map, Option, Some, None, refl, sym, ap, ◌∙◌, subst, arith, ◌||◌}
use Rattle.std.specs.Prelude.{⊤, not, unwrap_or, ◌≤◌, ◌<◌}
use Rattle.std.specs.List.{filter, find, list_any, AllByRecursion}
use Rattle.std.specs.Str.{bytes_eq}
use Rattle.std.proofs.lemmas.Bool.{eqb-true, eq-eqb, ne_eqb}
use Rattle.entry_codec.specs.declared.entries.Entry.{Entry}
use Rattle.entry_codec.specs.declared.kinds.FileKind.TheVariants.{Physical, Logical}
use Rattle.entry_codec.specs.declared.kinds.FileKind.{FileKind}
use Rattle.entry_codec.specs.declared.kinds.Images.{Images}
use Rattle.entry_codec.specs.declared.kinds.EntryKind.{EntryKind}
use Rattle.entry_codec.specs.declared.kinds.EntryKind.TheVariants.{FileCreated, FileDeleted, MemberAdded, JournalingStarted, InitialSlot, JournalingEnded, MemberCleared, MemberReorganized, ChangesApplied, ChangesRemoved, RecordAdded, RecordAddedAtNumber, BeforeImage, AfterImage, RecordDeleted, UndoBeforeImage, UndoAfterImage, UndoDelete, CommitmentStarted, CommitCycleStarted, CommitCycleCommitted, CommitCycleRolledBack, CommitmentEnded, AbnormalEnd, NextReceiver, PreviousReceiver}
use Rattle.member_slots.specs.declared.slot.Slot.{Slot}
use Rattle.member_slots.specs.declared.slot.Slot.TheVariants.{Live}
use Rattle.journal_model.specs.Acts.{Act, Began, Committed, RolledBack, Nothing, Change, act, act_there, act_elsewhere, is_number, is_same_record, held_before, updated_from, undone_from, changes_slot, cycle_of}
use Rattle.journal_model.specs.Places.{slot_of}
use Rattle.journal_model.specs.Replay.{State, moved, cycles_after, undos_after, back, is_in}
use Rattle.journal_model.specs.Replayable.{MayFollow, MayRollBack, is_one_of, IsOpen}
use Rattle.journal_model.specs.Pairs.{Pair, pair_begun, pair_ended, EndsPair}
use Rattle.journal_model.specs.Catalogue.{Catalogue, CatalogFile, CatalogMember, Descriptions, MayEnterBy, member_numbered, catalogue_by, has_number, members_of, is_in_file, MakesMember, IsOfMember}
use Rattle.journal_replay.specs.Standing.{HeldMember, Standing, catalog_member, catalogue_in, slots_at, begun_by, only_begun, images_by, break_by, member_by, members_by, new_member, made_with, made_by, left_by, files_by, next_after, standing_after}
use Rattle.journal_replay.specs.Left.{is_held}

-- ---- an entry that isn't of the member

pub quiet_slots : (kind : EntryKind) (e : Entry) (all : List Slot) → moved all (act_elsewhere kind e) ≡ all
quiet_slots (FileCreated kind name source) e all = refl
quiet_slots (FileDeleted name) e all = refl
quiet_slots (MemberAdded file name) e all = refl
quiet_slots (JournalingStarted images slots) e all = refl
quiet_slots (InitialSlot image) e all = refl
quiet_slots JournalingEnded e all = refl
quiet_slots MemberCleared e all = refl
quiet_slots MemberReorganized e all = refl
quiet_slots (ChangesApplied first last changes) e all = refl
quiet_slots (ChangesRemoved first last changes) e all = refl
quiet_slots (RecordAdded image) e all = refl
quiet_slots (RecordAddedAtNumber image) e all = refl
quiet_slots (BeforeImage image) e all = refl
quiet_slots (AfterImage has_before image) e all = refl
quiet_slots (RecordDeleted before) e all = refl
quiet_slots (UndoBeforeImage image) e all = refl
quiet_slots (UndoAfterImage has_before image) e all = refl
quiet_slots (UndoDelete image) e all = refl
quiet_slots (CommitmentStarted level) e all = refl
quiet_slots CommitCycleStarted e all = refl
quiet_slots CommitCycleCommitted e all = refl
quiet_slots CommitCycleRolledBack e all = refl
quiet_slots CommitmentEnded e all = refl
quiet_slots AbnormalEnd e all = refl
quiet_slots (NextReceiver number) e all = refl
quiet_slots (PreviousReceiver number) e all = refl

pub quiet_break : (kind : EntryKind) (e : Entry) (sequence old : ℕ) → break_by (act_elsewhere kind e) sequence old ≡ old
quiet_break (FileCreated kind name source) e sequence old = refl
quiet_break (FileDeleted name) e sequence old = refl
quiet_break (MemberAdded file name) e sequence old = refl
quiet_break (JournalingStarted images slots) e sequence old = refl
quiet_break (InitialSlot image) e sequence old = refl
quiet_break JournalingEnded e sequence old = refl
quiet_break MemberCleared e sequence old = refl
quiet_break MemberReorganized e sequence old = refl
quiet_break (ChangesApplied first last changes) e sequence old = refl
quiet_break (ChangesRemoved first last changes) e sequence old = refl
quiet_break (RecordAdded image) e sequence old = refl
quiet_break (RecordAddedAtNumber image) e sequence old = refl
quiet_break (BeforeImage image) e sequence old = refl
quiet_break (AfterImage has_before image) e sequence old = refl
quiet_break (RecordDeleted before) e sequence old = refl
quiet_break (UndoBeforeImage image) e sequence old = refl
quiet_break (UndoAfterImage has_before image) e sequence old = refl
quiet_break (UndoDelete image) e sequence old = refl
quiet_break (CommitmentStarted level) e sequence old = refl
quiet_break CommitCycleStarted e sequence old = refl
quiet_break CommitCycleCommitted e sequence old = refl
quiet_break CommitCycleRolledBack e sequence old = refl
quiet_break CommitmentEnded e sequence old = refl
quiet_break AbnormalEnd e sequence old = refl
quiet_break (NextReceiver number) e sequence old = refl
quiet_break (PreviousReceiver number) e sequence old = refl

quiet_images : (kind : EntryKind) (e : Entry) (old : Option Images) → images_by (act_elsewhere kind e) old ≡ old
quiet_images (FileCreated kind name source) e old = refl
quiet_images (FileDeleted name) e old = refl
quiet_images (MemberAdded file name) e old = refl
quiet_images (JournalingStarted images slots) e old = refl
quiet_images (InitialSlot image) e old = refl
quiet_images JournalingEnded e old = refl
quiet_images MemberCleared e old = refl
quiet_images MemberReorganized e old = refl
quiet_images (ChangesApplied first last changes) e old = refl
quiet_images (ChangesRemoved first last changes) e old = refl
quiet_images (RecordAdded image) e old = refl
quiet_images (RecordAddedAtNumber image) e old = refl
quiet_images (BeforeImage image) e old = refl
quiet_images (AfterImage has_before image) e old = refl
quiet_images (RecordDeleted before) e old = refl
quiet_images (UndoBeforeImage image) e old = refl
quiet_images (UndoAfterImage has_before image) e old = refl
quiet_images (UndoDelete image) e old = refl
quiet_images (CommitmentStarted level) e old = refl
quiet_images CommitCycleStarted e old = refl
quiet_images CommitCycleCommitted e old = refl
quiet_images CommitCycleRolledBack e old = refl
quiet_images CommitmentEnded e old = refl
quiet_images AbnormalEnd e old = refl
quiet_images (NextReceiver number) e old = refl
quiet_images (PreviousReceiver number) e old = refl

pub quiet_undos : (kind : EntryKind) (e : Entry) → undos_after [] (act_elsewhere kind e) ≡ []
quiet_undos (FileCreated kind name source) e = refl
quiet_undos (FileDeleted name) e = refl
quiet_undos (MemberAdded file name) e = refl
quiet_undos (JournalingStarted images slots) e = refl
quiet_undos (InitialSlot image) e = refl
quiet_undos JournalingEnded e = refl
quiet_undos MemberCleared e = refl
quiet_undos MemberReorganized e = refl
quiet_undos (ChangesApplied first last changes) e = refl
quiet_undos (ChangesRemoved first last changes) e = refl
quiet_undos (RecordAdded image) e = refl
quiet_undos (RecordAddedAtNumber image) e = refl
quiet_undos (BeforeImage image) e = refl
quiet_undos (AfterImage has_before image) e = refl
quiet_undos (RecordDeleted before) e = refl
quiet_undos (UndoBeforeImage image) e = refl
quiet_undos (UndoAfterImage has_before image) e = refl
quiet_undos (UndoDelete image) e = refl
quiet_undos (CommitmentStarted level) e = refl
quiet_undos CommitCycleStarted e = refl
quiet_undos CommitCycleCommitted e = refl
quiet_undos CommitCycleRolledBack e = refl
quiet_undos CommitmentEnded e = refl
quiet_undos AbnormalEnd e = refl
quiet_undos (NextReceiver number) e = refl
quiet_undos (PreviousReceiver number) e = refl

-- it may follow alike in two states without changes of open commit cycles
pub quiet_follows : (kind : EntryKind) (e : Entry) (s t : State) → s.cycles ≡ t.cycles → s.next ≡ t.next → t.undos ≡ [] → MayFollow s (act_elsewhere kind e) → MayFollow t (act_elsewhere kind e)
quiet_follows (FileCreated kind name source) e s t cycles next undos h = tt
quiet_follows (FileDeleted name) e s t cycles next undos h = tt
quiet_follows (MemberAdded file name) e s t cycles next undos h = tt
quiet_follows (JournalingStarted images slots) e s t cycles next undos h = tt
quiet_follows (InitialSlot image) e s t cycles next undos h = tt
quiet_follows JournalingEnded e s t cycles next undos h = tt
quiet_follows MemberCleared e s t cycles next undos h = tt
quiet_follows MemberReorganized e s t cycles next undos h = tt
quiet_follows (ChangesApplied first last changes) e s t cycles next undos h = tt
quiet_follows (ChangesRemoved first last changes) e s t cycles next undos h = tt
quiet_follows (RecordAdded image) e s t cycles next undos h = tt
quiet_follows (RecordAddedAtNumber image) e s t cycles next undos h = tt
quiet_follows (BeforeImage image) e s t cycles next undos h = tt
quiet_follows (AfterImage has_before image) e s t cycles next undos h = tt
quiet_follows (RecordDeleted before) e s t cycles next undos h = tt
quiet_follows (UndoBeforeImage image) e s t cycles next undos h = tt
quiet_follows (UndoAfterImage has_before image) e s t cycles next undos h = tt
quiet_follows (UndoDelete image) e s t cycles next undos h = tt
quiet_follows (CommitmentStarted level) e s t cycles next undos h = tt
quiet_follows CommitCycleStarted e s t cycles next undos h = h ∙ next
quiet_follows CommitCycleCommitted e s t cycles next undos h = subst (λ (all : List ℕ). is_one_of all (cycle_of e.group) ≡ true) cycles h
quiet_follows CommitCycleRolledBack e s t cycles next undos h = record {
  begun = subst (λ (all : List ℕ). is_one_of all (cycle_of e.group) ≡ true) cycles h.begun;
  restored = λ place. subst (λ (all : List Change). back place (filter (is_in (cycle_of e.group)) all) (slot_of t.slots place) ≡ slot_of t.slots place) (sym undos) refl;
}
quiet_follows CommitmentEnded e s t cycles next undos h = tt
quiet_follows AbnormalEnd e s t cycles next undos h = tt
quiet_follows (NextReceiver number) e s t cycles next undos h = tt
quiet_follows (PreviousReceiver number) e s t cycles next undos h = tt

same_act : (b : Bool) (a : Act) → cond b a a ≡ a
same_act true a = refl
same_act false a = refl

other_number : (c : Catalogue) (own : Option ℕ) (number : ℕ) (member : CatalogMember) → member_numbered own c ≡ Some member → member_numbered (Some number) c ≡ None → is_number own number ≡ false
other_number c None number member h absent = refl
other_number c (Some own) number member h absent = at (own == number) refl where
  at : (b : Bool) → own == number ≡ b → own == number ≡ false
  at true e = let same = subst (λ (n : ℕ). member_numbered (Some n) c ≡ Some member) (eqb-true own number e) h in absurd cc
  at false e = e

-- an entry that may come isn't of a member that isn't there
absent_by : (d : Descriptions) (kind : EntryKind) (prior : Option Entry) (e : Entry) (c : Catalogue) (own : ℕ) → MayEnterBy d kind e c → member_numbered (Some own) c ≡ None
    → cond (is_number e.member own) (act_there kind prior e) (act_elsewhere kind e) ≡ act_elsewhere kind e
absent_by d (FileCreated kind name source) prior e c own h absent = same_act (is_number e.member own) _
absent_by d (FileDeleted name) prior e c own h absent = same_act (is_number e.member own) _
absent_by d (MemberAdded file name) prior e c own h absent = same_act (is_number e.member own) _
absent_by d (JournalingStarted images slots) prior e c own h absent = ap (λ (b : Bool). cond b (act_there (JournalingStarted images slots) prior e) Nothing) (other_number c e.member own h.0 h.1 absent)
absent_by d (InitialSlot image) prior e c own h absent = ap (λ (b : Bool). cond b (act_there (InitialSlot image) prior e) Nothing) (other_number c e.member own h.0 h.1 absent)
absent_by d JournalingEnded prior e c own h absent = ap (λ (b : Bool). cond b (act_there JournalingEnded prior e) Nothing) (other_number c e.member own h.0 h.1 absent)
absent_by d MemberCleared prior e c own h absent = ap (λ (b : Bool). cond b (act_there MemberCleared prior e) Nothing) (other_number c e.member own h.0 h.1 absent)
absent_by d MemberReorganized prior e c own h absent = ap (λ (b : Bool). cond b (act_there MemberReorganized prior e) Nothing) (other_number c e.member own h.0 h.1 absent)
absent_by d (ChangesApplied first last changes) prior e c own h absent = ap (λ (b : Bool). cond b (act_there (ChangesApplied first last changes) prior e) Nothing) (other_number c e.member own h.0 h.1 absent)
absent_by d (ChangesRemoved first last changes) prior e c own h absent = ap (λ (b : Bool). cond b (act_there (ChangesRemoved first last changes) prior e) Nothing) (other_number c e.member own h.0 h.1 absent)
absent_by d (RecordAdded image) prior e c own h absent = ap (λ (b : Bool). cond b (act_there (RecordAdded image) prior e) Nothing) (other_number c e.member own h.0 h.1 absent)
absent_by d (RecordAddedAtNumber image) prior e c own h absent = ap (λ (b : Bool). cond b (act_there (RecordAddedAtNumber image) prior e) Nothing) (other_number c e.member own h.0 h.1 absent)
absent_by d (BeforeImage image) prior e c own h absent = ap (λ (b : Bool). cond b (act_there (BeforeImage image) prior e) Nothing) (other_number c e.member own h.0 h.1 absent)
absent_by d (AfterImage has_before image) prior e c own h absent = ap (λ (b : Bool). cond b (act_there (AfterImage has_before image) prior e) Nothing) (other_number c e.member own h.0 h.1 absent)
absent_by d (RecordDeleted before) prior e c own h absent = ap (λ (b : Bool). cond b (act_there (RecordDeleted before) prior e) Nothing) (other_number c e.member own h.0 h.1 absent)
absent_by d (UndoBeforeImage image) prior e c own h absent = ap (λ (b : Bool). cond b (act_there (UndoBeforeImage image) prior e) Nothing) (other_number c e.member own h.0 h.1 absent)
absent_by d (UndoAfterImage has_before image) prior e c own h absent = ap (λ (b : Bool). cond b (act_there (UndoAfterImage has_before image) prior e) Nothing) (other_number c e.member own h.0 h.1 absent)
absent_by d (UndoDelete image) prior e c own h absent = ap (λ (b : Bool). cond b (act_there (UndoDelete image) prior e) Nothing) (other_number c e.member own h.0 h.1 absent)
absent_by d (CommitmentStarted level) prior e c own h absent = same_act (is_number e.member own) _
absent_by d CommitCycleStarted prior e c own h absent = same_act (is_number e.member own) _
absent_by d CommitCycleCommitted prior e c own h absent = same_act (is_number e.member own) _
absent_by d CommitCycleRolledBack prior e c own h absent = same_act (is_number e.member own) _
absent_by d CommitmentEnded prior e c own h absent = same_act (is_number e.member own) _
absent_by d AbnormalEnd prior e c own h absent = same_act (is_number e.member own) _
absent_by d (NextReceiver number) prior e c own h absent = same_act (is_number e.member own) _
absent_by d (PreviousReceiver number) prior e c own h absent = same_act (is_number e.member own) _

pub absent_act : (d : Descriptions) (prior : Option Entry) (e : Entry) (c : Catalogue) (number : ℕ) → MayEnterBy d e.kind e c → member_numbered (Some number) c ≡ None → act number prior e ≡ act_elsewhere e.kind e
absent_act d prior e c number h absent = absent_by d e.kind prior e c number h absent

-- ---- commit cycles are of no member

cycles_there : (kind : EntryKind) (prior : Option Entry) (e : Entry) (cycles : List ℕ) → cycles_after cycles (act_there kind prior e) ≡ cycles_after cycles (act_elsewhere kind e)
cycles_there (FileCreated kind name source) prior e cycles = refl
cycles_there (FileDeleted name) prior e cycles = refl
cycles_there (MemberAdded file name) prior e cycles = refl
cycles_there (JournalingStarted images slots) prior e cycles = refl
cycles_there (InitialSlot image) prior e cycles = refl
cycles_there JournalingEnded prior e cycles = refl
cycles_there MemberCleared prior e cycles = refl
cycles_there MemberReorganized prior e cycles = refl
cycles_there (ChangesApplied first last changes) prior e cycles = refl
cycles_there (ChangesRemoved first last changes) prior e cycles = refl
cycles_there (RecordAdded image) prior e cycles = refl
cycles_there (RecordAddedAtNumber image) prior e cycles = refl
cycles_there (BeforeImage image) prior e cycles = refl
cycles_there (AfterImage true image) prior e cycles = refl
cycles_there (AfterImage false image) prior e cycles = refl
cycles_there (RecordDeleted before) prior e cycles = refl
cycles_there (UndoBeforeImage image) prior e cycles = refl
cycles_there (UndoAfterImage true image) prior e cycles = refl
cycles_there (UndoAfterImage false image) prior e cycles = refl
cycles_there (UndoDelete image) prior e cycles = refl
cycles_there (CommitmentStarted level) prior e cycles = refl
cycles_there CommitCycleStarted prior e cycles = refl
cycles_there CommitCycleCommitted prior e cycles = refl
cycles_there CommitCycleRolledBack prior e cycles = refl
cycles_there CommitmentEnded prior e cycles = refl
cycles_there AbnormalEnd prior e cycles = refl
cycles_there (NextReceiver number) prior e cycles = refl
cycles_there (PreviousReceiver number) prior e cycles = refl

pub cycles_alike : (member : ℕ) (prior : Option Entry) (e : Entry) (cycles : List ℕ) → cycles_after cycles (act member prior e) ≡ cycles_after cycles (act_elsewhere e.kind e)
cycles_alike member prior e cycles = at (is_number e.member member) where
  at : (b : Bool) → cycles_after cycles (cond b (act_there e.kind prior e) (act_elsewhere e.kind e)) ≡ cycles_after cycles (act_elsewhere e.kind e)
  at true = cycles_there e.kind prior e cycles
  at false = refl

-- ---- of the entry before, only the first of a pair counts

updates_none : (kind : EntryKind) → pair_begun kind ≡ None → updated_from kind ≡ None
updates_none (FileCreated kind name source) h = refl
updates_none (FileDeleted name) h = refl
updates_none (MemberAdded file name) h = refl
updates_none (JournalingStarted images slots) h = refl
updates_none (InitialSlot image) h = refl
updates_none JournalingEnded h = refl
updates_none MemberCleared h = refl
updates_none MemberReorganized h = refl
updates_none (ChangesApplied first last changes) h = refl
updates_none (ChangesRemoved first last changes) h = refl
updates_none (RecordAdded image) h = refl
updates_none (RecordAddedAtNumber image) h = refl
updates_none (BeforeImage image) h = absurd cc
updates_none (AfterImage has_before image) h = refl
updates_none (RecordDeleted before) h = refl
updates_none (UndoBeforeImage image) h = refl
updates_none (UndoAfterImage has_before image) h = refl
updates_none (UndoDelete image) h = refl
updates_none (CommitmentStarted level) h = refl
updates_none CommitCycleStarted h = refl
updates_none CommitCycleCommitted h = refl
updates_none CommitCycleRolledBack h = refl
updates_none CommitmentEnded h = refl
updates_none AbnormalEnd h = refl
updates_none (NextReceiver number) h = refl
updates_none (PreviousReceiver number) h = refl

undoes_none : (kind : EntryKind) → pair_begun kind ≡ None → undone_from kind ≡ None
undoes_none (FileCreated kind name source) h = refl
undoes_none (FileDeleted name) h = refl
undoes_none (MemberAdded file name) h = refl
undoes_none (JournalingStarted images slots) h = refl
undoes_none (InitialSlot image) h = refl
undoes_none JournalingEnded h = refl
undoes_none MemberCleared h = refl
undoes_none MemberReorganized h = refl
undoes_none (ChangesApplied first last changes) h = refl
undoes_none (ChangesRemoved first last changes) h = refl
undoes_none (RecordAdded image) h = refl
undoes_none (RecordAddedAtNumber image) h = refl
undoes_none (BeforeImage image) h = refl
undoes_none (AfterImage has_before image) h = refl
undoes_none (RecordDeleted before) h = refl
undoes_none (UndoBeforeImage image) h = absurd cc
undoes_none (UndoAfterImage has_before image) h = refl
undoes_none (UndoDelete image) h = refl
undoes_none (CommitmentStarted level) h = refl
undoes_none CommitCycleStarted h = refl
undoes_none CommitCycleCommitted h = refl
undoes_none CommitCycleRolledBack h = refl
undoes_none CommitmentEnded h = refl
undoes_none AbnormalEnd h = refl
undoes_none (NextReceiver number) h = refl
undoes_none (PreviousReceiver number) h = refl

begun_held : (shown : EntryKind → Option Slot) → ((kind : EntryKind) → pair_begun kind ≡ None → shown kind ≡ None) → (prior : Option Entry) (e : Entry)
    → held_before shown (begun_by prior) e ≡ held_before shown prior e
begun_held shown none None e = refl
begun_held shown none (Some p) e = at (pair_begun p.kind) refl where
  within : (b : Bool) (o : Option Slot) → o ≡ None → None ≡ cond b o None
  within true o h = sym h
  within false o h = refl

  at : (pair : Option Pair) → pair_begun p.kind ≡ pair → held_before shown (only_begun pair p) e ≡ held_before shown (Some p) e
  at None h = within (is_same_record p e) (shown p.kind) (none p.kind h)
  at (Some pair) h = refl

begun_there : (kind : EntryKind) (prior : Option Entry) (e : Entry) → act_there kind (begun_by prior) e ≡ act_there kind prior e
begun_there (FileCreated kind name source) prior e = refl
begun_there (FileDeleted name) prior e = refl
begun_there (MemberAdded file name) prior e = refl
begun_there (JournalingStarted images slots) prior e = refl
begun_there (InitialSlot image) prior e = refl
begun_there JournalingEnded prior e = refl
begun_there MemberCleared prior e = refl
begun_there MemberReorganized prior e = refl
begun_there (ChangesApplied first last changes) prior e = refl
begun_there (ChangesRemoved first last changes) prior e = refl
begun_there (RecordAdded image) prior e = refl
begun_there (RecordAddedAtNumber image) prior e = refl
begun_there (BeforeImage image) prior e = refl
begun_there (AfterImage true image) prior e = ap (λ (o : Option Slot). changes_slot e o (Live image)) (begun_held updated_from updates_none prior e)
begun_there (AfterImage false image) prior e = refl
begun_there (RecordDeleted before) prior e = refl
begun_there (UndoBeforeImage image) prior e = refl
begun_there (UndoAfterImage true image) prior e = ap (λ (o : Option Slot). changes_slot e o (Live image)) (begun_held undone_from undoes_none prior e)
begun_there (UndoAfterImage false image) prior e = refl
begun_there (UndoDelete image) prior e = refl
begun_there (CommitmentStarted level) prior e = refl
begun_there CommitCycleStarted prior e = refl
begun_there CommitCycleCommitted prior e = refl
begun_there CommitCycleRolledBack prior e = refl
begun_there CommitmentEnded prior e = refl
begun_there AbnormalEnd prior e = refl
begun_there (NextReceiver number) prior e = refl
begun_there (PreviousReceiver number) prior e = refl

pub begun_act : (number : ℕ) (prior : Option Entry) (e : Entry) → act number (begun_by prior) e ≡ act number prior e
begun_act number prior e = ap (λ (a : Act). cond (is_number e.member number) a (act_elsewhere e.kind e)) (begun_there e.kind prior e)

pub begun_ends : (prior : Option Entry) (e : Entry) → EndsPair prior e → EndsPair (begun_by prior) e
begun_ends None e h = h
begun_ends (Some p) e h = at (pair_begun p.kind) refl where
  at : (pair : Option Pair) → pair_begun p.kind ≡ pair → EndsPair (only_begun pair p) e
  at None is = h.0 ∙ is
  at (Some pair) is = h

pub ends_begun : (prior : Option Entry) (e : Entry) → EndsPair (begun_by prior) e → EndsPair prior e
ends_begun None e h = h
ends_begun (Some p) e h = at (pair_begun p.kind) refl h where
  at : (pair : Option Pair) → pair_begun p.kind ≡ pair → EndsPair (only_begun pair p) e → EndsPair (Some p) e
  at None is g = (g ∙ sym is, rw is tt)
  at (Some pair) is g = g

-- ---- the catalogue

mapped_again : (f : HeldMember → HeldMember) (g : CatalogMember → CatalogMember) (members made : List HeldMember) → ((m : HeldMember) → catalog_member (f m) ≡ g (catalog_member m))
    → map catalog_member (map f members ++ made) ≡ map g (map catalog_member members) ++ map catalog_member made
mapped_again f g [] made same = refl
mapped_again f g (m ∷ members) made same = ap (λ x. x ∷ map catalog_member (map f members ++ made)) (same m) ∙ ap (λ xs. g (catalog_member m) ∷ xs) (mapped_again f g members made same)

mapped_still : (f : HeldMember → HeldMember) (members made : List HeldMember) → ((m : HeldMember) → catalog_member (f m) ≡ catalog_member m)
    → map catalog_member (map f members ++ made) ≡ map catalog_member members ++ map catalog_member made
mapped_still f [] made same = refl
mapped_still f (m ∷ members) made same = ap (λ x. x ∷ map catalog_member (map f members ++ made)) (same m) ∙ ap (λ xs. catalog_member m ∷ xs) (mapped_still f members made same)

none_more : (xs : List CatalogMember) → xs ++ [] ≡ xs
none_more [] = refl
none_more (x ∷ xs) = ap (λ ys. x ∷ ys) (none_more xs)

filtered_still : (f : HeldMember → HeldMember) (name : List ℕ) (members : List HeldMember) → ((m : HeldMember) → catalog_member (f m) ≡ catalog_member m)
    → map catalog_member (filter (λ (m : HeldMember). not (bytes_eq m.file name)) (map f members) ++ []) ≡ filter (λ (m : CatalogMember). not (is_in_file name m)) (map catalog_member members)
filtered_still f name [] same = refl
filtered_still f name (m ∷ members) same = at (not (bytes_eq (f m).file name)) (not (bytes_eq m.file name)) (ap (λ (c : CatalogMember). not (bytes_eq c.file name)) (same m)) (filtered_still f name members same) where
  at : (b t : Bool) → b ≡ t
      → map catalog_member (filter (λ (m : HeldMember). not (bytes_eq m.file name)) (map f members) ++ []) ≡ filter (λ (m : CatalogMember). not (is_in_file name m)) (map catalog_member members)
      → map catalog_member (cond b (f m ∷ filter (λ (m : HeldMember). not (bytes_eq m.file name)) (map f members)) (filter (λ (m : HeldMember). not (bytes_eq m.file name)) (map f members)) ++ [])
      ≡ cond t (catalog_member m ∷ filter (λ (m : CatalogMember). not (is_in_file name m)) (map catalog_member members)) (filter (λ (m : CatalogMember). not (is_in_file name m)) (map catalog_member members))
  at true true e more = ap (λ x. x ∷ map catalog_member (filter (λ (m : HeldMember). not (bytes_eq m.file name)) (map f members) ++ [])) (same m) ∙ ap (λ xs. catalog_member m ∷ xs) more
  at true false e more = absurd cc
  at false true e more = absurd cc
  at false false e more = more

-- each member by an entry of this kind
by_kind : EntryKind → Option Entry → Entry → HeldMember → HeldMember
by_kind kind prior e m = member_by (cond (is_number e.member m.number) (act_there kind prior e) (act_elsewhere kind e)) e.sequence m

images_there : (kind : EntryKind) (prior : Option Entry) (e : Entry) (old : Option Images) → Option Images
images_there (FileCreated kind name source) prior e old = old
images_there (FileDeleted name) prior e old = old
images_there (MemberAdded file name) prior e old = old
images_there (JournalingStarted images slots) prior e old = Some images
images_there (InitialSlot image) prior e old = old
images_there JournalingEnded prior e old = None
images_there MemberCleared prior e old = old
images_there MemberReorganized prior e old = old
images_there (ChangesApplied first last changes) prior e old = old
images_there (ChangesRemoved first last changes) prior e old = old
images_there (RecordAdded image) prior e old = old
images_there (RecordAddedAtNumber image) prior e old = old
images_there (BeforeImage image) prior e old = old
images_there (AfterImage has_before image) prior e old = old
images_there (RecordDeleted before) prior e old = old
images_there (UndoBeforeImage image) prior e old = old
images_there (UndoAfterImage has_before image) prior e old = old
images_there (UndoDelete image) prior e old = old
images_there (CommitmentStarted level) prior e old = old
images_there CommitCycleStarted prior e old = old
images_there CommitCycleCommitted prior e old = old
images_there CommitCycleRolledBack prior e old = old
images_there CommitmentEnded prior e old = old
images_there AbnormalEnd prior e old = old
images_there (NextReceiver number) prior e old = old
images_there (PreviousReceiver number) prior e old = old

images_are : (kind : EntryKind) (prior : Option Entry) (e : Entry) (old : Option Images) → images_by (act_there kind prior e) old ≡ images_there kind prior e old
unfolding images_there
images_are (FileCreated kind name source) prior e old = refl
images_are (FileDeleted name) prior e old = refl
images_are (MemberAdded file name) prior e old = refl
images_are (JournalingStarted images slots) prior e old = refl
images_are (InitialSlot image) prior e old = refl
images_are JournalingEnded prior e old = refl
images_are MemberCleared prior e old = refl
images_are MemberReorganized prior e old = refl
images_are (ChangesApplied first last changes) prior e old = refl
images_are (ChangesRemoved first last changes) prior e old = refl
images_are (RecordAdded image) prior e old = refl
images_are (RecordAddedAtNumber image) prior e old = refl
images_are (BeforeImage image) prior e old = refl
images_are (AfterImage true image) prior e old = refl
images_are (AfterImage false image) prior e old = refl
images_are (RecordDeleted before) prior e old = refl
images_are (UndoBeforeImage image) prior e old = refl
images_are (UndoAfterImage true image) prior e old = refl
images_are (UndoAfterImage false image) prior e old = refl
images_are (UndoDelete image) prior e old = refl
images_are (CommitmentStarted level) prior e old = refl
images_are CommitCycleStarted prior e old = refl
images_are CommitCycleCommitted prior e old = refl
images_are CommitCycleRolledBack prior e old = refl
images_are CommitmentEnded prior e old = refl
images_are AbnormalEnd prior e old = refl
images_are (NextReceiver number) prior e old = refl
images_are (PreviousReceiver number) prior e old = refl

catalog_by : (b : Bool) (kind : EntryKind) (prior : Option Entry) (e : Entry) (m : HeldMember)
    → catalog_member (member_by (cond b (act_there kind prior e) (act_elsewhere kind e)) e.sequence m) ≡ cond b (record (catalog_member m) { images = images_there kind prior e m.images }) (catalog_member m)
catalog_by true kind prior e m = ap (λ (i : Option Images). record (catalog_member m) { images = i }) (images_are kind prior e m.images)
catalog_by false kind prior e m = ap (λ (i : Option Images). record (catalog_member m) { images = i }) (quiet_images kind e m.images)

same_member : (b : Bool) (m : CatalogMember) → cond b m m ≡ m
same_member true m = refl
same_member false m = refl

-- the members of the catalogue behind an entry that changes no images
still : (kind : EntryKind) (prior : Option Entry) (e : Entry) → ((old : Option Images) → images_there kind prior e old ≡ old) → (m : HeldMember) → catalog_member (by_kind kind prior e m) ≡ catalog_member m
unfolding by_kind
still kind prior e same m = catalog_by (is_number e.member m.number) kind prior e m
    ∙ ap (λ (i : Option Images). cond (is_number e.member m.number) (record (catalog_member m) { images = i }) (catalog_member m)) (same m.images)
    ∙ same_member (is_number e.member m.number) (catalog_member m)

made_in : (kind : FileKind) (name source : List ℕ) (prior : Option Entry) (e : Entry) (c : Catalogue) (members : List HeldMember) → c.members ≡ map catalog_member members
    → map catalog_member (map (by_kind (FileCreated kind name source) prior e) members ++ made_with kind e name) ≡ (catalogue_by (FileCreated kind name source) e c).members
unfolding images_there by_kind
made_in Physical name source prior e c members is = mapped_still (by_kind (FileCreated Physical name source) prior e) members (made_with Physical e name) (still (FileCreated Physical name source) prior e (λ old. refl)) ∙ ap (λ (ms : List CatalogMember). ms ++ catalog_member (new_member (unwrap_or e.member 0) name name) ∷ []) (sym is)
made_in Logical name source prior e c members is = mapped_still (by_kind (FileCreated Logical name source) prior e) members [] (still (FileCreated Logical name source) prior e (λ old. refl)) ∙ none_more (map catalog_member members) ∙ sym is

members_in : (kind : EntryKind) (prior : Option Entry) (e : Entry) (c : Catalogue) (members : List HeldMember) → c.members ≡ map catalog_member members
    → map catalog_member (left_by kind (map (by_kind kind prior e) members) ++ made_by kind e) ≡ (catalogue_by kind e c).members
unfolding images_there by_kind
members_in (FileCreated kind name source) prior e c members is = made_in kind name source prior e c members is
members_in (FileDeleted name) prior e c members is = filtered_still (by_kind (FileDeleted name) prior e) name members (still (FileDeleted name) prior e (λ old. refl)) ∙ ap (filter (λ (m : CatalogMember). not (is_in_file name m))) (sym is)
members_in (MemberAdded file name) prior e c members is = mapped_still (by_kind (MemberAdded file name) prior e) members (new_member (unwrap_or e.member 0) file name ∷ []) (still (MemberAdded file name) prior e (λ old. refl)) ∙ ap (λ (ms : List CatalogMember). ms ++ catalog_member (new_member (unwrap_or e.member 0) file name) ∷ []) (sym is)
members_in (JournalingStarted images slots) prior e c members is = mapped_again (by_kind (JournalingStarted images slots) prior e) (λ (m : CatalogMember). cond (has_number e.member m) (record m { images = Some images }) m) members [] (λ m. catalog_by (is_number e.member m.number) (JournalingStarted images slots) prior e m) ∙ none_more _ ∙ ap (map (λ (m : CatalogMember). cond (has_number e.member m) (record m { images = Some images }) m)) (sym is)
members_in (InitialSlot image) prior e c members is = mapped_still (by_kind (InitialSlot image) prior e) members [] (still (InitialSlot image) prior e (λ old. refl)) ∙ none_more (map catalog_member members) ∙ sym is
members_in JournalingEnded prior e c members is = mapped_again (by_kind JournalingEnded prior e) (λ (m : CatalogMember). cond (has_number e.member m) (record m { images = None }) m) members [] (λ m. catalog_by (is_number e.member m.number) JournalingEnded prior e m) ∙ none_more _ ∙ ap (map (λ (m : CatalogMember). cond (has_number e.member m) (record m { images = None }) m)) (sym is)
members_in MemberCleared prior e c members is = mapped_still (by_kind MemberCleared prior e) members [] (still MemberCleared prior e (λ old. refl)) ∙ none_more (map catalog_member members) ∙ sym is
members_in MemberReorganized prior e c members is = mapped_still (by_kind MemberReorganized prior e) members [] (still MemberReorganized prior e (λ old. refl)) ∙ none_more (map catalog_member members) ∙ sym is
members_in (ChangesApplied first last changes) prior e c members is = mapped_still (by_kind (ChangesApplied first last changes) prior e) members [] (still (ChangesApplied first last changes) prior e (λ old. refl)) ∙ none_more (map catalog_member members) ∙ sym is
members_in (ChangesRemoved first last changes) prior e c members is = mapped_still (by_kind (ChangesRemoved first last changes) prior e) members [] (still (ChangesRemoved first last changes) prior e (λ old. refl)) ∙ none_more (map catalog_member members) ∙ sym is
members_in (RecordAdded image) prior e c members is = mapped_still (by_kind (RecordAdded image) prior e) members [] (still (RecordAdded image) prior e (λ old. refl)) ∙ none_more (map catalog_member members) ∙ sym is
members_in (RecordAddedAtNumber image) prior e c members is = mapped_still (by_kind (RecordAddedAtNumber image) prior e) members [] (still (RecordAddedAtNumber image) prior e (λ old. refl)) ∙ none_more (map catalog_member members) ∙ sym is
members_in (BeforeImage image) prior e c members is = mapped_still (by_kind (BeforeImage image) prior e) members [] (still (BeforeImage image) prior e (λ old. refl)) ∙ none_more (map catalog_member members) ∙ sym is
members_in (AfterImage has_before image) prior e c members is = mapped_still (by_kind (AfterImage has_before image) prior e) members [] (still (AfterImage has_before image) prior e (λ old. refl)) ∙ none_more (map catalog_member members) ∙ sym is
members_in (RecordDeleted before) prior e c members is = mapped_still (by_kind (RecordDeleted before) prior e) members [] (still (RecordDeleted before) prior e (λ old. refl)) ∙ none_more (map catalog_member members) ∙ sym is
members_in (UndoBeforeImage image) prior e c members is = mapped_still (by_kind (UndoBeforeImage image) prior e) members [] (still (UndoBeforeImage image) prior e (λ old. refl)) ∙ none_more (map catalog_member members) ∙ sym is
members_in (UndoAfterImage has_before image) prior e c members is = mapped_still (by_kind (UndoAfterImage has_before image) prior e) members [] (still (UndoAfterImage has_before image) prior e (λ old. refl)) ∙ none_more (map catalog_member members) ∙ sym is
members_in (UndoDelete image) prior e c members is = mapped_still (by_kind (UndoDelete image) prior e) members [] (still (UndoDelete image) prior e (λ old. refl)) ∙ none_more (map catalog_member members) ∙ sym is
members_in (CommitmentStarted level) prior e c members is = mapped_still (by_kind (CommitmentStarted level) prior e) members [] (still (CommitmentStarted level) prior e (λ old. refl)) ∙ none_more (map catalog_member members) ∙ sym is
members_in CommitCycleStarted prior e c members is = mapped_still (by_kind CommitCycleStarted prior e) members [] (still CommitCycleStarted prior e (λ old. refl)) ∙ none_more (map catalog_member members) ∙ sym is
members_in CommitCycleCommitted prior e c members is = mapped_still (by_kind CommitCycleCommitted prior e) members [] (still CommitCycleCommitted prior e (λ old. refl)) ∙ none_more (map catalog_member members) ∙ sym is
members_in CommitCycleRolledBack prior e c members is = mapped_still (by_kind CommitCycleRolledBack prior e) members [] (still CommitCycleRolledBack prior e (λ old. refl)) ∙ none_more (map catalog_member members) ∙ sym is
members_in CommitmentEnded prior e c members is = mapped_still (by_kind CommitmentEnded prior e) members [] (still CommitmentEnded prior e (λ old. refl)) ∙ none_more (map catalog_member members) ∙ sym is
members_in AbnormalEnd prior e c members is = mapped_still (by_kind AbnormalEnd prior e) members [] (still AbnormalEnd prior e (λ old. refl)) ∙ none_more (map catalog_member members) ∙ sym is
members_in (NextReceiver number) prior e c members is = mapped_still (by_kind (NextReceiver number) prior e) members [] (still (NextReceiver number) prior e (λ old. refl)) ∙ none_more (map catalog_member members) ∙ sym is
members_in (PreviousReceiver number) prior e c members is = mapped_still (by_kind (PreviousReceiver number) prior e) members [] (still (PreviousReceiver number) prior e (λ old. refl)) ∙ none_more (map catalog_member members) ∙ sym is

files_made : (kind : FileKind) (name source : List ℕ) (e : Entry) (c : Catalogue) → files_by (FileCreated kind name source) e c.files ≡ (catalogue_by (FileCreated kind name source) e c).files
files_made Physical name source e c = refl
files_made Logical name source e c = refl

files_in : (kind : EntryKind) (e : Entry) (c : Catalogue) → files_by kind e c.files ≡ (catalogue_by kind e c).files
files_in (FileCreated kind name source) e c = files_made kind name source e c
files_in (FileDeleted name) e c = refl
files_in (MemberAdded file name) e c = refl
files_in (JournalingStarted images slots) e c = refl
files_in (InitialSlot image) e c = refl
files_in JournalingEnded e c = refl
files_in MemberCleared e c = refl
files_in MemberReorganized e c = refl
files_in (ChangesApplied first last changes) e c = refl
files_in (ChangesRemoved first last changes) e c = refl
files_in (RecordAdded image) e c = refl
files_in (RecordAddedAtNumber image) e c = refl
files_in (BeforeImage image) e c = refl
files_in (AfterImage has_before image) e c = refl
files_in (RecordDeleted before) e c = refl
files_in (UndoBeforeImage image) e c = refl
files_in (UndoAfterImage has_before image) e c = refl
files_in (UndoDelete image) e c = refl
files_in (CommitmentStarted level) e c = refl
files_in CommitCycleStarted e c = refl
files_in CommitCycleCommitted e c = refl
files_in CommitCycleRolledBack e c = refl
files_in CommitmentEnded e c = refl
files_in AbnormalEnd e c = refl
files_in (NextReceiver number) e c = refl
files_in (PreviousReceiver number) e c = refl

next_made : (kind : FileKind) (name source : List ℕ) (e : Entry) (c : Catalogue) → next_after c.next_member (made_by (FileCreated kind name source) e) ≡ (catalogue_by (FileCreated kind name source) e c).next_member
next_made Physical name source e c = refl
next_made Logical name source e c = refl

next_in : (kind : EntryKind) (e : Entry) (c : Catalogue) → next_after c.next_member (made_by kind e) ≡ (catalogue_by kind e c).next_member
next_in (FileCreated kind name source) e c = next_made kind name source e c
next_in (FileDeleted name) e c = refl
next_in (MemberAdded file name) e c = refl
next_in (JournalingStarted images slots) e c = refl
next_in (InitialSlot image) e c = refl
next_in JournalingEnded e c = refl
next_in MemberCleared e c = refl
next_in MemberReorganized e c = refl
next_in (ChangesApplied first last changes) e c = refl
next_in (ChangesRemoved first last changes) e c = refl
next_in (RecordAdded image) e c = refl
next_in (RecordAddedAtNumber image) e c = refl
next_in (BeforeImage image) e c = refl
next_in (AfterImage has_before image) e c = refl
next_in (RecordDeleted before) e c = refl
next_in (UndoBeforeImage image) e c = refl
next_in (UndoAfterImage has_before image) e c = refl
next_in (UndoDelete image) e c = refl
next_in (CommitmentStarted level) e c = refl
next_in CommitCycleStarted e c = refl
next_in CommitCycleCommitted e c = refl
next_in CommitCycleRolledBack e c = refl
next_in CommitmentEnded e c = refl
next_in AbnormalEnd e c = refl
next_in (NextReceiver number) e c = refl
next_in (PreviousReceiver number) e c = refl

pub catalogue-after : (e : Entry) (s : Standing) → catalogue_in (standing_after e s) ≡ catalogue_by e.kind e (catalogue_in s)
unfolding by_kind
catalogue-after e s =
    ap (λ (files : List CatalogFile). record { files = files; members = map catalog_member (standing_after e s).members; next_member = (standing_after e s).next_member }) (files_in e.kind e (catalogue_in s))
    ∙ ap (λ (members : List CatalogMember). record { files = (catalogue_by e.kind e (catalogue_in s)).files; members = members; next_member = (standing_after e s).next_member }) (members_in e.kind s.begun e (catalogue_in s) s.members refl)
    ∙ ap (λ (next : ℕ). record { files = (catalogue_by e.kind e (catalogue_in s)).files; members = (catalogue_by e.kind e (catalogue_in s)).members; next_member = next }) (next_in e.kind e (catalogue_in s))

-- ---- what holds of each member that is left, and of one that is made

each-filtered : (P : HeldMember → Type 0) (p : HeldMember → Bool) (members : List HeldMember) → AllByRecursion P members → AllByRecursion P (filter p members)
each-filtered P p [] h = tt
each-filtered P p (m ∷ members) h = at (p m) (each-filtered P p members h.1) where
  at : (b : Bool) → AllByRecursion P (filter p members) → AllByRecursion P (cond b (m ∷ filter p members) (filter p members))
  at true more = (h.0, more)
  at false more = more

pub each-left : (kind : EntryKind) (P : HeldMember → Type 0) (members : List HeldMember) → AllByRecursion P members → AllByRecursion P (left_by kind members)
each-left (FileCreated kind name source) P members h = h
each-left (FileDeleted name) P members h = each-filtered P (λ (m : HeldMember). not (bytes_eq m.file name)) members h
each-left (MemberAdded file name) P members h = h
each-left (JournalingStarted images slots) P members h = h
each-left (InitialSlot image) P members h = h
each-left JournalingEnded P members h = h
each-left MemberCleared P members h = h
each-left MemberReorganized P members h = h
each-left (ChangesApplied first last changes) P members h = h
each-left (ChangesRemoved first last changes) P members h = h
each-left (RecordAdded image) P members h = h
each-left (RecordAddedAtNumber image) P members h = h
each-left (BeforeImage image) P members h = h
each-left (AfterImage has_before image) P members h = h
each-left (RecordDeleted before) P members h = h
each-left (UndoBeforeImage image) P members h = h
each-left (UndoAfterImage has_before image) P members h = h
each-left (UndoDelete image) P members h = h
each-left (CommitmentStarted level) P members h = h
each-left CommitCycleStarted P members h = h
each-left CommitCycleCommitted P members h = h
each-left CommitCycleRolledBack P members h = h
each-left CommitmentEnded P members h = h
each-left AbnormalEnd P members h = h
each-left (NextReceiver number) P members h = h
each-left (PreviousReceiver number) P members h = h

each-made_with : (d : Descriptions) (kind : FileKind) (name source : List ℕ) (e : Entry) (c : Catalogue) (P : HeldMember → Type 0) → MayEnterBy d (FileCreated kind name source) e c
    → ((number : ℕ) (file own : List ℕ) → number ≡ c.next_member → next_after c.next_member (made_with kind e name) ≡ number + 1 → P (new_member number file own)) → AllByRecursion P (made_with kind e name)
each-made_with d Physical name source e c P h new = (new (unwrap_or e.member 0) name name (ap (λ (o : Option ℕ). unwrap_or o 0) h.numbered.next) refl, tt)
each-made_with d Logical name source e c P h new = tt

pub each-made : (d : Descriptions) (kind : EntryKind) (e : Entry) (c : Catalogue) (P : HeldMember → Type 0) → MayEnterBy d kind e c
    → ((number : ℕ) (file name : List ℕ) → number ≡ c.next_member → next_after c.next_member (made_by kind e) ≡ number + 1 → P (new_member number file name)) → AllByRecursion P (made_by kind e)
each-made d (FileCreated kind name source) e c P h new = each-made_with d kind name source e c P h new
each-made d (FileDeleted name) e c P h new = tt
each-made d (MemberAdded file name) e c P h new = (new (unwrap_or e.member 0) file name (ap (λ (o : Option ℕ). unwrap_or o 0) h.numbered.next) refl, tt)
each-made d (JournalingStarted images slots) e c P h new = tt
each-made d (InitialSlot image) e c P h new = tt
each-made d JournalingEnded e c P h new = tt
each-made d MemberCleared e c P h new = tt
each-made d MemberReorganized e c P h new = tt
each-made d (ChangesApplied first last changes) e c P h new = tt
each-made d (ChangesRemoved first last changes) e c P h new = tt
each-made d (RecordAdded image) e c P h new = tt
each-made d (RecordAddedAtNumber image) e c P h new = tt
each-made d (BeforeImage image) e c P h new = tt
each-made d (AfterImage has_before image) e c P h new = tt
each-made d (RecordDeleted before) e c P h new = tt
each-made d (UndoBeforeImage image) e c P h new = tt
each-made d (UndoAfterImage has_before image) e c P h new = tt
each-made d (UndoDelete image) e c P h new = tt
each-made d (CommitmentStarted level) e c P h new = tt
each-made d CommitCycleStarted e c P h new = tt
each-made d CommitCycleCommitted e c P h new = tt
each-made d CommitCycleRolledBack e c P h new = tt
each-made d CommitmentEnded e c P h new = tt
each-made d AbnormalEnd e c P h new = tt
each-made d (NextReceiver number) e c P h new = tt
each-made d (PreviousReceiver number) e c P h new = tt

next-grows_with : (d : Descriptions) (kind : FileKind) (name source : List ℕ) (e : Entry) (c : Catalogue) → MayEnterBy d (FileCreated kind name source) e c → c.next_member ≤ next_after c.next_member (made_with kind e name)
next-grows_with d Physical name source e c h = let same = ap (λ (o : Option ℕ). unwrap_or o 0) h.numbered.next in omega (arith, same)
next-grows_with d Logical name source e c h = omega arith

pub next-grows : (d : Descriptions) (kind : EntryKind) (e : Entry) (c : Catalogue) → MayEnterBy d kind e c → c.next_member ≤ next_after c.next_member (made_by kind e)
next-grows d (FileCreated kind name source) e c h = next-grows_with d kind name source e c h
next-grows d (FileDeleted name) e c h = omega arith
next-grows d (MemberAdded file name) e c h = let same = ap (λ (o : Option ℕ). unwrap_or o 0) h.numbered.next in omega (arith, same)
next-grows d (JournalingStarted images slots) e c h = omega arith
next-grows d (InitialSlot image) e c h = omega arith
next-grows d JournalingEnded e c h = omega arith
next-grows d MemberCleared e c h = omega arith
next-grows d MemberReorganized e c h = omega arith
next-grows d (ChangesApplied first last changes) e c h = omega arith
next-grows d (ChangesRemoved first last changes) e c h = omega arith
next-grows d (RecordAdded image) e c h = omega arith
next-grows d (RecordAddedAtNumber image) e c h = omega arith
next-grows d (BeforeImage image) e c h = omega arith
next-grows d (AfterImage has_before image) e c h = omega arith
next-grows d (RecordDeleted before) e c h = omega arith
next-grows d (UndoBeforeImage image) e c h = omega arith
next-grows d (UndoAfterImage has_before image) e c h = omega arith
next-grows d (UndoDelete image) e c h = omega arith
next-grows d (CommitmentStarted level) e c h = omega arith
next-grows d CommitCycleStarted e c h = omega arith
next-grows d CommitCycleCommitted e c h = omega arith
next-grows d CommitCycleRolledBack e c h = omega arith
next-grows d CommitmentEnded e c h = omega arith
next-grows d AbnormalEnd e c h = omega arith
next-grows d (NextReceiver number) e c h = omega arith
next-grows d (PreviousReceiver number) e c h = omega arith

-- ---- which members are there

held_front : (number : ℕ) (members made : List HeldMember) → is_held number (members ++ made) ≡ false → is_held number members ≡ true → ⊥
held_front number [] made h there = absurd cc
held_front number (m ∷ members) made h there = at (m.number == number) h there (held_front number members made) where
  at : (b : Bool) → b || is_held number (members ++ made) ≡ false → b || is_held number members ≡ true → (is_held number (members ++ made) ≡ false → is_held number members ≡ true → ⊥) → ⊥
  at true h there more = absurd cc
  at false h there more = more h there

-- a member that is there no more was of the file that was deleted
deleted_one : (number : ℕ) (name : List ℕ) (Q : ℕ → Type 0) (members : List HeldMember) → is_held number (filter (λ (m : HeldMember). not (bytes_eq m.file name)) members ++ []) ≡ false
    → is_held number members ≡ true → AllByRecursion (λ (m : CatalogMember). Q m.number) (filter (is_in_file name) (map catalog_member members)) → Q number
deleted_one number name Q [] h there each = absurd cc
deleted_one number name Q (m ∷ members) h there each = at (bytes_eq m.file name) (m.number == number) refl h there each (deleted_one number name Q members) where
  at : (b t : Bool) → m.number == number ≡ t
      → is_held number (cond (not b) (m ∷ filter (λ (m : HeldMember). not (bytes_eq m.file name)) members) (filter (λ (m : HeldMember). not (bytes_eq m.file name)) members) ++ []) ≡ false
      → t || is_held number members ≡ true
      → AllByRecursion (λ (m : CatalogMember). Q m.number) (cond b (catalog_member m ∷ filter (is_in_file name) (map catalog_member members)) (filter (is_in_file name) (map catalog_member members)))
      → (is_held number (filter (λ (m : HeldMember). not (bytes_eq m.file name)) members ++ []) ≡ false → is_held number members ≡ true
      → AllByRecursion (λ (m : CatalogMember). Q m.number) (filter (is_in_file name) (map catalog_member members)) → Q number) → Q number
  at true true e h there each more = subst Q (eqb-true m.number number e) each.0
  at true false e h there each more = more h there each.1
  at false true e h there each more = let kept = subst (λ (b : Bool). b || is_held number (filter (λ (m : HeldMember). not (bytes_eq m.file name)) members ++ []) ≡ false) e h in absurd cc
  at false false e h there each more = more (subst (λ (b : Bool). b || is_held number (filter (λ (m : HeldMember). not (bytes_eq m.file name)) members ++ []) ≡ false) e h) there each

pub gone : (own : ℕ) (kind : EntryKind) (Q : ℕ → Type 0) (members : List HeldMember) (e : Entry)
    → is_held own (left_by kind members ++ made_by kind e) ≡ false → is_held own members ≡ true
    → ((name : List ℕ) → kind ≡ FileDeleted name → AllByRecursion (λ (m : CatalogMember). Q m.number) (filter (is_in_file name) (map catalog_member members))) → Q own
gone own (FileCreated kind name source) Q members e h there each = absurd (held_front own members (made_by (FileCreated kind name source) e) h there)
gone own (FileDeleted name) Q members e h there each = deleted_one own name Q members h there (each name refl)
gone own (MemberAdded file name) Q members e h there each = absurd (held_front own members (made_by (MemberAdded file name) e) h there)
gone own (JournalingStarted images slots) Q members e h there each = absurd (held_front own members (made_by (JournalingStarted images slots) e) h there)
gone own (InitialSlot image) Q members e h there each = absurd (held_front own members (made_by (InitialSlot image) e) h there)
gone own JournalingEnded Q members e h there each = absurd (held_front own members (made_by JournalingEnded e) h there)
gone own MemberCleared Q members e h there each = absurd (held_front own members (made_by MemberCleared e) h there)
gone own MemberReorganized Q members e h there each = absurd (held_front own members (made_by MemberReorganized e) h there)
gone own (ChangesApplied first last changes) Q members e h there each = absurd (held_front own members (made_by (ChangesApplied first last changes) e) h there)
gone own (ChangesRemoved first last changes) Q members e h there each = absurd (held_front own members (made_by (ChangesRemoved first last changes) e) h there)
gone own (RecordAdded image) Q members e h there each = absurd (held_front own members (made_by (RecordAdded image) e) h there)
gone own (RecordAddedAtNumber image) Q members e h there each = absurd (held_front own members (made_by (RecordAddedAtNumber image) e) h there)
gone own (BeforeImage image) Q members e h there each = absurd (held_front own members (made_by (BeforeImage image) e) h there)
gone own (AfterImage has_before image) Q members e h there each = absurd (held_front own members (made_by (AfterImage has_before image) e) h there)
gone own (RecordDeleted before) Q members e h there each = absurd (held_front own members (made_by (RecordDeleted before) e) h there)
gone own (UndoBeforeImage image) Q members e h there each = absurd (held_front own members (made_by (UndoBeforeImage image) e) h there)
gone own (UndoAfterImage has_before image) Q members e h there each = absurd (held_front own members (made_by (UndoAfterImage has_before image) e) h there)
gone own (UndoDelete image) Q members e h there each = absurd (held_front own members (made_by (UndoDelete image) e) h there)
gone own (CommitmentStarted level) Q members e h there each = absurd (held_front own members (made_by (CommitmentStarted level) e) h there)
gone own CommitCycleStarted Q members e h there each = absurd (held_front own members (made_by CommitCycleStarted e) h there)
gone own CommitCycleCommitted Q members e h there each = absurd (held_front own members (made_by CommitCycleCommitted e) h there)
gone own CommitCycleRolledBack Q members e h there each = absurd (held_front own members (made_by CommitCycleRolledBack e) h there)
gone own CommitmentEnded Q members e h there each = absurd (held_front own members (made_by CommitmentEnded e) h there)
gone own AbnormalEnd Q members e h there each = absurd (held_front own members (made_by AbnormalEnd e) h there)
gone own (NextReceiver number) Q members e h there each = absurd (held_front own members (made_by (NextReceiver number) e) h there)
gone own (PreviousReceiver number) Q members e h there each = absurd (held_front own members (made_by (PreviousReceiver number) e) h there)

-- a member of another entry's numbers isn't in the catalogue
pub held-found : (number : ℕ) (members : List HeldMember) → is_held number members ≡ false → find (has_number (Some number)) (map catalog_member members) ≡ None
held-found number [] h = refl
held-found number (m ∷ members) h = at (m.number == number) refl h (held-found number members) where
  differs : m.number == number ≡ false → m.number ≡ number → ⊥
  differs e same = let t = eq-eqb m.number number same in absurd cc

  at : (t : Bool) → m.number == number ≡ t → t || is_held number members ≡ false → (is_held number members ≡ false → find (has_number (Some number)) (map catalog_member members) ≡ None)
      → cond (number == m.number) (Some (catalog_member m)) (find (has_number (Some number)) (map catalog_member members)) ≡ None
  at true e h more = absurd cc
  at false e h more = rw (ne_eqb number m.number (λ same. differs e (sym same))) (more h)

pub slots-held : (number : ℕ) (members : List HeldMember) (P : ℕ → List Slot) → is_held number members ≡ true → AllByRecursion (λ (m : HeldMember). m.slots ≡ P m.number) members → slots_at number members ≡ P number
slots-held number [] P h each = absurd cc
slots-held number (m ∷ members) P h each = at (m.number == number) refl h (slots-held number members P) where
  at : (t : Bool) → m.number == number ≡ t → t || is_held number members ≡ true
      → (is_held number members ≡ true → AllByRecursion (λ (m : HeldMember). m.slots ≡ P m.number) members → slots_at number members ≡ P number)
      → cond t m.slots (slots_at number members) ≡ P number
  at true e h more = each.0 ∙ ap P (eqb-true m.number number e)
  at false e h more = more h each.1
