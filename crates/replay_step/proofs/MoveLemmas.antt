-- A standing moves on by the acts of the members that an entry names.
use Rattle.std.proofs.Common.{◌≡◌, ℕ, Bool, true, false, ◌&&◌, ◌==◌, not, cond, leb, List, [], ◌∷◌, ◌++◌, map, Option, Some, None, refl, sym, ap, ◌∙◌}
use Rattle.std.specs.List.{filter, list_all, list_any}
use Rattle.std.specs.Prelude.{is_none, unwrap_or}
use Rattle.std.specs.Str.{bytes_eq}
use Rattle.std.proofs.lemmas.Bool.{and_parts, eq-eqb, eqb-true, ne_eqb}
use Rattle.entry_codec.specs.declared.entries.Entry.{Entry}
use Rattle.entry_codec.specs.declared.kinds.FileKind.{FileKind}
use Rattle.entry_codec.specs.declared.kinds.FileKind.TheVariants.{Physical, Logical}
use Rattle.entry_codec.specs.declared.kinds.EntryKind.{EntryKind}
use Rattle.entry_codec.specs.declared.kinds.EntryKind.TheVariants.{FileCreated, FileDeleted, MemberAdded, JournalingStarted, InitialSlot, JournalingEnded, MemberCleared, MemberReorganized, ChangesApplied, ChangesRemoved, RecordAdded, RecordAddedAtNumber, BeforeImage, AfterImage, RecordDeleted, UndoBeforeImage, UndoAfterImage, UndoDelete, CommitmentStarted, CommitCycleStarted, CommitCycleCommitted, CommitCycleRolledBack, CommitmentEnded, AbnormalEnd, NextReceiver, PreviousReceiver}
use Rattle.journal_model.specs.declared.limits.TheConstants.{LAST_MEMBER}
use Rattle.journal_model.specs.Acts.{Act, Changed, Began, Committed, RolledBack, Journaled, Stood, Cleared, Reorganized, Ended, Nothing, act_there, act_elsewhere, is_number, cycle_of}
use Rattle.journal_model.specs.Replayable.{is_open}
use Rattle.journal_model.specs.Replay.{is_other, cycles_after}
use Rattle.journal_model.specs.Rollback.{MemberChange, undos_by, named}
use Rattle.journal_model.specs.Catalogue.{Catalogue, CatalogMember, Descriptions, file_named, members_of, member_numbered}
use Rattle.journal_model.specs.Images.{images_of}
use Rattle.journal_replay.specs.Standing.{HeldMember, Standing, catalogue_in, member_by, left_by, new_member, made_with, made_by, next_after, slots_at, standing_after}
use Rattle.journal_replay.specs.Tests.{is_next_member, makes_member, is_physical_file, is_apart, fits_slot, may_act, may_enter, follows_by, frees_deleted, names_open, ends_pair, are_records_of, may_stand_next, member_act}
use Rattle.journal_replay.specs.Open.{Open}
use Rattle.replay_step.specs.Moves.{acted, open_by, open_in, first_member, made_at, standing_by, is_next, first_is_next, makes_next, may_note, names_new}

act_alike : (kind : EntryKind) (prior : Option Entry) (e : Entry) (sequence : ℕ) (m : HeldMember) → member_by (act_there kind prior e) sequence m ≡ member_by (member_act kind prior e) sequence m
act_alike (FileCreated kind name source) prior e sequence m = refl
act_alike (FileDeleted name) prior e sequence m = refl
act_alike (MemberAdded file name) prior e sequence m = refl
act_alike (JournalingStarted images slots) prior e sequence m = refl
act_alike (InitialSlot image) prior e sequence m = refl
act_alike JournalingEnded prior e sequence m = refl
act_alike MemberCleared prior e sequence m = refl
act_alike MemberReorganized prior e sequence m = refl
act_alike (ChangesApplied first last changes) prior e sequence m = refl
act_alike (ChangesRemoved first last changes) prior e sequence m = refl
act_alike (RecordAdded image) prior e sequence m = refl
act_alike (RecordAddedAtNumber image) prior e sequence m = refl
act_alike (BeforeImage image) prior e sequence m = refl
act_alike (AfterImage true image) prior e sequence m = refl
act_alike (AfterImage false image) prior e sequence m = refl
act_alike (RecordDeleted before) prior e sequence m = refl
act_alike (UndoBeforeImage image) prior e sequence m = refl
act_alike (UndoAfterImage true image) prior e sequence m = refl
act_alike (UndoAfterImage false image) prior e sequence m = refl
act_alike (UndoDelete image) prior e sequence m = refl
act_alike (CommitmentStarted level) prior e sequence m = refl
act_alike CommitCycleStarted prior e sequence m = refl
act_alike CommitCycleCommitted prior e sequence m = refl
act_alike CommitCycleRolledBack prior e sequence m = refl
act_alike CommitmentEnded prior e sequence m = refl
act_alike AbnormalEnd prior e sequence m = refl
act_alike (NextReceiver number) prior e sequence m = refl
act_alike (PreviousReceiver number) prior e sequence m = refl

quiet_alike : (kind : EntryKind) (e : Entry) (sequence : ℕ) (m : HeldMember) → member_by (act_elsewhere kind e) sequence m ≡ m
quiet_alike (FileCreated kind name source) e sequence m = refl
quiet_alike (FileDeleted name) e sequence m = refl
quiet_alike (MemberAdded file name) e sequence m = refl
quiet_alike (JournalingStarted images slots) e sequence m = refl
quiet_alike (InitialSlot image) e sequence m = refl
quiet_alike JournalingEnded e sequence m = refl
quiet_alike MemberCleared e sequence m = refl
quiet_alike MemberReorganized e sequence m = refl
quiet_alike (ChangesApplied first last changes) e sequence m = refl
quiet_alike (ChangesRemoved first last changes) e sequence m = refl
quiet_alike (RecordAdded image) e sequence m = refl
quiet_alike (RecordAddedAtNumber image) e sequence m = refl
quiet_alike (BeforeImage image) e sequence m = refl
quiet_alike (AfterImage has_before image) e sequence m = refl
quiet_alike (RecordDeleted before) e sequence m = refl
quiet_alike (UndoBeforeImage image) e sequence m = refl
quiet_alike (UndoAfterImage has_before image) e sequence m = refl
quiet_alike (UndoDelete image) e sequence m = refl
quiet_alike (CommitmentStarted level) e sequence m = refl
quiet_alike CommitCycleStarted e sequence m = refl
quiet_alike CommitCycleCommitted e sequence m = refl
quiet_alike CommitCycleRolledBack e sequence m = refl
quiet_alike CommitmentEnded e sequence m = refl
quiet_alike AbnormalEnd e sequence m = refl
quiet_alike (NextReceiver number) e sequence m = refl
quiet_alike (PreviousReceiver number) e sequence m = refl

one_acted : (b : Bool) (kind : EntryKind) (prior : Option Entry) (e : Entry) (sequence : ℕ) (m : HeldMember)
    → member_by (cond b (act_there kind prior e) (act_elsewhere kind e)) sequence m ≡ cond b (member_by (member_act kind prior e) sequence m) m
one_acted true kind prior e sequence m = act_alike kind prior e sequence m
one_acted false kind prior e sequence m = quiet_alike kind e sequence m

flip : (a b : ℕ) → (a == b) ≡ (b == a)
flip a b = at (a == b) refl where
  at : (t : Bool) → (a == b) ≡ t → t ≡ (b == a)
  at true e = sym (eq-eqb b a (sym (eqb-true a b e)))
  at false e = sym (ne_eqb b a (λ same. let t = eq-eqb a b (sym same) in absurd cc))

members_acted : (own : Option ℕ) (prior : Option Entry) (e : Entry) (members : List HeldMember)
    → map (λ (m : HeldMember). member_by (cond (is_number own m.number) (act_there e.kind prior e) (act_elsewhere e.kind e)) e.sequence m) members ≡ acted own (member_act e.kind prior e) e.sequence members
members_acted None prior e [] = refl
members_acted None prior e (m ∷ members) = ap (λ (x : HeldMember). x ∷ map (λ (m : HeldMember). member_by (act_elsewhere e.kind e) e.sequence m) members) (quiet_alike e.kind e e.sequence m)
    ∙ ap (λ (rest : List HeldMember). m ∷ rest) (members_acted None prior e members)
members_acted (Some number) prior e [] = refl
members_acted (Some number) prior e (m ∷ members) =
    ap (λ (x : HeldMember). x ∷ map (λ (m : HeldMember). member_by (cond (is_number (Some number) m.number) (act_there e.kind prior e) (act_elsewhere e.kind e)) e.sequence m) members)
    (one_acted (number == m.number) e.kind prior e e.sequence m ∙ ap (λ (b : Bool). cond b (member_by (member_act e.kind prior e) e.sequence m) m) (flip number m.number))
    ∙ ap (λ (rest : List HeldMember). cond (m.number == number) (member_by (member_act e.kind prior e) e.sequence m) m ∷ rest) (members_acted (Some number) prior e members)

cycles_by : (kind : EntryKind) (own group : Option ℕ) (e : Entry) (a : Act) (o : Open) → e.group ≡ group → cycles_after o.cycles (act_elsewhere kind e) ≡ (open_by kind own group a o).cycles
cycles_by (FileCreated kind name source) own group e a o is = refl
cycles_by (FileDeleted name) own group e a o is = refl
cycles_by (MemberAdded file name) own group e a o is = refl
cycles_by (JournalingStarted images slots) own group e a o is = refl
cycles_by (InitialSlot image) own group e a o is = refl
cycles_by JournalingEnded own group e a o is = refl
cycles_by MemberCleared own group e a o is = refl
cycles_by MemberReorganized own group e a o is = refl
cycles_by (ChangesApplied first last changes) own group e a o is = refl
cycles_by (ChangesRemoved first last changes) own group e a o is = refl
cycles_by (RecordAdded image) own group e a o is = refl
cycles_by (RecordAddedAtNumber image) own group e a o is = refl
cycles_by (BeforeImage image) own group e a o is = refl
cycles_by (AfterImage has_before image) own group e a o is = refl
cycles_by (RecordDeleted before) own group e a o is = refl
cycles_by (UndoBeforeImage image) own group e a o is = refl
cycles_by (UndoAfterImage has_before image) own group e a o is = refl
cycles_by (UndoDelete image) own group e a o is = refl
cycles_by (CommitmentStarted level) own group e a o is = refl
cycles_by CommitCycleStarted own group e a o is = ap (λ (g : Option ℕ). o.cycles ++ cycle_of g ∷ []) is
cycles_by CommitCycleCommitted own group e a o is = ap (λ (g : Option ℕ). filter (is_other (cycle_of g)) o.cycles) is
cycles_by CommitCycleRolledBack own group e a o is = ap (λ (g : Option ℕ). filter (is_other (cycle_of g)) o.cycles) is
cycles_by CommitmentEnded own group e a o is = refl
cycles_by AbnormalEnd own group e a o is = refl
cycles_by (NextReceiver number) own group e a o is = refl
cycles_by (PreviousReceiver number) own group e a o is = refl

-- the undos by the act of the named member
undos_there : (kind : EntryKind) (prior : Option Entry) (e : Entry) (mine : ℕ) (undos : List MemberChange) → undos_by (act_there kind prior e) mine undos ≡ (open_by kind (Some mine) e.group (member_act kind prior e) (record { cycles = []; undos = undos })).undos
undos_there (FileCreated kind name source) prior e mine undos = refl
undos_there (FileDeleted name) prior e mine undos = refl
undos_there (MemberAdded file name) prior e mine undos = refl
undos_there (JournalingStarted images slots) prior e mine undos = refl
undos_there (InitialSlot image) prior e mine undos = refl
undos_there JournalingEnded prior e mine undos = refl
undos_there MemberCleared prior e mine undos = refl
undos_there MemberReorganized prior e mine undos = refl
undos_there (ChangesApplied first last changes) prior e mine undos = refl
undos_there (ChangesRemoved first last changes) prior e mine undos = refl
undos_there (RecordAdded image) prior e mine undos = refl
undos_there (RecordAddedAtNumber image) prior e mine undos = refl
undos_there (BeforeImage image) prior e mine undos = refl
undos_there (AfterImage true image) prior e mine undos = refl
undos_there (AfterImage false image) prior e mine undos = refl
undos_there (RecordDeleted before) prior e mine undos = refl
undos_there (UndoBeforeImage image) prior e mine undos = refl
undos_there (UndoAfterImage true image) prior e mine undos = refl
undos_there (UndoAfterImage false image) prior e mine undos = refl
undos_there (UndoDelete image) prior e mine undos = refl
undos_there (CommitmentStarted level) prior e mine undos = refl
undos_there CommitCycleStarted prior e mine undos = refl
undos_there CommitCycleCommitted prior e mine undos = refl
undos_there CommitCycleRolledBack prior e mine undos = refl
undos_there CommitmentEnded prior e mine undos = refl
undos_there AbnormalEnd prior e mine undos = refl
undos_there (NextReceiver number) prior e mine undos = refl
undos_there (PreviousReceiver number) prior e mine undos = refl

undos_quiet : (kind : EntryKind) (e : Entry) (undos : List MemberChange) → (a : Act) → undos_by (act_elsewhere kind e) 0 undos ≡ (open_by kind None e.group a (record { cycles = []; undos = undos })).undos
undos_quiet (FileCreated kind name source) e undos a = refl
undos_quiet (FileDeleted name) e undos a = refl
undos_quiet (MemberAdded file name) e undos a = refl
undos_quiet (JournalingStarted images slots) e undos a = refl
undos_quiet (InitialSlot image) e undos a = refl
undos_quiet JournalingEnded e undos a = refl
undos_quiet MemberCleared e undos a = refl
undos_quiet MemberReorganized e undos a = refl
undos_quiet (ChangesApplied first last changes) e undos a = refl
undos_quiet (ChangesRemoved first last changes) e undos a = refl
undos_quiet (RecordAdded image) e undos a = refl
undos_quiet (RecordAddedAtNumber image) e undos a = refl
undos_quiet (BeforeImage image) e undos a = refl
undos_quiet (AfterImage has_before image) e undos a = refl
undos_quiet (RecordDeleted before) e undos a = refl
undos_quiet (UndoBeforeImage image) e undos a = refl
undos_quiet (UndoAfterImage has_before image) e undos a = refl
undos_quiet (UndoDelete image) e undos a = refl
undos_quiet (CommitmentStarted level) e undos a = refl
undos_quiet CommitCycleStarted e undos a = refl
undos_quiet CommitCycleCommitted e undos a = refl
undos_quiet CommitCycleRolledBack e undos a = refl
undos_quiet CommitmentEnded e undos a = refl
undos_quiet AbnormalEnd e undos a = refl
undos_quiet (NextReceiver number) e undos a = refl
undos_quiet (PreviousReceiver number) e undos a = refl

same_undos : (kind : EntryKind) (own group : Option ℕ) (a : Act) (cycles : List ℕ) (undos : List MemberChange)
    → (open_by kind own group a (record { cycles = []; undos = undos })).undos ≡ (open_by kind own group a (record { cycles = cycles; undos = undos })).undos
same_undos (FileCreated kind name source) own group a cycles undos = refl
same_undos (FileDeleted name) own group a cycles undos = refl
same_undos (MemberAdded file name) own group a cycles undos = refl
same_undos (JournalingStarted images slots) own group a cycles undos = refl
same_undos (InitialSlot image) own group a cycles undos = refl
same_undos JournalingEnded own group a cycles undos = refl
same_undos MemberCleared own group a cycles undos = refl
same_undos MemberReorganized own group a cycles undos = refl
same_undos (ChangesApplied first last changes) own group a cycles undos = refl
same_undos (ChangesRemoved first last changes) own group a cycles undos = refl
same_undos (RecordAdded image) own group a cycles undos = refl
same_undos (RecordAddedAtNumber image) own group a cycles undos = refl
same_undos (BeforeImage image) own group a cycles undos = refl
same_undos (AfterImage has_before image) own group a cycles undos = refl
same_undos (RecordDeleted before) own group a cycles undos = refl
same_undos (UndoBeforeImage image) own group a cycles undos = refl
same_undos (UndoAfterImage has_before image) own group a cycles undos = refl
same_undos (UndoDelete image) own group a cycles undos = refl
same_undos (CommitmentStarted level) own group a cycles undos = refl
same_undos CommitCycleStarted own group a cycles undos = refl
same_undos CommitCycleCommitted own group a cycles undos = refl
same_undos CommitCycleRolledBack own group a cycles undos = refl
same_undos CommitmentEnded own group a cycles undos = refl
same_undos AbnormalEnd own group a cycles undos = refl
same_undos (NextReceiver number) own group a cycles undos = refl
same_undos (PreviousReceiver number) own group a cycles undos = refl

undos_acted : (own : Option ℕ) (prior : Option Entry) (e : Entry) (cycles : List ℕ) (undos : List MemberChange)
    → undos_by (cond (is_number own (named own)) (act_there e.kind prior e) (act_elsewhere e.kind e)) (named own) undos ≡ (open_by e.kind own e.group (member_act e.kind prior e) (record { cycles = cycles; undos = undos })).undos
undos_acted None prior e cycles undos = undos_quiet e.kind e undos (member_act e.kind prior e) ∙ same_undos e.kind None e.group (member_act e.kind prior e) cycles undos
undos_acted (Some number) prior e cycles undos =
    ap (λ (b : Bool). undos_by (cond b (act_there e.kind prior e) (act_elsewhere e.kind e)) number undos) (eq-eqb number number refl)
    ∙ undos_there e.kind prior e number undos ∙ same_undos e.kind (Some number) e.group (member_act e.kind prior e) cycles undos

first_next : (kind : FileKind) (e : Entry) (c : Catalogue) → makes_member kind e c ≡ true → first_is_next kind e.member c.next_member ≡ true
first_next Physical e c h = h
first_next Logical e c h = refl

enters_next : (d : Descriptions) (kind : EntryKind) (e : Entry) (c : Catalogue) → may_enter d kind e c ≡ true → makes_next kind e.member c.next_member ≡ true
enters_next d (FileCreated kind name source) e c h = first_next kind e c (and_parts (is_none (file_named name c)) (makes_member kind e c) (and_parts (is_none (file_named name c) && makes_member kind e c) (d.accepts c.files kind source) h).0).1
enters_next d (FileDeleted name) e c h = refl
enters_next d (MemberAdded file name) e c h = (and_parts (is_physical_file (file_named file c)) (is_next_member e.member c) (and_parts (is_physical_file (file_named file c) && is_next_member e.member c) (not (list_any (λ (m : CatalogMember). bytes_eq m.name name) (members_of file c))) h).0).1
enters_next d (JournalingStarted images slots) e c h = refl
enters_next d (InitialSlot image) e c h = refl
enters_next d JournalingEnded e c h = refl
enters_next d MemberCleared e c h = refl
enters_next d MemberReorganized e c h = refl
enters_next d (ChangesApplied first last changes) e c h = refl
enters_next d (ChangesRemoved first last changes) e c h = refl
enters_next d (RecordAdded image) e c h = refl
enters_next d (RecordAddedAtNumber image) e c h = refl
enters_next d (BeforeImage image) e c h = refl
enters_next d (AfterImage has_before image) e c h = refl
enters_next d (RecordDeleted before) e c h = refl
enters_next d (UndoBeforeImage image) e c h = refl
enters_next d (UndoAfterImage has_before image) e c h = refl
enters_next d (UndoDelete image) e c h = refl
enters_next d (CommitmentStarted level) e c h = refl
enters_next d CommitCycleStarted e c h = refl
enters_next d CommitCycleCommitted e c h = refl
enters_next d CommitCycleRolledBack e c h = refl
enters_next d CommitmentEnded e c h = refl
enters_next d AbnormalEnd e c h = refl
enters_next d (NextReceiver number) e c h = refl
enters_next d (PreviousReceiver number) e c h = refl

enters_new : (d : Descriptions) (kind : EntryKind) (e : Entry) (c : Catalogue) → may_enter d kind e c ≡ true → names_new kind c.files ≡ true
enters_new d (FileCreated kind name source) e c h = (and_parts (is_none (file_named name c)) (makes_member kind e c) (and_parts (is_none (file_named name c) && makes_member kind e c) (d.accepts c.files kind source) h).0).0
enters_new d (FileDeleted name) e c h = refl
enters_new d (MemberAdded file name) e c h = refl
enters_new d (JournalingStarted images slots) e c h = refl
enters_new d (InitialSlot image) e c h = refl
enters_new d JournalingEnded e c h = refl
enters_new d MemberCleared e c h = refl
enters_new d MemberReorganized e c h = refl
enters_new d (ChangesApplied first last changes) e c h = refl
enters_new d (ChangesRemoved first last changes) e c h = refl
enters_new d (RecordAdded image) e c h = refl
enters_new d (RecordAddedAtNumber image) e c h = refl
enters_new d (BeforeImage image) e c h = refl
enters_new d (AfterImage has_before image) e c h = refl
enters_new d (RecordDeleted before) e c h = refl
enters_new d (UndoBeforeImage image) e c h = refl
enters_new d (UndoAfterImage has_before image) e c h = refl
enters_new d (UndoDelete image) e c h = refl
enters_new d (CommitmentStarted level) e c h = refl
enters_new d CommitCycleStarted e c h = refl
enters_new d CommitCycleCommitted e c h = refl
enters_new d CommitCycleRolledBack e c h = refl
enters_new d CommitmentEnded e c h = refl
enters_new d AbnormalEnd e c h = refl
enters_new d (NextReceiver number) e c h = refl
enters_new d (PreviousReceiver number) e c h = refl

next_is : (own : Option ℕ) (next : ℕ) → is_next own next ≡ true → unwrap_or own 0 ≡ next
next_is None next h = absurd cc
next_is (Some number) next h = eqb-true number next (and_parts (number == next) (leb next LAST_MEMBER) h).0

first_is : (kind : FileKind) (e : Entry) (next : ℕ) (name : List ℕ) → first_is_next kind e.member next ≡ true → made_with kind e name ≡ first_member kind next name
first_is Physical e next name h = ap (λ (n : ℕ). new_member n name name ∷ []) (next_is e.member next h)
first_is Logical e next name h = refl

-- a member that is made has the next number
made_is : (kind : EntryKind) (e : Entry) (next : ℕ) → makes_next kind e.member next ≡ true → made_by kind e ≡ made_at kind next
made_is (FileCreated kind name source) e next h = first_is kind e next name h
made_is (FileDeleted name) e next h = refl
made_is (MemberAdded file name) e next h = ap (λ (n : ℕ). new_member n file name ∷ []) (next_is e.member next h)
made_is (JournalingStarted images slots) e next h = refl
made_is (InitialSlot image) e next h = refl
made_is JournalingEnded e next h = refl
made_is MemberCleared e next h = refl
made_is MemberReorganized e next h = refl
made_is (ChangesApplied first last changes) e next h = refl
made_is (ChangesRemoved first last changes) e next h = refl
made_is (RecordAdded image) e next h = refl
made_is (RecordAddedAtNumber image) e next h = refl
made_is (BeforeImage image) e next h = refl
made_is (AfterImage has_before image) e next h = refl
made_is (RecordDeleted before) e next h = refl
made_is (UndoBeforeImage image) e next h = refl
made_is (UndoAfterImage has_before image) e next h = refl
made_is (UndoDelete image) e next h = refl
made_is (CommitmentStarted level) e next h = refl
made_is CommitCycleStarted e next h = refl
made_is CommitCycleCommitted e next h = refl
made_is CommitCycleRolledBack e next h = refl
made_is CommitmentEnded e next h = refl
made_is AbnormalEnd e next h = refl
made_is (NextReceiver number) e next h = refl
made_is (PreviousReceiver number) e next h = refl

-- what an entry that may come next tells of the move
pub stands-sequence : (d : Descriptions) (s : Standing) (e : Entry) → may_stand_next d s e ≡ true → e.sequence ≡ s.next
stands-sequence d s e h = eqb-true e.sequence s.next (
    and_parts (e.sequence == s.next) (ends_pair s.begun e)
    (and_parts _ (names_open e.kind s.cycles e.group)
    (and_parts _ (frees_deleted e.kind s)
    (and_parts _ (may_enter d e.kind e (catalogue_in s)) (and_parts _ (follows_by e.kind s e) (and_parts _ (are_records_of d (catalogue_in s) (member_numbered e.member (catalogue_in s)) (images_of e.kind)) h).0).0).0).0).0
    ).0

stands_enters : (d : Descriptions) (s : Standing) (e : Entry) → may_stand_next d s e ≡ true → may_enter d e.kind e (catalogue_in s) ≡ true
stands_enters d s e h =
    (and_parts _ (may_enter d e.kind e (catalogue_in s)) (and_parts _ (follows_by e.kind s e) (and_parts _ (are_records_of d (catalogue_in s) (member_numbered e.member (catalogue_in s)) (images_of e.kind)) h).0).0).1

pub stands-new : (d : Descriptions) (s : Standing) (e : Entry) → may_stand_next d s e ≡ true → names_new e.kind s.files ≡ true
stands-new d s e h = enters_new d e.kind e (catalogue_in s) (stands_enters d s e h)

pub stands-next : (d : Descriptions) (s : Standing) (e : Entry) → may_stand_next d s e ≡ true → makes_next e.kind e.member s.next_member ≡ true
stands-next d s e h = enters_next d e.kind e (catalogue_in s) (stands_enters d s e h)

note_own : (own : Option ℕ) (a : Act) (s : Standing) → may_act s (named own) a ≡ true → may_note own a s.undos ≡ true
note_own None a s h = refl
note_own (Some number) (Changed c) s h = (and_parts (fits_slot c (slots_at number s.members) && is_open s.cycles c.cycle) (list_all (is_apart number c.place c.cycle) s.undos) h).1
note_own (Some number) (Began n) s h = refl
note_own (Some number) (Committed n) s h = refl
note_own (Some number) (RolledBack n) s h = refl
note_own (Some number) (Journaled images slots) s h = refl
note_own (Some number) (Stood place image) s h = refl
note_own (Some number) Cleared s h = refl
note_own (Some number) Reorganized s h = refl
note_own (Some number) Ended s h = refl
note_own (Some number) Nothing s h = refl

acts_apart : (kind : EntryKind) (s : Standing) (e : Entry) → follows_by kind s e ≡ true → may_note e.member (member_act kind s.begun e) s.undos ≡ true
acts_apart (FileCreated kind name source) s e h = note_own e.member (member_act (FileCreated kind name source) s.begun e) s refl
acts_apart (FileDeleted name) s e h = note_own e.member (member_act (FileDeleted name) s.begun e) s refl
acts_apart (MemberAdded file name) s e h = note_own e.member (member_act (MemberAdded file name) s.begun e) s refl
acts_apart (JournalingStarted images slots) s e h = note_own e.member (member_act (JournalingStarted images slots) s.begun e) s h
acts_apart (InitialSlot image) s e h = note_own e.member (member_act (InitialSlot image) s.begun e) s h
acts_apart JournalingEnded s e h = note_own e.member (member_act JournalingEnded s.begun e) s h
acts_apart MemberCleared s e h = note_own e.member (member_act MemberCleared s.begun e) s h
acts_apart MemberReorganized s e h = note_own e.member (member_act MemberReorganized s.begun e) s h
acts_apart (ChangesApplied first last changes) s e h = note_own e.member (member_act (ChangesApplied first last changes) s.begun e) s refl
acts_apart (ChangesRemoved first last changes) s e h = note_own e.member (member_act (ChangesRemoved first last changes) s.begun e) s refl
acts_apart (RecordAdded image) s e h = note_own e.member (member_act (RecordAdded image) s.begun e) s h
acts_apart (RecordAddedAtNumber image) s e h = note_own e.member (member_act (RecordAddedAtNumber image) s.begun e) s h
acts_apart (BeforeImage image) s e h = note_own e.member (member_act (BeforeImage image) s.begun e) s refl
acts_apart (AfterImage has_before image) s e h = note_own e.member (member_act (AfterImage has_before image) s.begun e) s h
acts_apart (RecordDeleted before) s e h = note_own e.member (member_act (RecordDeleted before) s.begun e) s h
acts_apart (UndoBeforeImage image) s e h = note_own e.member (member_act (UndoBeforeImage image) s.begun e) s refl
acts_apart (UndoAfterImage has_before image) s e h = note_own e.member (member_act (UndoAfterImage has_before image) s.begun e) s h
acts_apart (UndoDelete image) s e h = note_own e.member (member_act (UndoDelete image) s.begun e) s h
acts_apart (CommitmentStarted level) s e h = note_own e.member (member_act (CommitmentStarted level) s.begun e) s refl
acts_apart CommitCycleStarted s e h = note_own e.member (member_act CommitCycleStarted s.begun e) s refl
acts_apart CommitCycleCommitted s e h = note_own e.member (member_act CommitCycleCommitted s.begun e) s refl
acts_apart CommitCycleRolledBack s e h = note_own e.member (member_act CommitCycleRolledBack s.begun e) s refl
acts_apart CommitmentEnded s e h = note_own e.member (member_act CommitmentEnded s.begun e) s refl
acts_apart AbnormalEnd s e h = note_own e.member (member_act AbnormalEnd s.begun e) s refl
acts_apart (NextReceiver number) s e h = note_own e.member (member_act (NextReceiver number) s.begun e) s refl
acts_apart (PreviousReceiver number) s e h = note_own e.member (member_act (PreviousReceiver number) s.begun e) s refl

pub stands-apart : (d : Descriptions) (s : Standing) (e : Entry) → may_stand_next d s e ≡ true → may_note e.member (member_act e.kind s.begun e) s.undos ≡ true
stands-apart d s e h =
    acts_apart e.kind s e (and_parts _ (follows_by e.kind s e) (and_parts _ (are_records_of d (catalogue_in s) (member_numbered e.member (catalogue_in s)) (images_of e.kind)) h).0).1

pub standing-by : (e : Entry) (s : Standing) → makes_next e.kind e.member s.next_member ≡ true → standing_after e s ≡ standing_by e (member_act e.kind s.begun e) s
standing-by e s makes =
    ap (λ (members : List HeldMember). record (standing_after e s) { members = left_by e.kind members ++ made_by e.kind e }) (members_acted e.member s.begun e s.members)
    ∙ ap (λ (made : List HeldMember). record (standing_after e s) { members = left_by e.kind (acted e.member (member_act e.kind s.begun e) e.sequence s.members) ++ made; next_member = next_after s.next_member made }) (made_is e.kind e s.next_member makes)
    ∙ ap (λ (cycles : List ℕ). record (standing_by e (member_act e.kind s.begun e) s) { cycles = cycles; undos = (standing_after e s).undos }) (cycles_by e.kind e.member e.group e (member_act e.kind s.begun e) (open_in s) refl)
    ∙ ap (λ (undos : List MemberChange). record (standing_by e (member_act e.kind s.begun e) s) { undos = undos }) (undos_acted e.member s.begun e s.cycles s.undos)
