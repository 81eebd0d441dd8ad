-- The tests of a standing tell whether an entry may come next: both ways.
use Rattle.std.proofs.Common.{◌≡◌, ℕ, ◌+◌, Bool, true, false, ◌&&◌, ◌||◌, ◌==◌, not, cond, leb, ltb, List, [], ◌∷◌, map, length, Option, Some, None, refl, sym, ap, ◌∙◌, subst, arith}
use Rattle.std.specs.Prelude.{⊤, ◌≤◌, ◌<◌, is_none, unwrap_or, IsTrue, IsFalse}
use Rattle.std.specs.Option.{is_some}
use Rattle.std.specs.List.{filter, find, list_any, list_all, AllByRecursion}
use Rattle.std.specs.Str.{bytes_eq}
use Rattle.std.specs.Cmp.Lexicographic.{pointwise, same_text}
use Rattle.std.proofs.lemmas.Cmp.{nat_list_eq_equiv}
use Rattle.std.proofs.lemmas.Bool.{and_parts, eqb-true, eq-eqb, ne_eqb, leb-true, ltb-true}
use Rattle.std.proofs.lemmas.Bool.Decides.{nat_tests}
use Rattle.entry_codec.specs.declared.entries.Entry.{Entry}
use Rattle.entry_codec.specs.declared.kinds.FileKind.{FileKind}
use Rattle.entry_codec.specs.declared.kinds.FileKind.TheVariants.{Physical, Logical}
use Rattle.entry_codec.specs.declared.kinds.EntryKind.{EntryKind}
use Rattle.entry_codec.specs.declared.kinds.EntryKind.TheVariants.{FileCreated, FileDeleted, MemberAdded, JournalingStarted, InitialSlot, JournalingEnded, MemberCleared, MemberReorganized, ChangesApplied, ChangesRemoved, RecordAdded, RecordAddedAtNumber, BeforeImage, AfterImage, RecordDeleted, UndoBeforeImage, UndoAfterImage, UndoDelete, CommitmentStarted, CommitCycleStarted, CommitCycleCommitted, CommitCycleRolledBack, CommitmentEnded, AbnormalEnd, NextReceiver, PreviousReceiver}
use Rattle.member_slots.specs.declared.slot.Slot.{Slot}
use Rattle.journal_model.specs.declared.limits.TheConstants.{LAST_MEMBER}
use Rattle.journal_model.specs.Acts.{Act, Changed, Began, Committed, RolledBack, Journaled, Stood, Cleared, Reorganized, Ended, Nothing, Change, act, act_there, act_elsewhere, cycle_of, is_number, is_same_number}
use Rattle.journal_model.specs.Places.{slot_of, is_same_slot}
use Rattle.journal_model.specs.Walks.{is_met}
use Rattle.journal_model.specs.Replay.{State, is_in, back, before_of}
use Rattle.journal_model.specs.Replayable.{AgreesBefore, IsOpen, IsAlone, MayChange, MayRollBack, MayStand, MayFollow, CanReplay, is_one_of, agrees_before, is_open, is_alone, may_change, is_restored, is_free, may_follow, can_replay}
use Rattle.journal_model.specs.Pairs.{Pair, OfUpdate, OfUndo, pair_begun, pair_ended, IsOneChange, OneChange, EndsPair}
use Rattle.journal_model.specs.Catalogue.{Catalogue, CatalogFile, CatalogMember, Descriptions, MayEnterBy, MayCreate, MayDelete, MayAddMember, IsNextMember, MakesMember, IsOfMember, file_named, member_numbered, members_of, depends_on}
use Rattle.journal_model.specs.Images.{images_of, AreRecords, AreRecordsOf, HasRecords}
use Rattle.journal_model.specs.Rollback.{MemberChange, of_member, named}
use Rattle.journal_model.proofs.PlaceLemmas.{is_same_slot-itself, is_same_slot-same}
use Rattle.journal_model.proofs.ReplayLemmas.{CanReplay-test}
use Rattle.journal_replay.specs.Standing.{HeldMember, Standing, catalogue_in, state_in, slots_at, MayStandNext}
use Rattle.journal_replay.specs.Tests.{is_next_member, makes_member, may_create, may_delete, is_physical, is_physical_file, may_add_member, is_of_member, may_enter, is_touched, frees_deleted, is_of_record, first_before, is_back, is_restored_in, are_restored, is_apart, fits_slot, member_act, may_act, follows_by, names_open, is_pair, is_same_job, is_one_change, one_change, ends_pair, are_records, are_records_of, may_stand_next}

-- ---- booleans and options

and_both : (a b : Bool) → a ≡ true → b ≡ true → a && b ≡ true
and_both true b g h = h
and_both false b g h = absurd cc

not_true : (a : Bool) → not a ≡ true → a ≡ false
not_true true h = absurd cc
not_true false h = refl

not_false : (a : Bool) → a ≡ false → not a ≡ true
not_false true h = absurd cc
not_false false h = refl

none_is : {A : Type 0} (o : Option A) → is_none o ≡ true → o ≡ None
none_is None h = refl
none_is (Some x) h = absurd cc

some_is : {A : Type 0} (o : Option A) → is_some o ≡ true → (x : A) × (o ≡ Some x)
some_is None h = absurd cc
some_is (Some x) h = (x, refl)

number_is : (o : Option ℕ) (n : ℕ) → is_number o n ≡ true → o ≡ Some n
number_is None n h = absurd cc
number_is (Some m) n h = ap Some (eqb-true m n h)

is_number-same : (o : Option ℕ) (n : ℕ) → o ≡ Some n → is_number o n ≡ true
is_number-same None n h = absurd cc
is_number-same (Some m) n h = eq-eqb m n cc

same_number : (a b : Option ℕ) → is_same_number a b ≡ true → a ≡ b
same_number None None h = refl
same_number None (Some n) h = absurd cc
same_number (Some m) None h = absurd cc
same_number (Some m) (Some n) h = ap Some (sym (eqb-true n m h))

same_number-itself : (a b : Option ℕ) → a ≡ b → is_same_number a b ≡ true
same_number-itself None None h = refl
same_number-itself None (Some n) h = absurd cc
same_number-itself (Some m) None h = absurd cc
same_number-itself (Some m) (Some n) h = eq-eqb n m cc

-- ---- the catalogue

next_test : (number : Option ℕ) (c : Catalogue) → is_next_member number c ≡ true → IsNextMember number c
next_test number c h = let tests = and_parts (is_number number c.next_member) (leb c.next_member LAST_MEMBER) h in
    record { next = number_is number c.next_member tests.0; last = leb-true c.next_member LAST_MEMBER tests.1 }

test_next : (number : Option ℕ) (c : Catalogue) → IsNextMember number c → is_next_member number c ≡ true
test_next number c h = let last = h.last in and_both (is_number number c.next_member) (leb c.next_member LAST_MEMBER) (is_number-same number c.next_member h.next) (grind (arith, nat_tests, last))

makes_test : (kind : FileKind) (e : Entry) (c : Catalogue) → makes_member kind e c ≡ true → MakesMember kind e c
makes_test Physical e c h = next_test e.member c h
makes_test Logical e c h = tt

test_makes : (kind : FileKind) (e : Entry) (c : Catalogue) → MakesMember kind e c → makes_member kind e c ≡ true
test_makes Physical e c h = test_next e.member c h
test_makes Logical e c h = refl

create_test : (d : Descriptions) (kind : FileKind) (name source : List ℕ) (e : Entry) (c : Catalogue) → may_create d kind name source e c ≡ true → MayCreate d kind name source e c
create_test d kind name source e c h =
    let last = and_parts (is_none (file_named name c) && makes_member kind e c) (d.accepts c.files kind source) h in
    let first = and_parts (is_none (file_named name c)) (makes_member kind e c) last.0 in
    record { unnamed = none_is (file_named name c) first.0; accepted = last.1; numbered = makes_test kind e c first.1 }

test_create : (d : Descriptions) (kind : FileKind) (name source : List ℕ) (e : Entry) (c : Catalogue) → MayCreate d kind name source e c → may_create d kind name source e c ≡ true
test_create d kind name source e c h =
    and_both (is_none (file_named name c) && makes_member kind e c) (d.accepts c.files kind source)
    (and_both (is_none (file_named name c)) (makes_member kind e c) (ap is_none h.unnamed) (test_makes kind e c h.numbered)) h.accepted

delete_test : (d : Descriptions) (name : List ℕ) (c : Catalogue) → may_delete d name c ≡ true → MayDelete d name c
delete_test d name c h =
    let tests = and_parts (is_some (file_named name c)) (not (list_any (depends_on d name) c.files)) h in
    let file = some_is (file_named name c) tests.0 in
    record { file = file.0; named = file.1; alone = not_true (list_any (depends_on d name) c.files) tests.1 }

test_delete : (d : Descriptions) (name : List ℕ) (c : Catalogue) → MayDelete d name c → may_delete d name c ≡ true
test_delete d name c h = and_both (is_some (file_named name c)) (not (list_any (depends_on d name) c.files)) (ap is_some h.named) (not_false (list_any (depends_on d name) c.files) h.alone)

physical_is : (kind : FileKind) → is_physical kind ≡ true → kind ≡ Physical
physical_is Physical h = refl
physical_is Logical h = absurd cc

physical_file : (o : Option CatalogFile) → is_physical_file o ≡ true → (f : CatalogFile) × (o ≡ Some f) × (f.kind ≡ Physical)
physical_file None h = absurd cc
physical_file (Some f) h = (f, refl, physical_is f.kind h)

add_test : (file name : List ℕ) (e : Entry) (c : Catalogue) → may_add_member file name e c ≡ true → MayAddMember file name e c
add_test file name e c h =
    let last = and_parts (is_physical_file (file_named file c) && is_next_member e.member c) (not (list_any (λ (m : CatalogMember). bytes_eq m.name name) (members_of file c))) h in
    let first = and_parts (is_physical_file (file_named file c)) (is_next_member e.member c) last.0 in
    let over = physical_file (file_named file c) first.0 in
    record {
      over = over.0;
      named = over.1;
      physical = over.2;
      unnamed = not_true (list_any (λ (m : CatalogMember). bytes_eq m.name name) (members_of file c)) last.1;
      numbered = next_test e.member c first.1;
    }

test_add : (file name : List ℕ) (e : Entry) (c : Catalogue) → MayAddMember file name e c → may_add_member file name e c ≡ true
test_add file name e c h =
    and_both (is_physical_file (file_named file c) && is_next_member e.member c) (not (list_any (λ (m : CatalogMember). bytes_eq m.name name) (members_of file c)))
    (and_both (is_physical_file (file_named file c)) (is_next_member e.member c) (ap is_physical_file h.named ∙ ap is_physical h.physical) (test_next e.member c h.numbered))
    (not_false (list_any (λ (m : CatalogMember). bytes_eq m.name name) (members_of file c)) h.unnamed)

some_of : (e : Entry) (c : Catalogue) → is_of_member e c ≡ true → IsOfMember e c
some_of e c h = some_is (member_numbered e.member c) h

enter_test : (d : Descriptions) (kind : EntryKind) (e : Entry) (c : Catalogue) → may_enter d kind e c ≡ true → MayEnterBy d kind e c
enter_test d (FileCreated kind name source) e c h = create_test d kind name source e c h
enter_test d (FileDeleted name) e c h = delete_test d name c h
enter_test d (MemberAdded file name) e c h = add_test file name e c h
enter_test d (JournalingStarted images slots) e c h = some_of e c h
enter_test d (InitialSlot image) e c h = some_of e c h
enter_test d JournalingEnded e c h = some_of e c h
enter_test d MemberCleared e c h = some_of e c h
enter_test d MemberReorganized e c h = some_of e c h
enter_test d (ChangesApplied first last changes) e c h = some_of e c h
enter_test d (ChangesRemoved first last changes) e c h = some_of e c h
enter_test d (RecordAdded image) e c h = some_of e c h
enter_test d (RecordAddedAtNumber image) e c h = some_of e c h
enter_test d (BeforeImage image) e c h = some_of e c h
enter_test d (AfterImage has_before image) e c h = some_of e c h
enter_test d (RecordDeleted before) e c h = some_of e c h
enter_test d (UndoBeforeImage image) e c h = some_of e c h
enter_test d (UndoAfterImage has_before image) e c h = some_of e c h
enter_test d (UndoDelete image) e c h = some_of e c h
enter_test d (CommitmentStarted level) e c h = tt
enter_test d CommitCycleStarted e c h = tt
enter_test d CommitCycleCommitted e c h = tt
enter_test d CommitCycleRolledBack e c h = tt
enter_test d CommitmentEnded e c h = tt
enter_test d AbnormalEnd e c h = tt
enter_test d (NextReceiver number) e c h = tt
enter_test d (PreviousReceiver number) e c h = tt

test_enter : (d : Descriptions) (kind : EntryKind) (e : Entry) (c : Catalogue) → MayEnterBy d kind e c → may_enter d kind e c ≡ true
test_enter d (FileCreated kind name source) e c h = test_create d kind name source e c h
test_enter d (FileDeleted name) e c h = test_delete d name c h
test_enter d (MemberAdded file name) e c h = test_add file name e c h
test_enter d (JournalingStarted images slots) e c h = ap is_some h.1
test_enter d (InitialSlot image) e c h = ap is_some h.1
test_enter d JournalingEnded e c h = ap is_some h.1
test_enter d MemberCleared e c h = ap is_some h.1
test_enter d MemberReorganized e c h = ap is_some h.1
test_enter d (ChangesApplied first last changes) e c h = ap is_some h.1
test_enter d (ChangesRemoved first last changes) e c h = ap is_some h.1
test_enter d (RecordAdded image) e c h = ap is_some h.1
test_enter d (RecordAddedAtNumber image) e c h = ap is_some h.1
test_enter d (BeforeImage image) e c h = ap is_some h.1
test_enter d (AfterImage has_before image) e c h = ap is_some h.1
test_enter d (RecordDeleted before) e c h = ap is_some h.1
test_enter d (UndoBeforeImage image) e c h = ap is_some h.1
test_enter d (UndoAfterImage has_before image) e c h = ap is_some h.1
test_enter d (UndoDelete image) e c h = ap is_some h.1
test_enter d (CommitmentStarted level) e c h = refl
test_enter d CommitCycleStarted e c h = refl
test_enter d CommitCycleCommitted e c h = refl
test_enter d CommitCycleRolledBack e c h = refl
test_enter d CommitmentEnded e c h = refl
test_enter d AbnormalEnd e c h = refl
test_enter d (NextReceiver number) e c h = refl
test_enter d (PreviousReceiver number) e c h = refl

-- ---- commit cycles that are named

open_test : (cycles : List ℕ) (group : Option ℕ) → is_open cycles group ≡ true → IsOpen cycles group
open_test cycles None h = tt
open_test cycles (Some n) h = h

test_open : (cycles : List ℕ) (group : Option ℕ) → IsOpen cycles group → is_open cycles group ≡ true
test_open cycles None h = refl
test_open cycles (Some n) h = h

names_test : (kind : EntryKind) (cycles : List ℕ) (group : Option ℕ) → names_open kind cycles group ≡ true → (kind ≡ CommitCycleStarted → ⊥) → IsOpen cycles group
names_test (FileCreated kind name source) cycles group h not = open_test cycles group h
names_test (FileDeleted name) cycles group h not = open_test cycles group h
names_test (MemberAdded file name) cycles group h not = open_test cycles group h
names_test (JournalingStarted images slots) cycles group h not = open_test cycles group h
names_test (InitialSlot image) cycles group h not = open_test cycles group h
names_test JournalingEnded cycles group h not = open_test cycles group h
names_test MemberCleared cycles group h not = open_test cycles group h
names_test MemberReorganized cycles group h not = open_test cycles group h
names_test (ChangesApplied first last changes) cycles group h not = open_test cycles group h
names_test (ChangesRemoved first last changes) cycles group h not = open_test cycles group h
names_test (RecordAdded image) cycles group h not = open_test cycles group h
names_test (RecordAddedAtNumber image) cycles group h not = open_test cycles group h
names_test (BeforeImage image) cycles group h not = open_test cycles group h
names_test (AfterImage has_before image) cycles group h not = open_test cycles group h
names_test (RecordDeleted before) cycles group h not = open_test cycles group h
names_test (UndoBeforeImage image) cycles group h not = open_test cycles group h
names_test (UndoAfterImage has_before image) cycles group h not = open_test cycles group h
names_test (UndoDelete image) cycles group h not = open_test cycles group h
names_test (CommitmentStarted level) cycles group h not = open_test cycles group h
names_test CommitCycleStarted cycles group h not = absurd (not refl)
names_test CommitCycleCommitted cycles group h not = open_test cycles group h
names_test CommitCycleRolledBack cycles group h not = open_test cycles group h
names_test CommitmentEnded cycles group h not = open_test cycles group h
names_test AbnormalEnd cycles group h not = open_test cycles group h
names_test (NextReceiver number) cycles group h not = open_test cycles group h
names_test (PreviousReceiver number) cycles group h not = open_test cycles group h

test_names : (kind : EntryKind) (cycles : List ℕ) (group : Option ℕ) → ((kind ≡ CommitCycleStarted → ⊥) → IsOpen cycles group) → names_open kind cycles group ≡ true
test_names (FileCreated kind name source) cycles group h = test_open cycles group (h (λ e. absurd cc))
test_names (FileDeleted name) cycles group h = test_open cycles group (h (λ e. absurd cc))
test_names (MemberAdded file name) cycles group h = test_open cycles group (h (λ e. absurd cc))
test_names (JournalingStarted images slots) cycles group h = test_open cycles group (h (λ e. absurd cc))
test_names (InitialSlot image) cycles group h = test_open cycles group (h (λ e. absurd cc))
test_names JournalingEnded cycles group h = test_open cycles group (h (λ e. absurd cc))
test_names MemberCleared cycles group h = test_open cycles group (h (λ e. absurd cc))
test_names MemberReorganized cycles group h = test_open cycles group (h (λ e. absurd cc))
test_names (ChangesApplied first last changes) cycles group h = test_open cycles group (h (λ e. absurd cc))
test_names (ChangesRemoved first last changes) cycles group h = test_open cycles group (h (λ e. absurd cc))
test_names (RecordAdded image) cycles group h = test_open cycles group (h (λ e. absurd cc))
test_names (RecordAddedAtNumber image) cycles group h = test_open cycles group (h (λ e. absurd cc))
test_names (BeforeImage image) cycles group h = test_open cycles group (h (λ e. absurd cc))
test_names (AfterImage has_before image) cycles group h = test_open cycles group (h (λ e. absurd cc))
test_names (RecordDeleted before) cycles group h = test_open cycles group (h (λ e. absurd cc))
test_names (UndoBeforeImage image) cycles group h = test_open cycles group (h (λ e. absurd cc))
test_names (UndoAfterImage has_before image) cycles group h = test_open cycles group (h (λ e. absurd cc))
test_names (UndoDelete image) cycles group h = test_open cycles group (h (λ e. absurd cc))
test_names (CommitmentStarted level) cycles group h = test_open cycles group (h (λ e. absurd cc))
test_names CommitCycleStarted cycles group h = refl
test_names CommitCycleCommitted cycles group h = test_open cycles group (h (λ e. absurd cc))
test_names CommitCycleRolledBack cycles group h = test_open cycles group (h (λ e. absurd cc))
test_names CommitmentEnded cycles group h = test_open cycles group (h (λ e. absurd cc))
test_names AbnormalEnd cycles group h = test_open cycles group (h (λ e. absurd cc))
test_names (NextReceiver number) cycles group h = test_open cycles group (h (λ e. absurd cc))
test_names (PreviousReceiver number) cycles group h = test_open cycles group (h (λ e. absurd cc))

-- ---- pairs

pair_is : (a b : Option Pair) → is_pair a b ≡ true → a ≡ b
pair_is None None h = refl
pair_is None (Some b) h = absurd cc
pair_is (Some OfUpdate) None h = absurd cc
pair_is (Some OfUndo) None h = absurd cc
pair_is (Some OfUpdate) (Some OfUpdate) h = refl
pair_is (Some OfUpdate) (Some OfUndo) h = absurd cc
pair_is (Some OfUndo) (Some OfUpdate) h = absurd cc
pair_is (Some OfUndo) (Some OfUndo) h = refl

pair_itself : (a : Option Pair) → is_pair a a ≡ true
pair_itself None = refl
pair_itself (Some OfUpdate) = refl
pair_itself (Some OfUndo) = refl

job_is : (a b : Option (List ℕ)) → is_same_job a b ≡ true → a ≡ b
job_is None None h = refl
job_is None (Some b) h = absurd cc
job_is (Some a) None h = absurd cc
job_is (Some a) (Some b) h = ap Some (same_text a b (sym h))

job_itself : (a : Option (List ℕ)) → is_same_job a a ≡ true
job_itself None = refl
job_itself (Some a) = nat_list_eq_equiv.refl a

change_is : (a b : Entry) → is_one_change a b ≡ true → IsOneChange a b
change_is a b h =
    let last = and_parts (is_same_job a.job b.job && is_same_number a.group b.group && is_same_number a.member b.member) (is_same_number a.rrn b.rrn) h in
    let third = and_parts (is_same_job a.job b.job && is_same_number a.group b.group) (is_same_number a.member b.member) last.0 in
    let first = and_parts (is_same_job a.job b.job) (is_same_number a.group b.group) third.0 in
    record { job = job_is a.job b.job first.0; cycle = same_number a.group b.group first.1; member = same_number a.member b.member third.1; rrn = same_number a.rrn b.rrn last.1 }

is_change : (a b : Entry) → IsOneChange a b → is_one_change a b ≡ true
is_change a b h =
    and_both (is_same_job a.job b.job && is_same_number a.group b.group && is_same_number a.member b.member) (is_same_number a.rrn b.rrn)
    (and_both (is_same_job a.job b.job && is_same_number a.group b.group) (is_same_number a.member b.member)
    (and_both (is_same_job a.job b.job) (is_same_number a.group b.group) (subst (λ (o : Option (List ℕ)). is_same_job a.job o ≡ true) h.job (job_itself a.job)) (same_number-itself a.group b.group h.cycle))
    (same_number-itself a.member b.member h.member)) (same_number-itself a.rrn b.rrn h.rrn)

one_test : (pair : Option Pair) (prior e : Entry) → one_change pair prior e ≡ true → OneChange pair prior e
one_test None prior e h = tt
one_test (Some pair) prior e h = change_is prior e h

test_one : (pair : Option Pair) (prior e : Entry) → OneChange pair prior e → one_change pair prior e ≡ true
test_one None prior e h = refl
test_one (Some pair) prior e h = is_change prior e h

ends_test : (prior : Option Entry) (e : Entry) → ends_pair prior e ≡ true → EndsPair prior e
ends_test None e h = none_is (pair_ended e.kind) h
ends_test (Some prior) e h =
    let tests = and_parts (is_pair (pair_ended e.kind) (pair_begun prior.kind)) (one_change (pair_begun prior.kind) prior e) h in
    (pair_is (pair_ended e.kind) (pair_begun prior.kind) tests.0, one_test (pair_begun prior.kind) prior e tests.1)

test_ends : (prior : Option Entry) (e : Entry) → EndsPair prior e → ends_pair prior e ≡ true
test_ends None e h = ap is_none h
test_ends (Some prior) e h =
    and_both (is_pair (pair_ended e.kind) (pair_begun prior.kind)) (one_change (pair_begun prior.kind) prior e)
    (subst (λ (o : Option Pair). is_pair o (pair_begun prior.kind) ≡ true) (sym h.0) (pair_itself (pair_begun prior.kind))) (test_one (pair_begun prior.kind) prior e h.1)

-- ---- images

all_test : (p : List ℕ → Bool) (images : List (List ℕ)) → list_all p images ≡ true → AllByRecursion (λ image. IsTrue (p image)) images
all_test p [] h = tt
all_test p (image ∷ images) h = let tests = and_parts (p image) (list_all p images) h in (tests.0, all_test p images tests.1)

test_all : (p : List ℕ → Bool) (images : List (List ℕ)) → AllByRecursion (λ image. IsTrue (p image)) images → list_all p images ≡ true
test_all p [] h = refl
test_all p (image ∷ images) h = and_both (p image) (list_all p images) h.0 (test_all p images h.1)

records_test : (d : Descriptions) (c : Catalogue) (files : List CatalogFile) (file : Option CatalogFile) (images : List (List ℕ)) → are_records d files file images ≡ true → AreRecords d files file images
records_test d c files None images h = tt
records_test d c files (Some file) images h = all_test (d.is_record files file.source) images h

test_records : (d : Descriptions) (c : Catalogue) (files : List CatalogFile) (file : Option CatalogFile) (images : List (List ℕ)) → AreRecords d files file images → are_records d files file images ≡ true
test_records d c files None images h = refl
test_records d c files (Some file) images h = test_all (d.is_record files file.source) images h

of_test : (d : Descriptions) (c : Catalogue) (member : Option CatalogMember) (images : List (List ℕ)) → are_records_of d c member images ≡ true → AreRecordsOf d c member images
of_test d c None images h = tt
of_test d c (Some member) images h = records_test d c c.files (file_named member.file c) images h

test_of : (d : Descriptions) (c : Catalogue) (member : Option CatalogMember) (images : List (List ℕ)) → AreRecordsOf d c member images → are_records_of d c member images ≡ true
test_of d c None images h = refl
test_of d c (Some member) images h = test_records d c c.files (file_named member.file c) images h

-- ---- members that are touched

touched_none : (number : ℕ) (undos : List MemberChange) → is_touched number undos ≡ false → of_member number undos ≡ []
touched_none number [] h = refl
touched_none number (c ∷ undos) h = at (c.member == number) h (touched_none number undos) where
  at : (b : Bool) → b || is_touched number undos ≡ false → (is_touched number undos ≡ false → of_member number undos ≡ []) → cond b (c.change ∷ of_member number undos) (of_member number undos) ≡ []
  at true h more = absurd cc
  at false h more = more h

none_touched : (number : ℕ) (undos : List MemberChange) → of_member number undos ≡ [] → is_touched number undos ≡ false
none_touched number [] h = refl
none_touched number (c ∷ undos) h = at (c.member == number) h (none_touched number undos) where
  at : (b : Bool) → cond b (c.change ∷ of_member number undos) (of_member number undos) ≡ [] → (of_member number undos ≡ [] → is_touched number undos ≡ false) → b || is_touched number undos ≡ false
  at true h more = absurd cc
  at false h more = more h

free_each : (undos : List MemberChange) (members : List CatalogMember) → list_any (λ (m : CatalogMember). is_touched m.number undos) members ≡ false → AllByRecursion (λ (m : CatalogMember). of_member m.number undos ≡ []) members
free_each undos [] h = tt
free_each undos (m ∷ members) h = at (is_touched m.number undos) refl h (free_each undos members) where
  at : (b : Bool) → is_touched m.number undos ≡ b → b || list_any (λ (m : CatalogMember). is_touched m.number undos) members ≡ false
      → (list_any (λ (m : CatalogMember). is_touched m.number undos) members ≡ false → AllByRecursion (λ (m : CatalogMember). of_member m.number undos ≡ []) members)
      → (of_member m.number undos ≡ []) × AllByRecursion (λ (m : CatalogMember). of_member m.number undos ≡ []) members
  at true e h more = absurd cc
  at false e h more = (touched_none m.number undos e, more h)

each_free : (undos : List MemberChange) (members : List CatalogMember) → AllByRecursion (λ (m : CatalogMember). of_member m.number undos ≡ []) members → list_any (λ (m : CatalogMember). is_touched m.number undos) members ≡ false
each_free undos [] h = refl
each_free undos (m ∷ members) h = rw (none_touched m.number undos h.0) (each_free undos members h.1)

frees_test : (kind : EntryKind) (s : Standing) → frees_deleted kind s ≡ true → (name : List ℕ) → kind ≡ FileDeleted name → AllByRecursion (λ (m : CatalogMember). of_member m.number s.undos ≡ []) (members_of name (catalogue_in s))
frees_test kind s h name k = free_each s.undos (members_of name (catalogue_in s)) (not_true (list_any (λ (m : CatalogMember). is_touched m.number s.undos) (members_of name (catalogue_in s))) (sym (ap (λ (kind : EntryKind). frees_deleted kind s) k) ∙ h))

test_frees : (kind : EntryKind) (s : Standing) → ((name : List ℕ) → kind ≡ FileDeleted name → AllByRecursion (λ (m : CatalogMember). of_member m.number s.undos ≡ []) (members_of name (catalogue_in s))) → frees_deleted kind s ≡ true
test_frees (FileCreated kind name source) s h = refl
test_frees (FileDeleted name) s h = not_false (list_any (λ (m : CatalogMember). is_touched m.number s.undos) (members_of name (catalogue_in s))) (each_free s.undos (members_of name (catalogue_in s)) (h name refl))
test_frees (MemberAdded file name) s h = refl
test_frees (JournalingStarted images slots) s h = refl
test_frees (InitialSlot image) s h = refl
test_frees JournalingEnded s h = refl
test_frees MemberCleared s h = refl
test_frees MemberReorganized s h = refl
test_frees (ChangesApplied first last changes) s h = refl
test_frees (ChangesRemoved first last changes) s h = refl
test_frees (RecordAdded image) s h = refl
test_frees (RecordAddedAtNumber image) s h = refl
test_frees (BeforeImage image) s h = refl
test_frees (AfterImage has_before image) s h = refl
test_frees (RecordDeleted before) s h = refl
test_frees (UndoBeforeImage image) s h = refl
test_frees (UndoAfterImage has_before image) s h = refl
test_frees (UndoDelete image) s h = refl
test_frees (CommitmentStarted level) s h = refl
test_frees CommitCycleStarted s h = refl
test_frees CommitCycleCommitted s h = refl
test_frees CommitCycleRolledBack s h = refl
test_frees CommitmentEnded s h = refl
test_frees AbnormalEnd s h = refl
test_frees (NextReceiver number) s h = refl
test_frees (PreviousReceiver number) s h = refl

-- ---- acts

agrees_complete : (before : Option Slot) (cycle : Option ℕ) (slot : Slot) → AgreesBefore before cycle slot → agrees_before before cycle slot ≡ true
agrees_complete (Some side) cycle slot h = subst (λ (t : Slot). is_same_slot slot t ≡ true) h (is_same_slot-itself slot)
agrees_complete None cycle slot h = and_both (is_none cycle) (is_met None slot) (ap is_none h.0) h.1

alone_complete : (c : Change) (undos : List Change) → IsAlone c undos → is_alone c undos ≡ true
alone_complete c [] h = refl
alone_complete c (d ∷ undos) h = and_both (not (d.place == c.place) || is_same_number d.cycle c.cycle) (is_alone c undos) (at (d.place == c.place) refl) (alone_complete c undos h.1) where
  at : (b : Bool) → d.place == c.place ≡ b → not b || is_same_number d.cycle c.cycle ≡ true
  at true e = same_number-itself d.cycle c.cycle (h.0 (eqb-true d.place c.place e))
  at false e = refl

free_complete : (undos : List Change) → undos ≡ [] → is_free undos ≡ true
free_complete undos h = ap is_free h

restored_complete : (undos all : List Change) (slots : List Slot) → ((place : ℕ) → back place all (slot_of slots place) ≡ slot_of slots place) → is_restored undos all slots ≡ true
restored_complete [] all slots h = refl
restored_complete (c ∷ undos) all slots h = and_both (is_same_slot (back c.place all (slot_of slots c.place)) (slot_of slots c.place)) (is_restored undos all slots)
    (subst (λ (t : Slot). is_same_slot t (slot_of slots c.place) ≡ true) (sym (h c.place)) (is_same_slot-itself (slot_of slots c.place))) (restored_complete undos all slots h)

change_complete : (s : State) (c : Change) → MayChange s c → may_change s c ≡ true
change_complete s c h =
    let place = h.place in
    and_both (leb c.place (length s.slots) && agrees_before c.before c.cycle (slot_of s.slots c.place) && is_open s.cycles c.cycle) (is_alone c s.undos)
    (and_both (leb c.place (length s.slots) && agrees_before c.before c.cycle (slot_of s.slots c.place)) (is_open s.cycles c.cycle)
    (and_both (leb c.place (length s.slots)) (agrees_before c.before c.cycle (slot_of s.slots c.place)) (grind (arith, nat_tests, place)) (agrees_complete c.before c.cycle (slot_of s.slots c.place) h.before))
    (test_open s.cycles c.cycle h.cycle)) (alone_complete c s.undos h.alone)

-- the test of an act is passed where the act may follow
follow_complete : (s : State) (a : Act) → MayFollow s a → may_follow s a ≡ true
follow_complete s (Changed c) h = change_complete s c h
follow_complete s (Began n) h = eq-eqb n s.next h
follow_complete s (Committed n) h = h
follow_complete s (RolledBack n) h = and_both (is_one_of s.cycles n) (is_restored (filter (is_in n) s.undos) (filter (is_in n) s.undos) s.slots) h.begun
    (restored_complete (filter (is_in n) s.undos) (filter (is_in n) s.undos) s.slots h.restored)
follow_complete s (Journaled images number) h = free_complete s.undos h
follow_complete s (Stood place image) h = let there = h.there in and_both (is_free s.undos) (ltb place (length s.slots)) (free_complete s.undos h.free) (grind (arith, nat_tests, there))
follow_complete s Cleared h = free_complete s.undos h
follow_complete s Reorganized h = free_complete s.undos h
follow_complete s Ended h = free_complete s.undos h
follow_complete s Nothing h = refl

follow_test : (s : State) (a : Act) → may_follow s a ≡ true → MayFollow s a
follow_test s a h = (CanReplay-test s (a ∷ []) (and_both (may_follow s a) true h refl)).0

-- ---- records that are restored

first_back : (n member place : ℕ) (undos : List MemberChange) (found : Option Slot) (slot : Slot)
    → back place (filter (is_in n) (of_member member undos)) (unwrap_or found slot) ≡ unwrap_or (first_before n member place undos found) slot
first_back n member place [] found slot = refl
first_back n member place (c ∷ undos) found slot = at (λ next. first_back n member place undos next slot) (is_in n c.change) (c.member == member) (c.change.place == place) refl refl refl where
  at : ((next : Option Slot) → back place (filter (is_in n) (of_member member undos)) (unwrap_or next slot) ≡ unwrap_or (first_before n member place undos next) slot)
      → (i m p : Bool) → is_in n c.change ≡ i → c.member == member ≡ m → c.change.place == place ≡ p
      → back place (filter (is_in n) (cond m (c.change ∷ of_member member undos) (of_member member undos))) (unwrap_or found slot)
      ≡ unwrap_or (first_before n member place undos (cond (i && m && p) (Some (before_of c.change)) found)) slot
  at more true true true i m p =
      subst (λ (b : Bool). back place (cond b (c.change ∷ filter (is_in n) (of_member member undos)) (filter (is_in n) (of_member member undos))) (unwrap_or found slot) ≡ unwrap_or (first_before n member place undos (Some (before_of c.change))) slot) (sym i)
      (subst (λ (b : Bool). back place (filter (is_in n) (of_member member undos)) (cond b (before_of c.change) (unwrap_or found slot)) ≡ unwrap_or (first_before n member place undos (Some (before_of c.change))) slot) (sym p) (more (Some (before_of c.change))))
  at more true true false i m p =
      subst (λ (b : Bool). back place (cond b (c.change ∷ filter (is_in n) (of_member member undos)) (filter (is_in n) (of_member member undos))) (unwrap_or found slot) ≡ unwrap_or (first_before n member place undos found) slot) (sym i)
      (subst (λ (b : Bool). back place (filter (is_in n) (of_member member undos)) (cond b (before_of c.change) (unwrap_or found slot)) ≡ unwrap_or (first_before n member place undos found) slot) (sym p) (more found))
  at more false true true i m p =
      subst (λ (b : Bool). back place (cond b (c.change ∷ filter (is_in n) (of_member member undos)) (filter (is_in n) (of_member member undos))) (unwrap_or found slot) ≡ unwrap_or (first_before n member place undos found) slot) (sym i) (more found)
  at more false true false i m p =
      subst (λ (b : Bool). back place (cond b (c.change ∷ filter (is_in n) (of_member member undos)) (filter (is_in n) (of_member member undos))) (unwrap_or found slot) ≡ unwrap_or (first_before n member place undos found) slot) (sym i) (more found)
  at more true false true i m p = more found
  at more true false false i m p = more found
  at more false false true i m p = more found
  at more false false false i m p = more found

back_is : (o : Option Slot) (slot : Slot) → unwrap_or o slot ≡ slot → is_back o slot ≡ true
back_is None slot h = refl
back_is (Some before) slot h = subst (λ (t : Slot). is_same_slot slot t ≡ true) (sym h) (is_same_slot-itself slot)

is_back_to : (o : Option Slot) (slot : Slot) → is_back o slot ≡ true → is_same_slot (unwrap_or o slot) slot ≡ true
is_back_to None slot h = is_same_slot-itself slot
is_back_to (Some before) slot h = subst (λ (t : Slot). is_same_slot before t ≡ true) (sym (is_same_slot-same slot before h)) (is_same_slot-itself before)

restored_each : (n : ℕ) (s : Standing) (undos : List MemberChange) → ((member place : ℕ) → back place (filter (is_in n) (of_member member s.undos)) (slot_of (slots_at member s.members) place) ≡ slot_of (slots_at member s.members) place)
    → list_all (is_restored_in n s.undos s.members) undos ≡ true
restored_each n s [] h = refl
restored_each n s (c ∷ undos) h = and_both (is_restored_in n s.undos s.members c) (list_all (is_restored_in n s.undos s.members) undos) (at (is_in n c.change)) (restored_each n s undos h) where
  at : (b : Bool) → not b || is_back (first_before n c.member c.change.place s.undos None) (slot_of (slots_at c.member s.members) c.change.place) ≡ true
  at true = back_is (first_before n c.member c.change.place s.undos None) (slot_of (slots_at c.member s.members) c.change.place)
      (sym (first_back n c.member c.change.place s.undos None (slot_of (slots_at c.member s.members) c.change.place)) ∙ h c.member c.change.place)
  at false = refl

each_restored : (n member : ℕ) (s : Standing) (undos : List MemberChange) → list_all (is_restored_in n s.undos s.members) undos ≡ true
    → is_restored (filter (is_in n) (of_member member undos)) (filter (is_in n) (of_member member s.undos)) (slots_at member s.members) ≡ true
each_restored n member s [] h = refl
each_restored n member s (c ∷ undos) h =
    let tests = and_parts (is_restored_in n s.undos s.members c) (list_all (is_restored_in n s.undos s.members) undos) h in
    at (c.member == member) refl (is_in n c.change) refl tests.0 (each_restored n member s undos tests.1)
  where
    there : is_back (first_before n c.member c.change.place s.undos None) (slot_of (slots_at c.member s.members) c.change.place) ≡ true
        → is_same_slot (back c.change.place (filter (is_in n) (of_member c.member s.undos)) (slot_of (slots_at c.member s.members) c.change.place)) (slot_of (slots_at c.member s.members) c.change.place) ≡ true
    there g = subst (λ (t : Slot). is_same_slot t (slot_of (slots_at c.member s.members) c.change.place) ≡ true) (sym (first_back n c.member c.change.place s.undos None (slot_of (slots_at c.member s.members) c.change.place)))
        (is_back_to (first_before n c.member c.change.place s.undos None) (slot_of (slots_at c.member s.members) c.change.place) g)

    at : (t : Bool) → c.member == member ≡ t → (b : Bool) → is_in n c.change ≡ b
        → not b || is_back (first_before n c.member c.change.place s.undos None) (slot_of (slots_at c.member s.members) c.change.place) ≡ true
        → is_restored (filter (is_in n) (of_member member undos)) (filter (is_in n) (of_member member s.undos)) (slots_at member s.members) ≡ true
        → is_restored (filter (is_in n) (cond t (c.change ∷ of_member member undos) (of_member member undos))) (filter (is_in n) (of_member member s.undos)) (slots_at member s.members) ≡ true
    at true e true f here more = rw f (and_both _ _ (subst (λ (m : ℕ). is_same_slot (back c.change.place (filter (is_in n) (of_member m s.undos)) (slot_of (slots_at m s.members) c.change.place)) (slot_of (slots_at m s.members) c.change.place) ≡ true) (eqb-true c.member member e) (there here)) more)
    at true e false f here more = rw f more
    at false e b f here more = more

-- ---- the act of the member that is named

alone_all : (number : ℕ) (c : Change) (undos : List MemberChange) → is_alone c (of_member number undos) ≡ list_all (is_apart number c.place c.cycle) undos
alone_all number c [] = refl
alone_all number c (x ∷ undos) = at (x.member == number) (alone_all number c undos) where
  at : (b : Bool) → is_alone c (of_member number undos) ≡ list_all (is_apart number c.place c.cycle) undos
      → is_alone c (cond b (x.change ∷ of_member number undos) (of_member number undos))
      ≡ (not b || not (x.change.place == c.place) || is_same_number x.change.cycle c.cycle) && list_all (is_apart number c.place c.cycle) undos
  at true more = ap (λ (t : Bool). (not (x.change.place == c.place) || is_same_number x.change.cycle c.cycle) && t) more
  at false more = more

free_touched : (number : ℕ) (undos : List MemberChange) → is_free (of_member number undos) ≡ not (is_touched number undos)
free_touched number [] = refl
free_touched number (c ∷ undos) = at (c.member == number) (free_touched number undos) where
  at : (b : Bool) → is_free (of_member number undos) ≡ not (is_touched number undos) → is_free (cond b (c.change ∷ of_member number undos) (of_member number undos)) ≡ not (b || is_touched number undos)
  at true more = refl
  at false more = more

-- an act that is of no commit cycle
abbrev IsOfNoCycle : Act → Type 0
IsOfNoCycle (Began n) = ⊥
IsOfNoCycle (Committed n) = ⊥
IsOfNoCycle (RolledBack n) = ⊥
IsOfNoCycle (Changed c) = ⊤
IsOfNoCycle (Journaled images slots) = ⊤
IsOfNoCycle (Stood place image) = ⊤
IsOfNoCycle Cleared = ⊤
IsOfNoCycle Reorganized = ⊤
IsOfNoCycle Ended = ⊤
IsOfNoCycle Nothing = ⊤

act_follows : (s : Standing) (number : ℕ) (a : Act) → IsOfNoCycle a → may_act s number a ≡ may_follow (state_in s number) a
act_follows s number (Changed c) own = ap (λ (t : Bool). fits_slot c (slots_at number s.members) && is_open s.cycles c.cycle && t) (sym (alone_all number c s.undos))
act_follows s number (Journaled images slots) own = sym (free_touched number s.undos)
act_follows s number (Stood place image) own = ap (λ (t : Bool). t && ltb place (length (slots_at number s.members))) (sym (free_touched number s.undos))
act_follows s number Cleared own = sym (free_touched number s.undos)
act_follows s number Reorganized own = sym (free_touched number s.undos)
act_follows s number Ended own = sym (free_touched number s.undos)
act_follows s number (Began n) own = absurd own
act_follows s number (Committed n) own = absurd own
act_follows s number (RolledBack n) own = absurd own
act_follows s number Nothing own = refl

-- ---- what the entry does to each member

-- another member's entry does nothing to a member
nothing_follows : (b : Bool) (s : State) (a : Act) → MayFollow s a → MayFollow s (cond b a Nothing)
nothing_follows true s a h = h
nothing_follows false s a h = tt

state_of_named : (own : Option ℕ) (member : ℕ) (s : Standing) (a : Act) → IsOfNoCycle a → may_act s (named own) a ≡ true → MayFollow (state_in s member) (cond (is_number own member) a Nothing)
state_of_named None member s a own h = tt
state_of_named (Some own) member s a free h = at (own == member) refl where
  at : (b : Bool) → own == member ≡ b → MayFollow (state_in s member) (cond b a Nothing)
  at true e = subst (λ (m : ℕ). MayFollow (state_in s m) a) (eqb-true own member e) (follow_test (state_in s own) a (sym (act_follows s own a free) ∙ h))
  at false e = tt

named_state : (own : Option ℕ) (s : Standing) (c : Catalogue) (a : Act) → IsOfNoCycle a → (member : CatalogMember) × (member_numbered own c ≡ Some member) → ((member : ℕ) → MayFollow (state_in s member) (cond (is_number own member) a Nothing)) → may_act s (named own) a ≡ true
named_state None s c a free there h = absurd (none_numbered c.members there.0 there.1) where
  none_numbered : (members : List CatalogMember) (member : CatalogMember) → find (λ (m : CatalogMember). false) members ≡ Some member → ⊥
  none_numbered [] member h = absurd cc
  none_numbered (m ∷ members) member h = none_numbered members member h
named_state (Some own) s c a free there h = act_follows s own a free ∙ follow_complete (state_in s own) a (subst (λ (b : Bool). MayFollow (state_in s own) (cond b a Nothing)) (eq-eqb own own refl) (h own))

both_ways : (b : Bool) (s : State) (a : Act) → MayFollow s a → MayFollow s (cond b a a)
both_ways true s a h = h
both_ways false s a h = h

ways_both : (b : Bool) (s : State) (a : Act) → MayFollow s (cond b a a) → MayFollow s a
ways_both true s a h = h
ways_both false s a h = h

follows_all : (kind : EntryKind) (s : Standing) (e : Entry) → follows_by kind s e ≡ true → (member : ℕ) → MayFollow (state_in s member) (cond (is_number e.member member) (act_there kind s.begun e) (act_elsewhere kind e))
follows_all (FileCreated kind name source) s e h member = both_ways (is_number e.member member) (state_in s member) Nothing tt
follows_all (FileDeleted name) s e h member = both_ways (is_number e.member member) (state_in s member) Nothing tt
follows_all (MemberAdded file name) s e h member = both_ways (is_number e.member member) (state_in s member) Nothing tt
follows_all (JournalingStarted images slots) s e h member = state_of_named e.member member s (member_act (JournalingStarted images slots) s.begun e) tt h
follows_all (InitialSlot image) s e h member = state_of_named e.member member s (member_act (InitialSlot image) s.begun e) tt h
follows_all JournalingEnded s e h member = state_of_named e.member member s (member_act JournalingEnded s.begun e) tt h
follows_all MemberCleared s e h member = state_of_named e.member member s (member_act MemberCleared s.begun e) tt h
follows_all MemberReorganized s e h member = state_of_named e.member member s (member_act MemberReorganized s.begun e) tt h
follows_all (ChangesApplied first last changes) s e h member = both_ways (is_number e.member member) (state_in s member) Nothing tt
follows_all (ChangesRemoved first last changes) s e h member = both_ways (is_number e.member member) (state_in s member) Nothing tt
follows_all (RecordAdded image) s e h member = state_of_named e.member member s (member_act (RecordAdded image) s.begun e) tt h
follows_all (RecordAddedAtNumber image) s e h member = state_of_named e.member member s (member_act (RecordAddedAtNumber image) s.begun e) tt h
follows_all (BeforeImage image) s e h member = both_ways (is_number e.member member) (state_in s member) Nothing tt
follows_all (AfterImage true image) s e h member = state_of_named e.member member s (member_act (AfterImage true image) s.begun e) tt h
follows_all (AfterImage false image) s e h member = state_of_named e.member member s (member_act (AfterImage false image) s.begun e) tt h
follows_all (RecordDeleted before) s e h member = state_of_named e.member member s (member_act (RecordDeleted before) s.begun e) tt h
follows_all (UndoBeforeImage image) s e h member = both_ways (is_number e.member member) (state_in s member) Nothing tt
follows_all (UndoAfterImage true image) s e h member = state_of_named e.member member s (member_act (UndoAfterImage true image) s.begun e) tt h
follows_all (UndoAfterImage false image) s e h member = state_of_named e.member member s (member_act (UndoAfterImage false image) s.begun e) tt h
follows_all (UndoDelete image) s e h member = state_of_named e.member member s (member_act (UndoDelete image) s.begun e) tt h
follows_all (CommitmentStarted level) s e h member = both_ways (is_number e.member member) (state_in s member) Nothing tt
follows_all CommitCycleStarted s e h member = both_ways (is_number e.member member) (state_in s member) (Began (cycle_of e.group)) (eqb-true (cycle_of e.group) s.next h)
follows_all CommitCycleCommitted s e h member = both_ways (is_number e.member member) (state_in s member) (Committed (cycle_of e.group)) h
follows_all CommitCycleRolledBack s e h member = let tests = and_parts (is_one_of s.cycles (cycle_of e.group)) (are_restored (cycle_of e.group) s) h in both_ways (is_number e.member member) (state_in s member) (RolledBack (cycle_of e.group)) (follow_test (state_in s member) (RolledBack (cycle_of e.group)) (and_both _ _ tests.0 (each_restored (cycle_of e.group) member s s.undos tests.1)))
follows_all CommitmentEnded s e h member = both_ways (is_number e.member member) (state_in s member) Nothing tt
follows_all AbnormalEnd s e h member = both_ways (is_number e.member member) (state_in s member) Nothing tt
follows_all (NextReceiver number) s e h member = both_ways (is_number e.member member) (state_in s member) Nothing tt
follows_all (PreviousReceiver number) s e h member = both_ways (is_number e.member member) (state_in s member) Nothing tt

all_follows : (d : Descriptions) (kind : EntryKind) (s : Standing) (e : Entry) → MayEnterBy d kind e (catalogue_in s)
    → ((member : ℕ) → MayFollow (state_in s member) (cond (is_number e.member member) (act_there kind s.begun e) (act_elsewhere kind e))) → follows_by kind s e ≡ true
all_follows d (FileCreated kind name source) s e enters h = refl
all_follows d (FileDeleted name) s e enters h = refl
all_follows d (MemberAdded file name) s e enters h = refl
all_follows d (JournalingStarted images slots) s e enters h = named_state e.member s (catalogue_in s) (member_act (JournalingStarted images slots) s.begun e) tt enters h
all_follows d (InitialSlot image) s e enters h = named_state e.member s (catalogue_in s) (member_act (InitialSlot image) s.begun e) tt enters h
all_follows d JournalingEnded s e enters h = named_state e.member s (catalogue_in s) (member_act JournalingEnded s.begun e) tt enters h
all_follows d MemberCleared s e enters h = named_state e.member s (catalogue_in s) (member_act MemberCleared s.begun e) tt enters h
all_follows d MemberReorganized s e enters h = named_state e.member s (catalogue_in s) (member_act MemberReorganized s.begun e) tt enters h
all_follows d (ChangesApplied first last changes) s e enters h = refl
all_follows d (ChangesRemoved first last changes) s e enters h = refl
all_follows d (RecordAdded image) s e enters h = named_state e.member s (catalogue_in s) (member_act (RecordAdded image) s.begun e) tt enters h
all_follows d (RecordAddedAtNumber image) s e enters h = named_state e.member s (catalogue_in s) (member_act (RecordAddedAtNumber image) s.begun e) tt enters h
all_follows d (BeforeImage image) s e enters h = refl
all_follows d (AfterImage true image) s e enters h = named_state e.member s (catalogue_in s) (member_act (AfterImage true image) s.begun e) tt enters h
all_follows d (AfterImage false image) s e enters h = named_state e.member s (catalogue_in s) (member_act (AfterImage false image) s.begun e) tt enters h
all_follows d (RecordDeleted before) s e enters h = named_state e.member s (catalogue_in s) (member_act (RecordDeleted before) s.begun e) tt enters h
all_follows d (UndoBeforeImage image) s e enters h = refl
all_follows d (UndoAfterImage true image) s e enters h = named_state e.member s (catalogue_in s) (member_act (UndoAfterImage true image) s.begun e) tt enters h
all_follows d (UndoAfterImage false image) s e enters h = named_state e.member s (catalogue_in s) (member_act (UndoAfterImage false image) s.begun e) tt enters h
all_follows d (UndoDelete image) s e enters h = named_state e.member s (catalogue_in s) (member_act (UndoDelete image) s.begun e) tt enters h
all_follows d (CommitmentStarted level) s e enters h = refl
all_follows d CommitCycleStarted s e enters h = eq-eqb (cycle_of e.group) s.next (ways_both (is_number e.member 0) (state_in s 0) (Began (cycle_of e.group)) (h 0))
all_follows d CommitCycleCommitted s e enters h = ways_both (is_number e.member 0) (state_in s 0) (Committed (cycle_of e.group)) (h 0)
all_follows d CommitCycleRolledBack s e enters h = and_both (is_one_of s.cycles (cycle_of e.group)) (are_restored (cycle_of e.group) s) (ways_both (is_number e.member 0) (state_in s 0) (RolledBack (cycle_of e.group)) (h 0)).begun (restored_each (cycle_of e.group) s s.undos (λ member place. (ways_both (is_number e.member member) (state_in s member) (RolledBack (cycle_of e.group)) (h member)).restored place))
all_follows d CommitmentEnded s e enters h = refl
all_follows d AbnormalEnd s e enters h = refl
all_follows d (NextReceiver number) s e enters h = refl
all_follows d (PreviousReceiver number) s e enters h = refl

-- ---- the entry

module _ (d : Descriptions) (s : Standing) (e : Entry) where
  pub test-stands : may_stand_next d s e ≡ true → MayStandNext d s e
  test-stands h =
      let p7 = and_parts _ (are_records_of d (catalogue_in s) (member_numbered e.member (catalogue_in s)) (images_of e.kind)) h in
      let p6 = and_parts _ (follows_by e.kind s e) p7.0 in
      let p5 = and_parts _ (may_enter d e.kind e (catalogue_in s)) p6.0 in
      let p4 = and_parts _ (frees_deleted e.kind s) p5.0 in
      let p3 = and_parts _ (names_open e.kind s.cycles e.group) p4.0 in
      let p2 = and_parts (e.sequence == s.next) (ends_pair s.begun e) p3.0 in
      record {
        sequence = eqb-true e.sequence s.next p2.0;
        enters = enter_test d e.kind e (catalogue_in s) p5.1;
        replays = follows_all e.kind s e p6.1;
        names = names_test e.kind s.cycles e.group p3.1;
        deletes = frees_test e.kind s p4.1;
        pairs = ends_test s.begun e p2.1;
        records = of_test d (catalogue_in s) (member_numbered e.member (catalogue_in s)) (images_of e.kind) p7.1;
      }

  pub stands-test : MayStandNext d s e → may_stand_next d s e ≡ true
  stands-test n =
      and_both _ _ (and_both _ _ (and_both _ _ (and_both _ _ (and_both _ _ (and_both (e.sequence == s.next) (ends_pair s.begun e) (eq-eqb e.sequence s.next n.sequence) (test_ends s.begun e n.pairs))
      (test_names e.kind s.cycles e.group n.names)) (test_frees e.kind s n.deletes)) (test_enter d e.kind e (catalogue_in s) n.enters)) (all_follows d e.kind s e n.enters n.replays))
      (test_of d (catalogue_in s) (member_numbered e.member (catalogue_in s)) (images_of e.kind) n.records)
