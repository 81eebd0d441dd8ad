-- An entry that begins journaling with more slots than a member may have can't follow.
use Rattle.std.proofs.Common.{◌≡◌, ◌<◌, ℕ, Bool, true, false, cond, if◌then◌else◌, Option, Some, None, List, [], ◌∷◌, ◌++◌, map, length, refl, sym, ◌∙◌, ap, subst, arith}
use Rattle.std.specs.Prelude.{nat_lt}
use Rattle.std.specs.List.{find}
use Rattle.std.proofs.lemmas.Bool.{eqb-true}
use Rattle.std.proofs.lemmas.Bool.Decides.{nat_tests}
use Rattle.std.proofs.lemmas.List.{length-replicate}
use Rattle.entry_codec.specs.declared.entries.Entry.{Entry}
use Rattle.entry_codec.specs.declared.kinds.Images.{Images}
use Rattle.entry_codec.specs.declared.kinds.EntryKind.{EntryKind}
use Rattle.entry_codec.specs.declared.kinds.EntryKind.TheVariants.{FileCreated, FileDeleted, MemberAdded, JournalingStarted, InitialSlot, JournalingEnded, MemberCleared, MemberReorganized, ChangesApplied, ChangesRemoved, RecordAdded, RecordAddedAtNumber, BeforeImage, AfterImage, RecordDeleted, UndoBeforeImage, UndoAfterImage, UndoDelete, CommitmentStarted, CommitCycleStarted, CommitCycleCommitted, CommitCycleRolledBack, CommitmentEnded, AbnormalEnd, NextReceiver, PreviousReceiver}
use Rattle.member_slots.specs.declared.slot.Slot.{Slot}
use Rattle.member_slots.specs.declared.slot.Slot.TheVariants.{Deleted}
use Rattle.journal_model.specs.Acts.{act, act_elsewhere, act_there, entry_before, is_number}
use Rattle.journal_model.specs.Catalogue.{Catalogue, CatalogMember, Descriptions, IsOfMember, MayEnterBy, catalogue_after, catalogue_by, empty_catalogue, has_number, member_numbered, with_images}
use Rattle.journal_model.specs.Journal.{Journal, StaysMembers, acts_after, catalogue_of, entries as entries_of, start_of, state_of}
use Rattle.journal_model.specs.Replay.{State, moved, replay}
use Rattle.journal_model.proofs.ReplayLemmas.{replay-append}
use Rattle.journal_replay.specs.SoFar.{CanReplaySoFar, with_entry}
use Rattle.journal_replay.proofs.LimitLemmas.{limits-last}
use Rattle.journal_replay.proofs.SoFarLemmas.{acts_with, catalogue_after-append, so_far-last}
use Rattle.journal_opening.specs.Begins.{begins_too_many}
use Rattle.journal_opening.specs.Journals.{journal_with}
use Rattle.journal_opening.specs.Takings.{CannotFollow}

number-of : (o : Option ℕ) (n : ℕ) → is_number o n ≡ true → o ≡ Some n
number-of None n h = absurd cc
number-of (Some m) n h = ap (λ (x : ℕ). Some x) (eqb-true m n h)

some-equal : {X : Type 0} {a b : X} → Some a ≡ Some b → a ≡ b
some-equal e = cc

found-holds : (which : Option ℕ) (members : List CatalogMember) (m : CatalogMember) → find (has_number which) members ≡ Some m → is_number which m.number ≡ true
found-holds which [] m found = absurd cc
found-holds which (x ∷ xs) m found =
    elim (is_number which x.number) as (λ b. is_number which x.number ≡ b → cond b (Some x) (find (has_number which) xs) ≡ Some m → is_number which m.number ≡ true) [
      | true ↦ λ is e. ap (λ (y : CatalogMember). is_number which y.number) (sym (some-equal e)) ∙ is
      | false ↦ λ is e. found-holds which xs m e
    ] refl found

-- the member that is journaled is found as before
found-map : (which : Option ℕ) (images : Option Images) (members : List CatalogMember) (m : CatalogMember) → find (has_number which) members ≡ Some m
    → find (has_number which) (map (λ (x : CatalogMember). if has_number which x then record x { images = images } else x) members) ≡ Some (record m { images = images })
found-map which images [] m found = absurd cc
found-map which images (x ∷ xs) m found =
    elim (is_number which x.number) as (λ b. is_number which x.number ≡ b → cond b (Some x) (find (has_number which) xs) ≡ Some m
    → find (has_number which) ((if b then record x { images = images } else x) ∷ map (λ (y : CatalogMember). if has_number which y then record y { images = images } else y) xs)
    ≡ Some (record m { images = images })) [
      | true ↦ λ is e. rw is (ap (λ (y : CatalogMember). Some (record y { images = images })) (some-equal e))
      | false ↦ λ is e. rw is (found-map which images xs m e)
    ] refl found

module _ (d : Descriptions) (before : List Entry) (e : Entry) (can : CanReplaySoFar d (journal_with (before ++ e ∷ []))) (stays : StaysMembers d (journal_with (before ++ e ∷ []))) where
  abbrev j : Journal
  j = journal_with before

  abbrev c : Catalogue
  c = catalogue_after empty_catalogue before

  abbrev prior : Option Entry
  prior = entry_before None (entries_of j)

  begun : (images : Images) (slots : ℕ) → e.kind ≡ JournalingStarted images slots → nat_lt 1000000 slots ≡ true → ⊥
  begun images slots is many =
      let of : IsOfMember e c = subst (λ (k : EntryKind). MayEnterBy d k e c) is (so_far-last d j e can).enters in
      let m : CatalogMember = of.0 in
      let own = found-holds e.member c.members m of.1 in
      let cat : catalogue_of (with_entry e j) ≡ with_images e.member (Some images) c =
      catalogue_after-append empty_catalogue before (e ∷ []) ∙ ap (λ (k : EntryKind). catalogue_by k e c) is in
      let there : member_numbered (Some m.number) (catalogue_of (with_entry e j)) ≡ Some (record m { images = Some images }) =
      ap (member_numbered (Some m.number)) cat
      ∙ subst (λ (o : Option ℕ). member_numbered o (with_images e.member (Some images) c) ≡ Some (record m { images = Some images })) (number-of e.member m.number own)
      (found-map e.member (Some images) c.members m of.1) in
      let its = (limits-last d j e stays (record m { images = Some images }) there).slots in
      let old = (state_of j m.number).slots in
      let same : (state_of (with_entry e j) m.number).slots ≡ moved old (act_there (JournalingStarted images slots) prior e) =
      ap (λ (t : State). t.slots) (ap (replay (start_of j m.number)) (acts_with d j e m.number) ∙ replay-append (start_of j m.number) (acts_after j m.number) (act m.number prior e ∷ []))
      ∙ ap (λ (b : Bool). moved old (if b then act_there e.kind prior e else act_elsewhere e.kind e)) own ∙ ap (λ (k : EntryKind). moved old (act_there k prior e)) is in
      let long : length (state_of (with_entry e j) m.number).slots ≡ slots = ap (λ (slots : List Slot). length slots) same ∙ length-replicate slots Deleted in
      let above : 1000000 < slots = grind (arith, nat_tests, many) in
      absurd (omega (arith, its, long, above))

  by : (kind : EntryKind) → e.kind ≡ kind → begins_too_many kind ≡ true → ⊥
  by (FileCreated kind name source) is many = absurd cc
  by (FileDeleted name) is many = absurd cc
  by (MemberAdded file name) is many = absurd cc
  by (JournalingStarted images slots) is many = begun images slots is many
  by (InitialSlot image) is many = absurd cc
  by JournalingEnded is many = absurd cc
  by MemberCleared is many = absurd cc
  by MemberReorganized is many = absurd cc
  by (ChangesApplied first last changes) is many = absurd cc
  by (ChangesRemoved first last changes) is many = absurd cc
  by (RecordAdded image) is many = absurd cc
  by (RecordAddedAtNumber image) is many = absurd cc
  by (BeforeImage image) is many = absurd cc
  by (AfterImage has_before image) is many = absurd cc
  by (RecordDeleted before) is many = absurd cc
  by (UndoBeforeImage image) is many = absurd cc
  by (UndoAfterImage has_before image) is many = absurd cc
  by (UndoDelete image) is many = absurd cc
  by (CommitmentStarted level) is many = absurd cc
  by CommitCycleStarted is many = absurd cc
  by CommitCycleCommitted is many = absurd cc
  by CommitCycleRolledBack is many = absurd cc
  by CommitmentEnded is many = absurd cc
  by AbnormalEnd is many = absurd cc
  by (NextReceiver number) is many = absurd cc
  by (PreviousReceiver number) is many = absurd cc

  pub none-begun : begins_too_many e.kind ≡ true → ⊥
  none-begun many = by e.kind refl many

pub too_many : (d : Descriptions) (before : List Entry) (e : Entry) → begins_too_many e.kind ≡ true → CannotFollow d (before ++ e ∷ [])
too_many d before e many can stays are = none-begun d before e can stays many
