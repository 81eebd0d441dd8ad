-- What holds of the members, their slots and the images in the entries, as far as a journal is read.
use Rattle.std.proofs.Common.{◌≡◌, ◌⊎◌, inl, inr, ℕ, ◌<◌, ◌≤◌, true, false, if◌then◌else◌, Option, Some, None, List, [], ◌∷◌, ◌++◌, refl, sym, ◌∙◌, ap, subst, arith}
use Rattle.std.proofs.lemmas.Bool.{eqb-true}
use Rattle.std.proofs.lemmas.List.{append_assoc}
use Rattle.std.specs.List.{AllByRecursion}
use Rattle.entry_codec.specs.declared.entries.Entry.{Entry}
use Rattle.entry_codec.specs.declared.kinds.EntryKind.{EntryKind}
use Rattle.entry_codec.specs.declared.kinds.EntryKind.TheVariants.{FileCreated, FileDeleted, MemberAdded, JournalingStarted, InitialSlot, JournalingEnded, MemberCleared, MemberReorganized, ChangesApplied, ChangesRemoved, RecordAdded, RecordAddedAtNumber, BeforeImage, AfterImage, RecordDeleted, UndoBeforeImage, UndoAfterImage, UndoDelete, CommitmentStarted, CommitCycleStarted, CommitCycleCommitted, CommitCycleRolledBack, CommitmentEnded, AbnormalEnd, NextReceiver, PreviousReceiver}
use Rattle.member_slots.specs.declared.slot.Slot.{Slot}
use Rattle.record_fmt.specs.declared.formats.Field.{Field}
use Rattle.logical_laws.proofs.ListLemmas.{each-append, each-weaker}
use Rattle.journal_model.specs.Acts.{Change, act, act_elsewhere, act_there, acts, is_number}
use Rattle.journal_model.specs.Catalogue.{Catalogue, CatalogMember, IsOfMember, MayEnterAll, MayEnterBy, catalogue_after, catalogue_by, has_number}
use Rattle.journal_model.specs.Images.{AllHaveRecords, HasRecords, images_of}
use Rattle.journal_model.specs.Replay.{State, moved, replay, step, undos_after}
use Rattle.journal_model.specs.Replayable.{CanReplay, MayFollow}
use Rattle.journal_replay.proofs.KindLemmas.{quiet_slots}
use Rattle.lawful_states.specs.Lawful.{HoldsValues}
use Rattle.library_kept.specs.Told.{IsRecordOf}
use Rattle.restart_model.specs.Sources.{descriptions}
use Rattle.restart_laws.proofs.CatalogueLemmas.{IsCatalogue, entry-is}
use Rattle.restart_laws.proofs.DescribedLemmas.{Among, each-among}
use Rattle.restart_laws.proofs.HeldLemmas.{Holds, IsUndo, gives-act, step-holds}
use Rattle.restart_laws.proofs.GoesLemmas.{Goes, IsPlainCatalogue, Was, entry-goes, entry-plain, fields_at, found-among, member-records}

-- the images of an entry are records of its member, while that is there
pub record IsToldIn (c : Catalogue) (e : Entry) : Type 0 where
  pub below : (number : ℕ) → e.member ≡ Some number → (images_of e.kind ≡ []) ⊎ (number < c.next_member)
  pub told : (m : CatalogMember) → Among m c.members → e.member ≡ Some m.number → AllByRecursion (IsRecordOf (fields_at c m.file)) (images_of e.kind)

pub record Stands (c : Catalogue) (s : ℕ → State) (past : List Entry) : Type 0 where
  pub is : IsCatalogue c
  pub plain : IsPlainCatalogue c
  pub holds : (m : CatalogMember) → Among m c.members → Holds (HoldsValues (fields_at c m.file)) (s m.number)
  pub fresh : (number : ℕ) → c.next_member ≤ number → ((s number).slots ≡ []) × ((s number).undos ≡ [])
  pub told : AllByRecursion (IsToldIn c) past

-- ---- an entry that was told

told-goes : (c later : Catalogue) (e : Entry) → Goes c later → IsToldIn c e → IsToldIn later e
told-goes c later e goes it = record {
  below = λ number names. elim (it.below number names) [
    | inl none ↦ inl none
    | inr low ↦ inr (let further = goes.further in omega (arith, low, further))
  ];
  told = λ m among names. by m names (goes.comes m among);
} where
  by : (m : CatalogMember) → e.member ≡ Some m.number → Was c later m ⊎ (m.number ≡ c.next_member) → AllByRecursion (IsRecordOf (fields_at later m.file)) (images_of e.kind)
  by m names (inl was) =
      subst (λ (fields : List Field). AllByRecursion (IsRecordOf fields) (images_of e.kind)) was.fields (it.told was.was was.among (names ∙ ap (λ (n : ℕ). Some n) (sym was.number)))
  by m names (inr new) = elim (it.below m.number names) [
    | inl none ↦ subst (λ (images : List (List ℕ)). AllByRecursion (IsRecordOf (fields_at later m.file)) images) (sym none) tt
    | inr low ↦ absurd (omega (arith, new, low))
  ]

-- ---- a new entry

pub number-of : (o : Option ℕ) (n : ℕ) → is_number o n ≡ true → o ≡ Some n
number-of None n h = absurd cc
number-of (Some m) n h = ap (λ (x : ℕ). Some x) (eqb-true m n h)

module _ (c : Catalogue) (is : IsCatalogue c) (e : Entry) where
  pub member-below : (number : ℕ) → IsOfMember e c → e.member ≡ Some number → number < c.next_member
  member-below number of names =
      let found = found-among (has_number e.member) c.members of.0 of.1 in
      let low = each-among (λ (m : CatalogMember). m.number < c.next_member) of.0 c.members is.below found.0 in
      let same : number ≡ of.0.number = eqb-true number of.0.number (ap (λ (o : Option ℕ). is_number o of.0.number) (sym names) ∙ found.1) in
      omega (arith, low, same)

  pub none-above : (number : ℕ) → c.next_member ≤ number → IsOfMember e c → is_number e.member number ≡ true → ⊥
  none-above number above of names = let low = member-below number of (number-of e.member number names) in absurd (omega (arith, above, low))

  images-below : (kind : EntryKind) (number : ℕ) → MayEnterBy descriptions kind e c → e.member ≡ Some number → (images_of kind ≡ []) ⊎ (number < c.next_member)
  images-below (RecordAdded image) number may names = inr (member-below number may names)
  images-below (RecordAddedAtNumber image) number may names = inr (member-below number may names)
  images-below (BeforeImage image) number may names = inr (member-below number may names)
  images-below (AfterImage has_before image) number may names = inr (member-below number may names)
  images-below (RecordDeleted before) number may names = inr (member-below number may names)
  images-below (UndoBeforeImage image) number may names = inr (member-below number may names)
  images-below (UndoAfterImage has_before image) number may names = inr (member-below number may names)
  images-below (UndoDelete image) number may names = inr (member-below number may names)
  images-below (InitialSlot image) number may names = inr (member-below number may names)
  images-below (FileCreated kind name source) number may names = inl refl
  images-below (FileDeleted name) number may names = inl refl
  images-below (MemberAdded file name) number may names = inl refl
  images-below (JournalingStarted images slots) number may names = inl refl
  images-below JournalingEnded number may names = inl refl
  images-below MemberCleared number may names = inl refl
  images-below MemberReorganized number may names = inl refl
  images-below (ChangesApplied first last changes) number may names = inl refl
  images-below (ChangesRemoved first last changes) number may names = inl refl
  images-below (CommitmentStarted level) number may names = inl refl
  images-below CommitCycleStarted number may names = inl refl
  images-below CommitCycleCommitted number may names = inl refl
  images-below CommitCycleRolledBack number may names = inl refl
  images-below CommitmentEnded number may names = inl refl
  images-below AbnormalEnd number may names = inl refl
  images-below (NextReceiver number) other may names = inl refl
  images-below (PreviousReceiver number) other may names = inl refl

  -- a member that isn't made yet stays without slots
  module _ (prior : Option Entry) (number : ℕ) (above : c.next_member ≤ number) where
    there-fresh : (kind : EntryKind) → MayEnterBy descriptions kind e c → is_number e.member number ≡ true
        → (moved [] (act_there kind prior e) ≡ []) × (undos_after [] (act_there kind prior e) ≡ [])
    there-fresh (RecordAdded image) may names = absurd (none-above number above may names)
    there-fresh (RecordAddedAtNumber image) may names = absurd (none-above number above may names)
    there-fresh (AfterImage has_before image) may names = absurd (none-above number above may names)
    there-fresh (RecordDeleted before) may names = absurd (none-above number above may names)
    there-fresh (UndoAfterImage has_before image) may names = absurd (none-above number above may names)
    there-fresh (UndoDelete image) may names = absurd (none-above number above may names)
    there-fresh (InitialSlot image) may names = absurd (none-above number above may names)
    there-fresh (JournalingStarted images slots) may names = absurd (none-above number above may names)
    there-fresh (BeforeImage image) may names = (refl, refl)
    there-fresh (UndoBeforeImage image) may names = (refl, refl)
    there-fresh (FileCreated kind name source) may names = (refl, refl)
    there-fresh (FileDeleted name) may names = (refl, refl)
    there-fresh (MemberAdded file name) may names = (refl, refl)
    there-fresh JournalingEnded may names = (refl, refl)
    there-fresh MemberCleared may names = (refl, refl)
    there-fresh MemberReorganized may names = (refl, refl)
    there-fresh (ChangesApplied first last changes) may names = (refl, refl)
    there-fresh (ChangesRemoved first last changes) may names = (refl, refl)
    there-fresh (CommitmentStarted level) may names = (refl, refl)
    there-fresh CommitCycleStarted may names = (refl, refl)
    there-fresh CommitCycleCommitted may names = (refl, refl)
    there-fresh CommitCycleRolledBack may names = (refl, refl)
    there-fresh CommitmentEnded may names = (refl, refl)
    there-fresh AbnormalEnd may names = (refl, refl)
    there-fresh (NextReceiver other) may names = (refl, refl)
    there-fresh (PreviousReceiver other) may names = (refl, refl)

    quiet-undos : (kind : EntryKind) → undos_after [] (act_elsewhere kind e) ≡ []
    quiet-undos (RecordAdded image) = refl
    quiet-undos (RecordAddedAtNumber image) = refl
    quiet-undos (AfterImage has_before image) = refl
    quiet-undos (RecordDeleted before) = refl
    quiet-undos (UndoAfterImage has_before image) = refl
    quiet-undos (UndoDelete image) = refl
    quiet-undos (InitialSlot image) = refl
    quiet-undos (JournalingStarted images slots) = refl
    quiet-undos (BeforeImage image) = refl
    quiet-undos (UndoBeforeImage image) = refl
    quiet-undos (FileCreated kind name source) = refl
    quiet-undos (FileDeleted name) = refl
    quiet-undos (MemberAdded file name) = refl
    quiet-undos JournalingEnded = refl
    quiet-undos MemberCleared = refl
    quiet-undos MemberReorganized = refl
    quiet-undos (ChangesApplied first last changes) = refl
    quiet-undos (ChangesRemoved first last changes) = refl
    quiet-undos (CommitmentStarted level) = refl
    quiet-undos CommitCycleStarted = refl
    quiet-undos CommitCycleCommitted = refl
    quiet-undos CommitCycleRolledBack = refl
    quiet-undos CommitmentEnded = refl
    quiet-undos AbnormalEnd = refl
    quiet-undos (NextReceiver other) = refl
    quiet-undos (PreviousReceiver other) = refl

    act-fresh : MayEnterBy descriptions e.kind e c → (moved [] (act number prior e) ≡ []) × (undos_after [] (act number prior e) ≡ [])
    act-fresh may =
        elim (is_number e.member number) as (λ b. is_number e.member number ≡ b
        → (moved [] (if b then act_there e.kind prior e else act_elsewhere e.kind e) ≡ []) × (undos_after [] (if b then act_there e.kind prior e else act_elsewhere e.kind e) ≡ [])) [
          | true ↦ λ names. there-fresh e.kind may names
          | false ↦ λ names. (quiet_slots e.kind e [], quiet-undos e.kind)
        ] refl

-- ---- an entry more

module _ (c : Catalogue) (s : ℕ → State) (past : List Entry) (st : Stands c s past) (prior : Option Entry) (e : Entry) (may : MayEnterBy descriptions e.kind e c)
    (records : HasRecords descriptions c e)
    (follow : (member : ℕ) → MayFollow (s member) (act member prior e)) where
  abbrev later : Catalogue
  later = catalogue_by e.kind e c

  goes : Goes c later
  goes = entry-goes c st.is st.plain e.kind e may

  fresh-now : (number : ℕ) → c.next_member ≤ number → (moved (s number).slots (act number prior e) ≡ []) × (undos_after (s number).undos (act number prior e) ≡ [])
  fresh-now number above =
      let was = st.fresh number above in
      let now = act-fresh c st.is e prior number above may in
      (ap (λ (slots : List Slot). moved slots (act number prior e)) was.0 ∙ now.0, ap (λ (undos : List Change). undos_after undos (act number prior e)) was.1 ∙ now.1)

  holds-now : (m : CatalogMember) → Was c later m ⊎ (m.number ≡ c.next_member) → Holds (HoldsValues (fields_at later m.file)) (step (s m.number) (act m.number prior e))
  holds-now m (inl was) =
      subst (λ (fields : List Field). Holds (HoldsValues fields) (step (s m.number) (act m.number prior e))) was.fields
      (subst (λ (k : ℕ). Holds (HoldsValues (fields_at c was.was.file)) (step (s k) (act k prior e))) was.number
      (step-holds (HoldsValues (fields_at c was.was.file)) tt (s was.was.number) (act was.was.number prior e) (follow was.was.number)
      (gives-act (fields_at c was.was.file) was.was.number prior e (λ names. member-records c st.is st.plain e records was.was was.among (number-of e.member was.was.number names)))
      (st.holds was.was was.among)))
  holds-now m (inr new) =
      let empty = fresh-now m.number (omega (arith, new)) in record {
        slots = subst (λ (slots : List Slot). AllByRecursion (HoldsValues (fields_at later m.file)) slots) (sym empty.0) tt;
        undos = subst (λ (undos : List Change). AllByRecursion (IsUndo (HoldsValues (fields_at later m.file))) undos) (sym empty.1) tt;
      }

  new-told : IsToldIn c e
  new-told = record {
    below = λ number names. images-below c st.is e e.kind number may names;
    told = λ m among names. member-records c st.is st.plain e records m among names;
  }

  pub stands-next : Stands later (λ member. step (s member) (act member prior e)) (past ++ e ∷ [])
  stands-next = record {
    is = entry-is descriptions e.kind e c st.is may;
    plain = entry-plain c st.is st.plain e.kind e may;
    holds = λ m among. holds-now m (goes.comes m among);
    fresh = λ number above. fresh-now number (let further = goes.further in omega (arith, above, further));
    told = each-append (IsToldIn later) past (e ∷ []) (each-weaker (IsToldIn c) (IsToldIn later) (λ x it. told-goes c later x goes it) past st.told) (told-goes c later e goes new-told, tt);
  }

pub stands-all : (entries : List Entry) (c : Catalogue) (s : ℕ → State) (past : List Entry) (prior : Option Entry) → Stands c s past → MayEnterAll descriptions c entries
    → AllHaveRecords descriptions c entries → ((member : ℕ) → CanReplay (s member) (acts member prior entries))
    → Stands (catalogue_after c entries) (λ member. replay (s member) (acts member prior entries)) (past ++ entries)
stands-all [] c s past prior st may records can = subst (λ (all : List Entry). Stands c s all) (sym (append-none past)) st
  where
    append-none : (xs : List Entry) → xs ++ [] ≡ xs
    append-none [] = refl
    append-none (x ∷ xs) = ap (λ (rest : List Entry). x ∷ rest) (append-none xs)
stands-all (e ∷ entries) c s past prior st may records can =
    subst (λ (all : List Entry). Stands (catalogue_after (catalogue_by e.kind e c) entries) (λ member. replay (step (s member) (act member prior e)) (acts member (Some e) entries)) all)
    (append_assoc past (e ∷ []) entries)
    (stands-all entries (catalogue_by e.kind e c) (λ member. step (s member) (act member prior e)) (past ++ e ∷ []) (Some e)
    (stands-next c s past st prior e may.0 records.0 (λ member. (can member).0)) may.1 records.1 (λ member. (can member).1))
