-- Each entry names a member that is made, and a place that the member may have, where the entries name what their kinds want.
use Rattle.std.proofs.Common.{◌≡◌, ◌⊎◌, inl, inr, ℕ, ◌+◌, ◌<◌, ◌≤◌, ◌==◌, ◌&&◌, Bool, true, false, if◌then◌else◌, Option, Some, None, unwrap_or, List, [], ◌∷◌, ◌++◌, length, refl, sym, ◌∙◌, ap, subst, arith, le_trans}
use Rattle.std.proofs.lemmas.Bool.{and_parts, cases_lt, eq-eqb, ltb-true}
use Rattle.std.proofs.lemmas.List.{append_assoc}
use Rattle.std.proofs.Math.Nat.{mul-le-mul_right}
use Rattle.std.specs.List.{AllByRecursion, filter}
use Rattle.entry_codec.specs.declared.entries.Draft.{Draft}
use Rattle.entry_codec.specs.declared.entries.Entry.{Entry}
use Rattle.entry_codec.specs.declared.kinds.FileKind.TheVariants.{Physical, Logical}
use Rattle.entry_codec.specs.declared.kinds.EntryKind.{EntryKind}
use Rattle.entry_codec.specs.declared.kinds.EntryKind.TheVariants.{FileCreated, FileDeleted, MemberAdded, JournalingStarted, InitialSlot, JournalingEnded, MemberCleared, MemberReorganized, ChangesApplied, ChangesRemoved, RecordAdded, RecordAddedAtNumber, BeforeImage, AfterImage, RecordDeleted, UndoBeforeImage, UndoAfterImage, UndoDelete, CommitmentStarted, CommitCycleStarted, CommitCycleCommitted, CommitCycleRolledBack, CommitmentEnded, AbnormalEnd, NextReceiver, PreviousReceiver}
use Rattle.entry_codec.specs.declared.places.Place.{Place}
use Rattle.entry_codec.specs.declared.places.Place.TheVariants.{Library, Member, Slot, Record, Commitment, CycleStart, CycleEnd}
use Rattle.entry_codec.specs.Placing.{is_absent, is_counted, is_own, is_placed, is_placed_at, is_present, place}
use Rattle.member_slots.specs.declared.slot.Slot.{Slot as MemberSlot}
use Rattle.member_slots.specs.declared.slot.Slot.TheVariants.{Live, Deleted}
use Rattle.member_slots.specs.Member.{IsMember}
use Rattle.record_fmt.specs.declared.formats.Field.{Field}
use Rattle.record_fmt.specs.Layout as layout
use Rattle.logical_laws.proofs.ListLemmas.{each-append, each-filter, each-weaker}
use Rattle.journal_model.specs.Acts.{Act, Change, act, act_elsewhere, act_there, acts, entry_before, is_number, place_of}
use Rattle.journal_model.specs.Catalogue.{Catalogue, CatalogFile, CatalogMember, MayEnterAll, MayEnterBy, catalogue_after, catalogue_by, member_numbered}
use Rattle.journal_model.specs.Images.{AllHaveRecords}
use Rattle.journal_model.specs.Journal.{Journal, entries as entries_of, last_sequence, length_in, open_cycles, record_length, restart_entries}
use Rattle.journal_model.specs.Pairs.{AreInPairs, IsOneChange, OneChange, Pair, pair_begun, pair_ended}
use Rattle.journal_model.specs.Places.{put_slot}
use Rattle.journal_model.specs.Replay.{State, before_of, is_in, moved, replay, step}
use Rattle.journal_model.specs.Replayable.{CanReplay}
use Rattle.journal_model.specs.Rollback.{MemberChange, all_rollback_drafts, change_drafts, missing_behind, missing_draft, missing_kind, numbered_from, of_member, restart_drafts, rollback_drafts, undo_drafts, undo_kinds, undos_of}
use Rattle.journal_model.proofs.PlaceLemmas.{length-put_slot}
use Rattle.journaled_entries.specs.Deposited.{is_of_record}
use Rattle.library_kept.specs.Told.{MayHavePlace, NamesPlace}
use Rattle.restart_model.specs.Sources.{descriptions}
use Rattle.restart_laws.proofs.CatalogueLemmas.{IsCatalogue}
use Rattle.restart_laws.proofs.DescribedLemmas.{Among}
use Rattle.restart_laws.proofs.GoesLemmas.{Goes, IsPlainCatalogue, Was, beside-at, entry-goes, fields_at, numbered-among, own-file}
use Rattle.restart_laws.proofs.StandLemmas.{Stands, member-below, stands-next}

-- ---- a place within the limits

pub may-place : (fields : List Field) (slots : List MemberSlot) (rrn : ℕ) → 1 ≤ rrn → rrn ≤ length slots → IsMember (record { record_length = layout.record_length fields; slots = slots })
    → MayHavePlace fields rrn
may-place fields slots rrn counted there is = record {
  counted = counted;
  few = le_trans there is.slots;
  small = le_trans (mul-le-mul_right (layout.record_length fields) there) is.bytes;
}

names-place : (fields : List Field) (o : Option ℕ) (slots : List MemberSlot) → is_present o ≡ true → place_of o < length slots
    → IsMember (record { record_length = layout.record_length fields; slots = slots })
    → NamesPlace fields o
names-place fields None slots present there is = absurd cc
names-place fields (Some rrn) slots present there is =
    let one = ltb-true 0 rrn present in may-place fields slots rrn (omega (arith, one)) (omega (arith, one, there)) is

-- the bytes of a member's records
pub long-at : (c : Catalogue) → IsCatalogue c → IsPlainCatalogue c → (m : CatalogMember) → Among m c.members → record_length descriptions c m ≡ layout.record_length (fields_at c m.file)
long-at c is plain m among =
    let its = own-file c is plain m among in
    ap (λ (o : Option CatalogFile). length_in descriptions c o) its.there ∙ ap (λ (fields : List Field). layout.record_length fields) (beside-at c m.file its)

-- ---- what an entry names

-- it names a member that is made, and a place that the member may have
pub record HasRoom (c : Catalogue) (member rrn : Option ℕ) (kind : EntryKind) : Type 0 where
  pub below : (number : ℕ) → member ≡ Some number → number < c.next_member
  pub places : (m : CatalogMember) → Among m c.members → member ≡ Some m.number → is_of_record (place kind) ≡ true → NamesPlace (fields_at c m.file) rrn

abbrev pub EntryHasRoom : Catalogue → Entry → Type 0
EntryHasRoom c e = HasRoom c e.member e.rrn e.kind

room-goes : (c later : Catalogue) (e : Entry) → Goes c later → EntryHasRoom c e → EntryHasRoom later e
room-goes c later e goes it = record {
  below = λ number names. let low = it.below number names in let further = goes.further in omega (arith, low, further);
  places = λ m among names of. by m names of (goes.comes m among);
} where
  by : (m : CatalogMember) → e.member ≡ Some m.number → is_of_record (place e.kind) ≡ true → Was c later m ⊎ (m.number ≡ c.next_member) → NamesPlace (fields_at later m.file) e.rrn
  by m names of (inl was) =
      subst (λ (fields : List Field). NamesPlace fields e.rrn) was.fields (it.places was.was was.among (names ∙ ap (λ (n : ℕ). Some n) (sym was.number)) of)
  by m names of (inr new) = absurd (let low = it.below m.number names in omega (arith, new, low))

in-between : (a b c : Bool) → ((a && b) && c) ≡ true → b ≡ true
in-between a b c h = (and_parts a b (and_parts (a && b) c h).0).1

present-rrn : (p : Place) (sequence : ℕ) (group member rrn : Option ℕ) → is_of_record p ≡ true → is_placed_at p sequence group member rrn ≡ true → is_present rrn ≡ true
present-rrn Library sequence group member rrn of placed = absurd cc
present-rrn Member sequence group member rrn of placed = absurd cc
present-rrn Slot sequence group member rrn of placed = (and_parts (is_absent group && is_present member) (is_present rrn) placed).1
present-rrn Record sequence group member rrn of placed = (and_parts (is_counted group && is_present member) (is_present rrn) placed).1
present-rrn Commitment sequence group member rrn of placed = absurd cc
present-rrn CycleStart sequence group member rrn of placed = absurd cc
present-rrn CycleEnd sequence group member rrn of placed = absurd cc

module _ (c : Catalogue) (is : IsCatalogue c) (e : Entry) (number : ℕ) (names : e.member ≡ Some number) where
  no-member : is_absent e.member ≡ true → ⊥
  no-member absent = absurd (let none : is_absent (Some number) ≡ true = ap is_absent (sym names) ∙ absent in cc)

  next-below : e.member ≡ Some c.next_member → number < unwrap_or e.member 0 + 1
  next-below next = let its : unwrap_or e.member 0 ≡ number = ap (λ (o : Option ℕ). unwrap_or o 0) names in omega (arith, its)

  below-by : (kind : EntryKind) → MayEnterBy descriptions kind e c → is_placed_at (place kind) e.sequence e.group e.member e.rrn ≡ true → number < (catalogue_by kind e c).next_member
  below-by (FileCreated Physical name source) may placed = next-below may.numbered.next
  below-by (FileCreated Logical name source) may placed = absurd (no-member (in-between (is_absent e.group) (is_absent e.member) (is_absent e.rrn) placed))
  below-by (FileDeleted name) may placed = absurd (no-member (in-between (is_absent e.group) (is_absent e.member) (is_absent e.rrn) placed))
  below-by (MemberAdded file name) may placed = next-below may.numbered.next
  below-by (JournalingStarted images slots) may placed = member-below c is e number may names
  below-by (InitialSlot image) may placed = member-below c is e number may names
  below-by JournalingEnded may placed = member-below c is e number may names
  below-by MemberCleared may placed = member-below c is e number may names
  below-by MemberReorganized may placed = member-below c is e number may names
  below-by (ChangesApplied first last changes) may placed = member-below c is e number may names
  below-by (ChangesRemoved first last changes) may placed = member-below c is e number may names
  below-by (RecordAdded image) may placed = member-below c is e number may names
  below-by (RecordAddedAtNumber image) may placed = member-below c is e number may names
  below-by (BeforeImage image) may placed = member-below c is e number may names
  below-by (AfterImage has_before image) may placed = member-below c is e number may names
  below-by (RecordDeleted before) may placed = member-below c is e number may names
  below-by (UndoBeforeImage image) may placed = member-below c is e number may names
  below-by (UndoAfterImage has_before image) may placed = member-below c is e number may names
  below-by (UndoDelete image) may placed = member-below c is e number may names
  below-by (CommitmentStarted level) may placed = absurd (no-member (in-between (is_counted e.group) (is_absent e.member) (is_absent e.rrn) placed))
  below-by CommitCycleStarted may placed = absurd (no-member (in-between (is_own e.sequence e.group) (is_absent e.member) (is_absent e.rrn) placed))
  below-by CommitCycleCommitted may placed = absurd (no-member (in-between (is_present e.group) (is_absent e.member) (is_absent e.rrn) placed))
  below-by CommitCycleRolledBack may placed = absurd (no-member (in-between (is_present e.group) (is_absent e.member) (is_absent e.rrn) placed))
  below-by CommitmentEnded may placed = absurd (no-member (in-between (is_counted e.group) (is_absent e.member) (is_absent e.rrn) placed))
  below-by AbnormalEnd may placed = absurd (no-member (in-between (is_absent e.group) (is_absent e.member) (is_absent e.rrn) placed))
  below-by (NextReceiver other) may placed = absurd (no-member (in-between (is_absent e.group) (is_absent e.member) (is_absent e.rrn) placed))
  below-by (PreviousReceiver other) may placed = absurd (no-member (in-between (is_absent e.group) (is_absent e.member) (is_absent e.rrn) placed))

-- ---- the place that it names is there behind it

put-there : (slots : List MemberSlot) (at : ℕ) (new : MemberSlot) → at < length (put_slot slots at new)
put-there slots at new = let long = length-put_slot slots at new in omega (arith, long)

there-behind : (slots : List MemberSlot) (kind : EntryKind) (prior : Option Entry) (e : Entry) → is_of_record (place kind) ≡ true → pair_begun kind ≡ None
    → place_of e.rrn < length (moved slots (act_there kind prior e))
there-behind slots (RecordAdded image) prior e of alone = put-there slots (place_of e.rrn) (Live image)
there-behind slots (RecordAddedAtNumber image) prior e of alone = put-there slots (place_of e.rrn) (Live image)
there-behind slots (AfterImage true image) prior e of alone = put-there slots (place_of e.rrn) (Live image)
there-behind slots (AfterImage false image) prior e of alone = put-there slots (place_of e.rrn) (Live image)
there-behind slots (UndoAfterImage true image) prior e of alone = put-there slots (place_of e.rrn) (Live image)
there-behind slots (UndoAfterImage false image) prior e of alone = put-there slots (place_of e.rrn) (Live image)
there-behind slots (RecordDeleted before) prior e of alone = put-there slots (place_of e.rrn) Deleted
there-behind slots (UndoDelete image) prior e of alone = put-there slots (place_of e.rrn) Deleted
there-behind slots (InitialSlot image) prior e of alone = put-there slots (place_of e.rrn) (Live image)
there-behind slots (BeforeImage image) prior e of alone = absurd cc
there-behind slots (UndoBeforeImage image) prior e of alone = absurd cc
there-behind slots (FileCreated Physical name source) prior e of alone = absurd cc
there-behind slots (FileCreated Logical name source) prior e of alone = absurd cc
there-behind slots (FileDeleted name) prior e of alone = absurd cc
there-behind slots (MemberAdded file name) prior e of alone = absurd cc
there-behind slots (JournalingStarted images many) prior e of alone = absurd cc
there-behind slots JournalingEnded prior e of alone = absurd cc
there-behind slots MemberCleared prior e of alone = absurd cc
there-behind slots MemberReorganized prior e of alone = absurd cc
there-behind slots (ChangesApplied first last changes) prior e of alone = absurd cc
there-behind slots (ChangesRemoved first last changes) prior e of alone = absurd cc
there-behind slots (CommitmentStarted level) prior e of alone = absurd cc
there-behind slots CommitCycleStarted prior e of alone = absurd cc
there-behind slots CommitCycleCommitted prior e of alone = absurd cc
there-behind slots CommitCycleRolledBack prior e of alone = absurd cc
there-behind slots CommitmentEnded prior e of alone = absurd cc
there-behind slots AbnormalEnd prior e of alone = absurd cc
there-behind slots (NextReceiver number) prior e of alone = absurd cc
there-behind slots (PreviousReceiver number) prior e of alone = absurd cc

-- the entry that ends a pair is of a record, and changes no catalogue
pub record EndsOne (kind : EntryKind) : Type 0 where
  pub of : is_of_record (place kind) ≡ true
  pub alone : pair_begun kind ≡ None
  pub quiet : (e : Entry) (c : Catalogue) → catalogue_by kind e c ≡ c

ends-one : (kind : EntryKind) (pair : Pair) → pair_ended kind ≡ Some pair → EndsOne kind
ends-one (AfterImage true image) pair ends = record { of = refl; alone = refl; quiet = λ e c. refl }
ends-one (UndoAfterImage true image) pair ends = record { of = refl; alone = refl; quiet = λ e c. refl }
ends-one (AfterImage false image) pair ends = absurd cc
ends-one (UndoAfterImage false image) pair ends = absurd cc
ends-one (RecordAdded image) pair ends = absurd cc
ends-one (RecordAddedAtNumber image) pair ends = absurd cc
ends-one (RecordDeleted before) pair ends = absurd cc
ends-one (UndoDelete image) pair ends = absurd cc
ends-one (InitialSlot image) pair ends = absurd cc
ends-one (BeforeImage image) pair ends = absurd cc
ends-one (UndoBeforeImage image) pair ends = absurd cc
ends-one (FileCreated kind name source) pair ends = absurd cc
ends-one (FileDeleted name) pair ends = absurd cc
ends-one (MemberAdded file name) pair ends = absurd cc
ends-one (JournalingStarted images many) pair ends = absurd cc
ends-one JournalingEnded pair ends = absurd cc
ends-one MemberCleared pair ends = absurd cc
ends-one MemberReorganized pair ends = absurd cc
ends-one (ChangesApplied first last changes) pair ends = absurd cc
ends-one (ChangesRemoved first last changes) pair ends = absurd cc
ends-one (CommitmentStarted level) pair ends = absurd cc
ends-one CommitCycleStarted pair ends = absurd cc
ends-one CommitCycleCommitted pair ends = absurd cc
ends-one CommitCycleRolledBack pair ends = absurd cc
ends-one CommitmentEnded pair ends = absurd cc
ends-one AbnormalEnd pair ends = absurd cc
ends-one (NextReceiver number) pair ends = absurd cc
ends-one (PreviousReceiver number) pair ends = absurd cc

-- as far as entries are read, each member that is there is within its limits
abbrev pub AreLimited : Catalogue → (ℕ → State) → Option Entry → List Entry → Type 0
AreLimited c s prior entries =
    (front rest : List Entry) (m : CatalogMember) → entries ≡ front ++ rest → member_numbered (Some m.number) (catalogue_after c front) ≡ Some m
    → IsMember (record { record_length = record_length descriptions (catalogue_after c front) m; slots = (replay (s m.number) (acts m.number prior front)).slots })

own-act : (n : ℕ) (prior : Option Entry) (e : Entry) → e.member ≡ Some n → act n prior e ≡ act_there e.kind prior e
own-act n prior e names =
    ap (λ (b : Bool). if b then act_there e.kind prior e else act_elsewhere e.kind e) (ap (λ (o : Option ℕ). is_number o n) names ∙ eq-eqb n n refl)

-- at an entry of a record that begins no pair, by the limits behind it
place-behind : (c : Catalogue) → IsCatalogue c → IsPlainCatalogue c → (m : CatalogMember) → Among m c.members → (slots : List MemberSlot) (prior : Option Entry) (e : Entry) → e.member ≡ Some m.number
    → is_of_record (place e.kind) ≡ true → pair_begun e.kind ≡ None → is_placed e ≡ true
    → IsMember (record { record_length = record_length descriptions c m; slots = moved slots (act m.number prior e) }) → NamesPlace (fields_at c m.file) e.rrn
place-behind c is plain m among slots prior e names of alone placed limits =
    names-place (fields_at c m.file) e.rrn (moved slots (act m.number prior e)) (present-rrn (place e.kind) e.sequence e.group e.member e.rrn of placed)
    (subst (λ (a : Act). place_of e.rrn < length (moved slots a)) (sym (own-act m.number prior e names)) (there-behind slots e.kind prior e of alone))
    (subst (λ (long : ℕ). IsMember (record { record_length = long; slots = moved slots (act m.number prior e) })) (long-at c is plain m among) limits)

module _ (c : Catalogue) (s : ℕ → State) (past : List Entry) (st : Stands c s past) (prior : Option Entry) (e : Entry) (may : MayEnterBy descriptions e.kind e c) (placed : is_placed e ≡ true) where
  abbrev later : Catalogue
  later = catalogue_by e.kind e c

  module _ (next : Stands (catalogue_by e.kind e c) (λ member. step (s member) (act member prior e)) (past ++ e ∷ [])) where
    place-of-pair : (pair : Pair) (more : List Entry) → pair_begun e.kind ≡ Some pair → AreInPairs (Some e) more → AllByRecursion (λ (x : Entry). is_placed x ≡ true) more
        → AreLimited c s prior (e ∷ more) → (m : CatalogMember) → Among m (catalogue_by e.kind e c).members → e.member ≡ Some m.number → NamesPlace (fields_at (catalogue_by e.kind e c) m.file) e.rrn
    place-of-pair pair [] begun pairs others limits m among names = absurd (let none : pair_begun e.kind ≡ None = pairs in cc)
    place-of-pair pair (e2 ∷ more) begun pairs others limits m among names =
        let ends = ends-one e2.kind pair (pairs.0.0 ∙ begun) in
        let one : IsOneChange e e2 = subst (λ (o : Option Pair). OneChange o e e2) begun pairs.0.1 in
        let quiet = ends.quiet e2 (catalogue_by e.kind e c) in
        let found : member_numbered (Some m.number) (catalogue_by e2.kind e2 (catalogue_by e.kind e c)) ≡ Some m =
        ap (λ (x : Catalogue). member_numbered (Some m.number) x) quiet ∙ numbered-among (catalogue_by e.kind e c).members m next.is.numbers among in
        let behind = limits (e ∷ e2 ∷ []) more m refl found in
        subst (λ (o : Option ℕ). NamesPlace (fields_at (catalogue_by e.kind e c) m.file) o) (sym one.rrn)
        (place-behind (catalogue_by e.kind e c) next.is next.plain m among (step (s m.number) (act m.number prior e)).slots (Some e) e2 (sym one.member ∙ names) ends.of ends.alone others.0
        (subst (λ (x : Catalogue).
        IsMember (record { record_length = record_length descriptions x m; slots = moved (step (s m.number) (act m.number prior e)).slots (act m.number (Some e) e2) })) quiet behind))

    place-alone : (more : List Entry) → pair_begun e.kind ≡ None → AreLimited c s prior (e ∷ more) → (m : CatalogMember) → Among m (catalogue_by e.kind e c).members → e.member ≡ Some m.number
        → is_of_record (place e.kind) ≡ true → NamesPlace (fields_at (catalogue_by e.kind e c) m.file) e.rrn
    place-alone more alone limits m among names of =
        place-behind (catalogue_by e.kind e c) next.is next.plain m among (s m.number).slots prior e names of alone placed
        (limits (e ∷ []) more m refl (numbered-among (catalogue_by e.kind e c).members m next.is.numbers among))

    pub new-room : (more : List Entry) → AreInPairs (Some e) more → AllByRecursion (λ (x : Entry). is_placed x ≡ true) more → AreLimited c s prior (e ∷ more)
        → EntryHasRoom (catalogue_by e.kind e c) e
    new-room more pairs others limits = record {
      below = λ number names. below-by c st.is e number names e.kind may placed;
      places = λ m among names of. by (pair_begun e.kind) refl m among names of;
    } where
      by : (o : Option Pair) → pair_begun e.kind ≡ o → (m : CatalogMember) → Among m (catalogue_by e.kind e c).members → e.member ≡ Some m.number → is_of_record (place e.kind) ≡ true
          → NamesPlace (fields_at (catalogue_by e.kind e c) m.file) e.rrn
      by None is m among names of = place-alone more is limits m among names of
      by (Some pair) is m among names of = place-of-pair pair more is pairs others limits m among names

-- ---- all entries

pub rooms-all : (entries : List Entry) (c : Catalogue) (s : ℕ → State) (past : List Entry) (prior : Option Entry) → Stands c s past → AllByRecursion (EntryHasRoom c) past
    → MayEnterAll descriptions c entries → AllHaveRecords descriptions c entries → ((member : ℕ) → CanReplay (s member) (acts member prior entries)) → AreInPairs prior entries
    → AllByRecursion (λ (x : Entry). is_placed x ≡ true) entries → AreLimited c s prior entries → AllByRecursion (EntryHasRoom (catalogue_after c entries)) (past ++ entries)
rooms-all [] c s past prior st rooms may records can pairs placed limits = subst (λ (all : List Entry). AllByRecursion (EntryHasRoom c) all) (sym (append-none past)) rooms
  where
    append-none : (xs : List Entry) → xs ++ [] ≡ xs
    append-none [] = refl
    append-none (x ∷ xs) = ap (λ (rest : List Entry). x ∷ rest) (append-none xs)
rooms-all (e ∷ entries) c s past prior st rooms may records can pairs placed limits =
    let next = stands-next c s past st prior e may.0 records.0 (λ member. (can member).0) in
    let goes = entry-goes c st.is st.plain e.kind e may.0 in
    subst (λ (all : List Entry). AllByRecursion (EntryHasRoom (catalogue_after (catalogue_by e.kind e c) entries)) all) (append_assoc past (e ∷ []) entries)
    (rooms-all entries (catalogue_by e.kind e c) (λ member. step (s member) (act member prior e)) (past ++ e ∷ []) (Some e) next
    (each-append (EntryHasRoom (catalogue_by e.kind e c)) past (e ∷ [])
    (each-weaker (EntryHasRoom c) (EntryHasRoom (catalogue_by e.kind e c)) (λ x it. room-goes c (catalogue_by e.kind e c) x goes it) past rooms)
    (new-room c s past st prior e may.0 placed.0 next entries pairs.1 placed.1 limits, tt))
    may.1 records.1 (λ member. (can member).1) pairs.1 placed.1
    (λ front rest m same found. limits (e ∷ front) rest m (ap (λ (xs : List Entry). e ∷ xs) same) found))

-- ---- what restart deposits

-- a change is of a member that is made, at a place that the member may have
pub record ChangeHasRoom (c : Catalogue) (undo : MemberChange) : Type 0 where
  pub below : undo.member < c.next_member
  pub places : (m : CatalogMember) → Among m c.members → undo.member ≡ m.number → MayHavePlace (fields_at c m.file) (undo.change.place + 1)

below-from : (next : ℕ) (undos : List MemberChange) → ((number : ℕ) → next ≤ number → of_member number undos ≡ []) → AllByRecursion (λ (undo : MemberChange). undo.member < next) undos
below-from next [] none = tt
below-from next (undo ∷ undos) none = (first, below-from next undos rest)
  where
    first : undo.member < next
    first = elim (cases_lt undo.member next) [
      | inl low ↦ low
      | inr above ↦ absurd (
          let empty : of_member undo.member (undo ∷ undos) ≡ [] = none undo.member above in
          let some : (undo.change ∷ of_member undo.member undos) ≡ [] =
          sym (ap (λ (b : Bool). if b then undo.change ∷ of_member undo.member undos else of_member undo.member undos) (eq-eqb undo.member undo.member refl)) ∙ empty in cc)
    ]

    rest : (number : ℕ) → next ≤ number → of_member number undos ≡ []
    rest number above =
        elim (undo.member == number) as (λ b. (if b then undo.change ∷ of_member number undos else of_member number undos) ≡ [] → of_member number undos ≡ []) [
          | true ↦ λ e. absurd cc
          | false ↦ λ e. e
        ] (none number above)

places-from : (c : Catalogue) (undos : List MemberChange)
    → ((m : CatalogMember) → Among m c.members → AllByRecursion (λ (change : Change). MayHavePlace (fields_at c m.file) (change.place + 1)) (of_member m.number undos))
    → AllByRecursion (λ (undo : MemberChange). (m : CatalogMember) → Among m c.members → undo.member ≡ m.number → MayHavePlace (fields_at c m.file) (undo.change.place + 1)) undos
places-from c [] held = tt
places-from c (undo ∷ undos) held = (first, places-from c undos rest)
  where
    first : (m : CatalogMember) → Among m c.members → undo.member ≡ m.number → MayHavePlace (fields_at c m.file) (undo.change.place + 1)
    first m among same =
        elim (undo.member == m.number) as (λ b. undo.member == m.number ≡ b
        → AllByRecursion (λ (change : Change). MayHavePlace (fields_at c m.file) (change.place + 1)) (if b then undo.change ∷ of_member m.number undos else of_member m.number undos)
        → MayHavePlace (fields_at c m.file) (undo.change.place + 1)) [
          | true ↦ λ is all. all.0
          | false ↦ λ is all. absurd (let equal : undo.member == m.number ≡ true = eq-eqb undo.member m.number same in cc)
        ] refl (held m among)

    rest : (m : CatalogMember) → Among m c.members → AllByRecursion (λ (change : Change). MayHavePlace (fields_at c m.file) (change.place + 1)) (of_member m.number undos)
    rest m among =
        elim (undo.member == m.number) as (λ b.
        AllByRecursion (λ (change : Change). MayHavePlace (fields_at c m.file) (change.place + 1)) (if b then undo.change ∷ of_member m.number undos else of_member m.number undos)
        → AllByRecursion (λ (change : Change). MayHavePlace (fields_at c m.file) (change.place + 1)) (of_member m.number undos)) [
          | true ↦ λ all. all.1
          | false ↦ λ all. all
        ] (held m among)

pub changes-have-room : (c : Catalogue) (undos : List MemberChange) → ((number : ℕ) → c.next_member ≤ number → of_member number undos ≡ [])
    → ((m : CatalogMember) → Among m c.members → AllByRecursion (λ (change : Change). MayHavePlace (fields_at c m.file) (change.place + 1)) (of_member m.number undos))
    → AllByRecursion (ChangeHasRoom c) undos
changes-have-room c undos none held = both undos (below-from c.next_member undos none) (places-from c undos held)
  where
    both : (some : List MemberChange) → AllByRecursion (λ (undo : MemberChange). undo.member < c.next_member) some
        → AllByRecursion (λ (undo : MemberChange). (m : CatalogMember) → Among m c.members → undo.member ≡ m.number → MayHavePlace (fields_at c m.file) (undo.change.place + 1)) some
        → AllByRecursion (ChangeHasRoom c) some
    both [] low there = tt
    both (undo ∷ some) low there = (record { below = low.0; places = there.0 }, both some low.1 there.1)

abbrev DraftHasRoom : Catalogue → Draft → Type 0
DraftHasRoom c d = HasRoom c d.member d.rrn d.kind

module _ (c : Catalogue) (job : Option (List ℕ)) (moment : ℕ) where
  no-member-room : (kind : EntryKind) → HasRoom c None None kind
  no-member-room kind = record { below = λ number names. absurd cc; places = λ m among names of. absurd cc }

  kinds-room : (undo : MemberChange) → ChangeHasRoom c undo → (kinds : List EntryKind) → AllByRecursion (DraftHasRoom c) (change_drafts job moment undo kinds)
  kinds-room undo room [] = tt
  kinds-room undo room (kind ∷ kinds) = (
    record {
      below = λ number names. subst (λ (n : ℕ). n < c.next_member) (let same : undo.member ≡ number = cc in same) room.below;
      places = λ m among names of. room.places m among (let same : undo.member ≡ m.number = cc in same);
    },
    kinds-room undo room kinds,
  )

  undos-room : (undos : List MemberChange) → AllByRecursion (ChangeHasRoom c) undos → AllByRecursion (DraftHasRoom c) (undo_drafts job moment undos)
  undos-room [] rooms = tt
  undos-room (undo ∷ undos) rooms =
      each-append (DraftHasRoom c) (change_drafts job moment undo (undo_kinds (before_of undo.change) undo.change.after)) (undo_drafts job moment undos)
      (kinds-room undo rooms.0 (undo_kinds (before_of undo.change) undo.change.after)) (undos-room undos rooms.1)

  cycles-room : (cycles : List ℕ) (undos : List MemberChange) → AllByRecursion (ChangeHasRoom c) undos → AllByRecursion (DraftHasRoom c) (all_rollback_drafts job moment cycles undos)
  cycles-room [] undos rooms = tt
  cycles-room (n ∷ cycles) undos rooms =
      each-append (DraftHasRoom c) (rollback_drafts job moment n undos) (all_rollback_drafts job moment cycles undos)
      (each-append (DraftHasRoom c) (undo_drafts job moment (filter (λ (undo : MemberChange). is_in n undo.change) undos)) _
      (undos-room (filter (λ (undo : MemberChange). is_in n undo.change) undos) (each-filter (ChangeHasRoom c) (λ (undo : MemberChange). is_in n undo.change) undos rooms))
      (no-member-room CommitCycleRolledBack, tt))
      (cycles-room cycles undos rooms)

  restart-room : (cycles : List ℕ) (undos : List MemberChange) → AllByRecursion (ChangeHasRoom c) undos → AllByRecursion (DraftHasRoom c) (restart_drafts job moment cycles undos)
  restart-room [] undos rooms = tt
  restart-room (n ∷ cycles) undos rooms = (no-member-room AbnormalEnd, cycles-room (n ∷ cycles) undos rooms)

  missing-room : (last : Option Entry) → AllByRecursion (DraftHasRoom c) (missing_behind job moment last)
  missing-room None = tt
  missing-room (Some last) = by (missing_kind last.kind)
    where
      by : (o : Option EntryKind) → AllByRecursion (DraftHasRoom c) (missing_draft job moment o)
      by None = tt
      by (Some kind) = (no-member-room kind, tt)

  numbered-room : (drafts : List Draft) (k : ℕ) → AllByRecursion (DraftHasRoom c) drafts → AllByRecursion (EntryHasRoom c) (numbered_from k drafts)
  numbered-room [] k all = tt
  numbered-room (d ∷ drafts) k all = (all.0, numbered-room drafts (k + 1) all.1)

  pub restart-has-room : (j : Journal) → AllByRecursion (ChangeHasRoom c) (undos_of [] (entry_before None j.kept) j.later) → AllByRecursion (EntryHasRoom c) (restart_entries job moment j)
  restart-has-room j rooms =
      numbered-room _ (last_sequence j + 1)
      (each-append (DraftHasRoom c) (missing_behind job moment (entry_before None (entries_of j))) (restart_drafts job moment (open_cycles j) (undos_of [] (entry_before None j.kept) j.later))
      (missing-room (entry_before None (entries_of j))) (restart-room (open_cycles j) (undos_of [] (entry_before None j.kept) j.later) rooms))
