-- A library is sound after its restart, where the journal can be replayed.
use Rattle.std.proofs.Common.{◌≡◌, inl, inr, ℕ, ◌+◌, ◌*◌, ◌<◌, ◌≤◌, ◌==◌, cond, map, true, false, if◌then◌else◌, Option, Some, None, is_some, unwrap_or, IfSome, List, [], ◌∷◌, ◌++◌, length, refl, sym, ◌∙◌, ap, subst, arith}
use Rattle.std.proofs.lemmas.Bool.{cases_eq, eq-eqb, eqb-true, ne_eqb}
use Rattle.std.specs.List.{AllByRecursion, filter, find}
use Rattle.std.specs.Option.{option_map}
use Rattle.std.specs.Prelude.{IsTrue}
use Rattle.entry_codec.specs.Placing.{is_placed}
use Rattle.entry_codec.specs.declared.entries.Draft.{Draft}
use Rattle.entry_codec.specs.declared.entries.Entry.{Entry}
use Rattle.entry_codec.specs.declared.kinds.FileKind.TheVariants.{Physical}
use Rattle.entry_codec.specs.declared.kinds.EntryKind.{EntryKind}
use Rattle.entry_codec.specs.declared.kinds.EntryKind.TheVariants.{FileCreated, FileDeleted, MemberAdded, JournalingStarted, InitialSlot, JournalingEnded, MemberCleared, MemberReorganized, ChangesApplied, ChangesRemoved, RecordAdded, RecordAddedAtNumber, BeforeImage, AfterImage, RecordDeleted, UndoBeforeImage, UndoAfterImage, UndoDelete, CommitmentStarted, CommitCycleStarted, CommitCycleCommitted, CommitCycleRolledBack, CommitmentEnded, AbnormalEnd, NextReceiver, PreviousReceiver}
use Rattle.member_slots.specs.declared.member.TheConstants.{MOST_SLOTS, MOST_BYTES}
use Rattle.member_slots.specs.declared.slot.Slot.{Slot}
use Rattle.member_slots.specs.declared.slot.Slot.TheVariants.{Live, Deleted}
use Rattle.member_slots.specs.Member.{IsMember, MemberState, empty_member}
use Rattle.member_slots.specs.Members.{Numbered, item_at, member_at, member_of}
use Rattle.record_fmt.specs.declared.formats.Field.{Field}
use Rattle.record_fmt.specs.Layout as layout
use Rattle.record_fmt.specs.Records.{record_held}
use Rattle.dds_physical.specs.declared.physical_files.PhysicalSpec.{PhysicalSpec}
use Rattle.logical_model.specs.Bases.{FileSpec, PhysicalFile, LogicalFile}
use Rattle.logical_laws.proofs.ListLemmas.{each-append, each-filter, each-map, each-weaker}
use Rattle.journal_model.specs.Acts.{Act, Changed, Began, Committed, RolledBack, Journaled, Stood, Cleared, Reorganized, Ended, Nothing, Change, acts, entry_before}
use Rattle.journal_model.specs.AtSequence.{IsSo, known_after, known_by}
use Rattle.journal_model.specs.Catalogue.{Catalogue, CatalogFile, CatalogMember, empty_catalogue, is_named}
use Rattle.journal_model.specs.Images.{images_of}
use Rattle.journal_model.specs.Journal.{Journal, CanReplayJournal, acts_after, catalogue_of, entries as entries_of, last_sequence, length_in, open_cycles, record_length, restart_entries, restarted, start_of, state_of}
use Rattle.journal_model.specs.Places.{put_slot, slot_of}
use Rattle.journal_model.specs.Replay.{State as MemberSlots, before_of, is_in, moved, replay, step}
use Rattle.journal_model.specs.Rollback.{MemberChange, all_rollback_drafts, change_drafts, missing_behind, missing_draft, missing_kind, numbered_from, of_member, restart_drafts, rollback_drafts, undo_drafts, undo_kinds, undos_of}
use Rattle.journal_model.proofs.JournalLemmas.{restarted-replays, restarted-slots}
use Rattle.journal_model.proofs.LibraryLemmas.{linked}
use Rattle.journal_model.proofs.MemberLemmas.{acts-append}
use Rattle.journal_model.proofs.PlaceLemmas.{slot_of-put_other, slot_of-put_same}
use Rattle.journal_model.proofs.ReplayLemmas.{IsChained-replayed}
use Rattle.journal_model.proofs.SequenceLemmas.{known_after-append}
use Rattle.journal_model.proofs.SoundLemmas.{sound-replay, sound-start}
use Rattle.lawful_states.specs.Owners.{Owns}
use Rattle.lawful_states.specs.Physical.{IsPhysical}
use Rattle.lawful_states.proofs.NameLemmas.{some-equal}
use Rattle.library_model.specs.Named.{Named, named}
use Rattle.lawful_states.below.library_steps.specs.declared.limits.TheConstants.{MOST_LIBRARY_BYTES}
use Rattle.lawful_states.specs.Ranges.{library_bytes}
use Rattle.lawful_states.specs.SlotChange.{images_of as images_kept}
use Rattle.lawful_states.specs.State.{State, FileState, fields_of, format_in, memory_of, physical_in}
use Rattle.lawful_states.specs.Lawful.{HoldsValues, IsThere}
use Rattle.library_kept.specs.Limits.{AreWithin, IsWithin}
use Rattle.library_kept.specs.Sound.{IsSound}
use Rattle.library_kept.specs.Told.{IsRecordOf, IsTold, MayHavePlace, NamesPlace}
use Rattle.library_kept.proofs.FieldLemmas.{length-record}
use Rattle.restart_model.specs.Libraries.{files_left, journal_with, library_restarted, member_left, record_length_in, restart_job}
use Rattle.restart_model.specs.Sources.{described_files, descriptions, spec_named}
use Rattle.journaled_entries.specs.Deposited.{AreDeposited, AreJournaled}
use Rattle.restart_laws.specs.Given.{IsLeftAs}
use Rattle.restart_laws.proofs.CatalogueLemmas.{empty-is}
use Rattle.restart_laws.proofs.DescribedLemmas.{Among, each-among, find-among}
use Rattle.restart_laws.proofs.GoesLemmas.{beside-at, fields_at, fields_found, found-among, numbered-among, own-file}
use Rattle.restart_laws.proofs.HeldLemmas.{IsUndo, undone-holds, undone-long}
use Rattle.restart_laws.proofs.KeptLemmas.{has-own, images-kept, there-found}
use Rattle.restart_laws.proofs.LeftLemmas.{left-apart, left-based, left-defaults, left-file, left-formats, left-mapped, left-member, left-names, left-numbers, named-files, physical-is, with_members}
use Rattle.restart_laws.proofs.LibraryLemmas.{catalogue-is, numbered-is}
use Rattle.restart_laws.proofs.RestartedLemmas.{catalogue-restarted}
use Rattle.restart_laws.proofs.RoomLemmas.{ChangeHasRoom, EntryHasRoom, changes-have-room, long-at, may-place, restart-has-room, rooms-all}
use Rattle.restart_laws.proofs.SilentLemmas.{restart-known, silent-all}
use Rattle.restart_laws.proofs.StableLemmas.{IsPlain, spec_found}
use Rattle.restart_laws.proofs.StandLemmas.{IsToldIn, Stands, stands-all}

-- ---- each of a list by its place in it

each-of-among : {X : Type 0} (P : X → Type 0) (xs : List X) → ((x : X) → Among x xs → P x) → AllByRecursion P xs
each-of-among P [] all = tt
each-of-among P (x ∷ xs) all = (all x (inl refl), each-of-among P xs (λ y among. all y (inr among)))

append-none : (xs : List Entry) → xs ++ [] ≡ xs
append-none [] = refl
append-none (x ∷ xs) = ap (λ (rest : List Entry). x ∷ rest) (append-none xs)

-- ---- what the entries tell of a record stands

module _ (at : ℕ) where
  so-put : (slots : List Slot) (other : ℕ) (new : Slot) (known : Option Slot) → IsSo known (slot_of slots at) → IsSo (cond (other == at) (Some new) known) (slot_of (put_slot slots other new) at)
  so-put slots other new known k = elim (cases_eq other at) [
    | inl e ↦ rw (eq-eqb other at e) (sym (subst (λ (q : ℕ). slot_of (put_slot slots other new) q ≡ new) e (slot_of-put_same slots other new)))
    | inr differs ↦ rw (ne_eqb other at differs, slot_of-put_other slots other at new differs) k
  ]

  so-by : (s : MemberSlots) (a : Act) (known : Option Slot) → IsSo known (slot_of s.slots at) → IsSo (known_by at known a) (slot_of (moved s.slots a) at)
  so-by s (Changed c) known k = so-put s.slots c.place c.after known k
  so-by s (Began n) known k = k
  so-by s (Committed n) known k = k
  so-by s (RolledBack n) known k = k
  so-by s (Journaled images n) known k = tt
  so-by s (Stood other image) known k = so-put s.slots other (Live image) known k
  so-by s Cleared known k = tt
  so-by s Reorganized known k = tt
  so-by s Ended known k = tt
  so-by s Nothing known k = k

  so-after : (xs : List Act) (s : MemberSlots) (known : Option Slot) → IsSo known (slot_of s.slots at) → IsSo (known_after at known xs) (slot_of (replay s xs).slots at)
  so-after [] s known k = k
  so-after (a ∷ xs) s known k = so-after xs (step s a) (known_by at known a) (so-by s a known k)

-- ---- the members of a library that is left

spec-fields : (spec : FileSpec) → (format_in spec).fields ≡ fields_found (physical_in spec)
spec-fields (PhysicalFile spec) = refl
spec-fields (LogicalFile spec) = refl

module _ (breaks : ℕ → ℕ) (j : Journal) where
  -- the fields of a file's records
  fields-left : (name : List ℕ) (file : FileState) → named name (files_left breaks j) ≡ Some file → fields_at (catalogue_of j) name ≡ fields_of file
  fields-left name file there =
      let it = left-file breaks j name file there in
      ap (λ (o : Option FileState). fields_found (spec_found o)) it.found ∙ ap (λ (s : FileSpec). fields_found (physical_in s)) it.spec ∙ sym (spec-fields file.spec)

  long-left : (name : List ℕ) → record_length_in (named name (files_left breaks j)) ≡ layout.record_length (fields_at (catalogue_of j) name)
  long-left name = ap record_length_in (named-files breaks j name) ∙ by (named name (described_files (catalogue_of j).files))
    where
      by : (o : Option FileState) → record_length_in (option_map (with_members breaks j name) o) ≡ layout.record_length (fields_found (spec_found o))
      by None = refl
      by (Some base) = ap layout.record_length (spec-fields base.spec)

  item-left : (files : Named FileState) (members : List CatalogMember) (number : ℕ) (m : CatalogMember) → find (λ (o : CatalogMember). o.number == number) members ≡ Some m
      → item_at number (map (member_left files j) members) ≡ Some (member_left files j m).item
  item-left files [] number m found = absurd cc
  item-left files (first ∷ members) number m found =
      elim (first.number == number) as (λ b. cond b (Some first) (find (λ (o : CatalogMember). o.number == number) members) ≡ Some m
      → (if b then Some (member_left files j first).item else item_at number (map (member_left files j) members)) ≡ Some (member_left files j m).item) [
        | true ↦ λ e. ap (λ (x : CatalogMember). Some (member_left files j x).item) (some-equal e)
        | false ↦ λ e. item-left files members number m e
      ] found

  slots-left : (files : Named FileState) (members : List CatalogMember) (number : ℕ) → is_some (item_at number (map (member_left files j) members)) ≡ true
      → (unwrap_or (item_at number (map (member_left files j) members)) (empty_member 0)).slots ≡ (state_of j number).slots
  slots-left files [] number some = absurd cc
  slots-left files (m ∷ members) number some =
      elim (m.number == number) as (λ b. m.number == number ≡ b → is_some (if b then Some (member_left files j m).item else item_at number (map (member_left files j) members)) ≡ true
      → (unwrap_or (if b then Some (member_left files j m).item else item_at number (map (member_left files j) members)) (empty_member 0)).slots ≡ (state_of j number).slots) [
        | true ↦ λ is h. ap (λ (n : ℕ). (state_of j n).slots) (eqb-true m.number number is)
        | false ↦ λ is h. slots-left files members number h
      ] refl some

record-held : (fields : List Field) (image : List ℕ) → is_some (record_held fields image) ≡ true → IsRecordOf fields image
record-held fields image h = record { long = length-record fields image h; values = h }

-- ---- what restart deposits

-- the images of an entry are records of its member
abbrev ToldOf : Catalogue → Option ℕ → EntryKind → Type 0
ToldOf c member kind = (m : CatalogMember) → Among m c.members → member ≡ Some m.number → AllByRecursion (IsRecordOf (fields_at c m.file)) (images_of kind)

abbrev DraftTold : Catalogue → Draft → Type 0
DraftTold c d = ToldOf c d.member d.kind

abbrev EntryTold : Catalogue → Entry → Type 0
EntryTold c e = ToldOf c e.member e.kind

-- both sides of a change are records of its member, where that is there
abbrev SidesOf : Catalogue → MemberChange → Type 0
SidesOf c undo = (m : CatalogMember) → Among m c.members → undo.member ≡ m.number → IsUndo (HoldsValues (fields_at c m.file)) undo.change

module _ (c : Catalogue) (job : Option (List ℕ)) (moment : ℕ) where
  after-told : (undo : MemberChange) (image : List ℕ) → SidesOf c undo → undo.change.after ≡ Live image → (m : CatalogMember) → Among m c.members → undo.member ≡ m.number
      → IsRecordOf (fields_at c m.file) image
  after-told undo image sides is m among same = record-held (fields_at c m.file) image (subst (HoldsValues (fields_at c m.file)) is (sides m among same).1)

  before-told : (undo : MemberChange) (image : List ℕ) → SidesOf c undo → before_of undo.change ≡ Live image → (m : CatalogMember) → Among m c.members → undo.member ≡ m.number
      → IsRecordOf (fields_at c m.file) image
  before-told undo image sides is m among same = record-held (fields_at c m.file) image (subst (HoldsValues (fields_at c m.file)) is (sides m among same).0)

  one-told : (undo : MemberChange) → SidesOf c undo → (given changed : Slot) → before_of undo.change ≡ given → undo.change.after ≡ changed
      → AllByRecursion (DraftTold c) (change_drafts job moment undo (undo_kinds given changed))
  one-told undo sides (Live before) (Live after) given changed =
      ((λ m among names. (after-told undo after sides changed m among (some-equal names), tt)), ((λ m among names. (before-told undo before sides given m among (some-equal names), tt)), tt))
  one-told undo sides (Live before) Deleted given changed = ((λ m among names. (before-told undo before sides given m among (some-equal names), tt)), tt)
  one-told undo sides Deleted (Live after) given changed = ((λ m among names. (after-told undo after sides changed m among (some-equal names), tt)), tt)
  one-told undo sides Deleted Deleted given changed = tt

  undo-told : (undos : List MemberChange) → AllByRecursion (SidesOf c) undos → AllByRecursion (DraftTold c) (undo_drafts job moment undos)
  undo-told [] sides = tt
  undo-told (undo ∷ undos) sides =
      each-append (DraftTold c) (change_drafts job moment undo (undo_kinds (before_of undo.change) undo.change.after)) (undo_drafts job moment undos)
      (one-told undo sides.0 (before_of undo.change) undo.change.after refl refl) (undo-told undos sides.1)

  all-told : (cycles : List ℕ) (undos : List MemberChange) → AllByRecursion (SidesOf c) undos → AllByRecursion (DraftTold c) (all_rollback_drafts job moment cycles undos)
  all-told [] undos sides = tt
  all-told (n ∷ cycles) undos sides =
      each-append (DraftTold c) (rollback_drafts job moment n undos) (all_rollback_drafts job moment cycles undos)
      (each-append (DraftTold c) (undo_drafts job moment (filter (λ (undo : MemberChange). is_in n undo.change) undos)) _
      (undo-told (filter (λ (undo : MemberChange). is_in n undo.change) undos) (each-filter (SidesOf c) (λ (undo : MemberChange). is_in n undo.change) undos sides)) ((λ m among names. tt), tt))
      (all-told cycles undos sides)

  restart-told : (cycles : List ℕ) (undos : List MemberChange) → AllByRecursion (SidesOf c) undos → AllByRecursion (DraftTold c) (restart_drafts job moment cycles undos)
  restart-told [] undos sides = tt
  restart-told (n ∷ cycles) undos sides = ((λ m among names. tt), all-told (n ∷ cycles) undos sides)

  kind-told : (kind : EntryKind) → AllByRecursion (DraftTold c) (missing_draft job moment (missing_kind kind))
  kind-told (NextReceiver number) = ((λ m among names. tt), tt)
  kind-told (FileCreated kind name source) = tt
  kind-told (FileDeleted name) = tt
  kind-told (MemberAdded file name) = tt
  kind-told (JournalingStarted images slots) = tt
  kind-told (InitialSlot image) = tt
  kind-told JournalingEnded = tt
  kind-told MemberCleared = tt
  kind-told MemberReorganized = tt
  kind-told (ChangesApplied first last changes) = tt
  kind-told (ChangesRemoved first last changes) = tt
  kind-told (RecordAdded image) = tt
  kind-told (RecordAddedAtNumber image) = tt
  kind-told (BeforeImage image) = tt
  kind-told (AfterImage has_before image) = tt
  kind-told (RecordDeleted before) = tt
  kind-told (UndoBeforeImage image) = tt
  kind-told (UndoAfterImage has_before image) = tt
  kind-told (UndoDelete image) = tt
  kind-told (CommitmentStarted level) = tt
  kind-told CommitCycleStarted = tt
  kind-told CommitCycleCommitted = tt
  kind-told CommitCycleRolledBack = tt
  kind-told CommitmentEnded = tt
  kind-told AbnormalEnd = tt
  kind-told (PreviousReceiver number) = tt

  missing-told : (last : Option Entry) → AllByRecursion (DraftTold c) (missing_behind job moment last)
  missing-told None = tt
  missing-told (Some last) = kind-told last.kind

  numbered-told : (drafts : List Draft) (k : ℕ) → AllByRecursion (DraftTold c) drafts → AllByRecursion (EntryTold c) (numbered_from k drafts)
  numbered-told [] k all = tt
  numbered-told (d ∷ drafts) k all = (all.0, numbered-told drafts (k + 1) all.1)

  entries-told : (j : Journal) → AllByRecursion (SidesOf c) (undos_of [] (entry_before None j.kept) j.later) → AllByRecursion (EntryTold c) (restart_entries job moment j)
  entries-told j sides =
      numbered-told _ (last_sequence j + 1)
      (each-append (DraftTold c) (missing_behind job moment (entry_before None (entries_of j))) (restart_drafts job moment (open_cycles j) (undos_of [] (entry_before None j.kept) j.later))
      (missing-told (entry_before None (entries_of j))) (restart-told (open_cycles j) (undos_of [] (entry_before None j.kept) j.later) sides))

sides-from : (c : Catalogue) (undos : List MemberChange)
    → ((m : CatalogMember) → Among m c.members → AllByRecursion (IsUndo (HoldsValues (fields_at c m.file))) (of_member m.number undos)) → AllByRecursion (SidesOf c) undos
sides-from c [] held = tt
sides-from c (undo ∷ undos) held = (first, sides-from c undos rest)
  where
    first : SidesOf c undo
    first m among same =
        elim (undo.member == m.number) as (λ b. undo.member == m.number ≡ b
        → AllByRecursion (IsUndo (HoldsValues (fields_at c m.file))) (if b then undo.change ∷ of_member m.number undos else of_member m.number undos)
        → IsUndo (HoldsValues (fields_at c m.file)) undo.change) [
          | true ↦ λ is all. all.0
          | false ↦ λ is all. absurd (let equal : undo.member == m.number ≡ true = eq-eqb undo.member m.number same in cc)
        ] refl (held m among)

    rest : (m : CatalogMember) → Among m c.members → AllByRecursion (IsUndo (HoldsValues (fields_at c m.file))) (of_member m.number undos)
    rest m among =
        elim (undo.member == m.number) as (λ b. AllByRecursion (IsUndo (HoldsValues (fields_at c m.file))) (if b then undo.change ∷ of_member m.number undos else of_member m.number undos)
        → AllByRecursion (IsUndo (HoldsValues (fields_at c m.file))) (of_member m.number undos)) [
          | true ↦ λ all. all.1
          | false ↦ λ all. all
        ] (held m among)

-- ---- the library after its restart

module _ (entries : List Entry) (attached moment : ℕ) (can : CanReplayJournal descriptions (journal_with entries)) where
  abbrev j : Journal
  j = journal_with entries

  abbrev r : Journal
  r = restarted restart_job moment (journal_with entries)

  abbrev files : Named FileState
  files = files_left (λ _. 0) (restarted restart_job moment (journal_with entries))

  abbrev s : State
  s = library_restarted (λ _. 0) attached moment (journal_with entries)

  beginning : Stands empty_catalogue (λ member. start_of (journal_with entries) member) []
  beginning = record { is = empty-is; plain = tt; holds = λ m among. absurd among; fresh = λ number above. (refl, refl); told = tt }

  at-first : Stands (catalogue_of j) (λ member. state_of j member) entries
  at-first = stands-all entries empty_catalogue (λ member. start_of (journal_with entries) member) [] None beginning can.enters can.records can.replays

  stands : Stands (catalogue_of r) (λ member. state_of j member) entries
  stands = subst (λ (c : Catalogue). Stands c (λ member. state_of (journal_with entries) member) entries) (sym (catalogue-restarted restart_job moment j)) at-first

  slots-held : (m : CatalogMember) → Among m (catalogue_of r).members → AllByRecursion (HoldsValues (fields_at (catalogue_of r) m.file)) (state_of r m.number).slots
  slots-held m among =
      subst (λ (slots : List Slot). AllByRecursion (HoldsValues (fields_at (catalogue_of r) m.file)) slots) (sym (restarted-slots restart_job moment j can.replays m.number))
      (undone-holds (HoldsValues (fields_at (catalogue_of r) m.file)) tt (state_of j m.number) (stands.holds m among))

  members-there : (name : List ℕ) (file : FileState) (number : ℕ) → Owns files name file number → IsThere (fields_of file) (member_at number s.members)
  members-there name file number owns =
      let its = left-member (λ _. 0) r (catalogue-is entries attached moment can) name file number owns in
      let among = (found-among (λ (o : CatalogMember). o.number == number) (catalogue_of r).members its.0 its.1).0 in
      subst (λ (o : Option MemberState). IsThere (fields_of file) o) (sym (item-left (λ _. 0) r files (catalogue_of r).members number its.0 its.1)) (record {
        long = ap (λ (n : List ℕ). record_length_in (named n files)) its.2 ∙ ap record_length_in owns.there;
        values = subst (λ (fs : List Field). AllByRecursion (HoldsValues fs) (state_of r its.0.number).slots)
            (ap (fields_at (catalogue_of r)) its.2 ∙ fields-left (λ _. 0) r name file owns.there) (slots-held its.0 among);
      })

  member-limits : (m : CatalogMember) → Among m (catalogue_of r).members
      → IsMember (record { record_length = record_length descriptions (catalogue_of r) m; slots = (state_of j m.number).slots })
  member-limits m among =
      subst (λ (c : Catalogue). IsMember (record { record_length = record_length descriptions c m; slots = (state_of j m.number).slots })) (sym (catalogue-restarted restart_job moment j))
      (can.limits entries [] m (sym (append-none entries))
      (numbered-among (catalogue_of j).members m at-first.is.numbers (subst (λ (c : Catalogue). Among m c.members) (catalogue-restarted restart_job moment j) among)))

  member-within : (m : CatalogMember) → Among m (catalogue_of r).members → IsWithin (member_left files r m).item
  member-within m among =
      let limits = member-limits m among in
      let its = own-file (catalogue_of r) stands.is stands.plain m among in
      let long : length (state_of r m.number).slots ≡ length (state_of j m.number).slots =
      ap (λ (slots : List Slot). length slots) (restarted-slots restart_job moment j can.replays m.number)
      ∙ undone-long (state_of j m.number) (sound-replay (start_of j m.number) (acts_after j m.number) (sound-start _ _) (can.replays m.number)).within in
      let bytes : record_length_in (named m.file files) ≡ record_length descriptions (catalogue_of r) m =
      long-left (λ _. 0) r m.file
      ∙ sym (ap (length_in descriptions (catalogue_of r)) its.there ∙ ap layout.record_length (beside-at (catalogue_of r) m.file its)) in record {
        few = subst (λ (n : ℕ). n ≤ MOST_SLOTS) (sym long) limits.slots;
        small = subst (λ (n : ℕ). n * record_length_in (named m.file files) ≤ MOST_BYTES) (sym long)
            (subst (λ (k : ℕ). length (state_of j m.number).slots * k ≤ MOST_BYTES) (sym bytes) limits.bytes);
      }

  all-within : AreWithin s.members
  all-within =
      each-map (λ (entry : Numbered MemberState). IsWithin entry.item) (member_left files r) (catalogue_of r).members
      (each-of-among (λ (m : CatalogMember). IsWithin (member_left files r m).item) (catalogue_of r).members member-within)

  -- ---- the entries

  undos-are : (member : ℕ) → (state_of j member).undos ≡ of_member member (undos_of [] None entries)
  undos-are member =
      let all = linked entries (λ n. start_of j n) [] None (record { cycles = λ n. refl; undos = λ n. refl; real = tt }) can.replays in all.undos member

  sides : AllByRecursion (SidesOf (catalogue_of r)) (undos_of [] None entries)
  sides =
      sides-from (catalogue_of r) (undos_of [] None entries)
      (λ m among. subst (λ (undos : List Change). AllByRecursion (IsUndo (HoldsValues (fields_at (catalogue_of r) m.file))) undos) (undos-are m.number) (stands.holds m among).undos)

  undos-within : (m : CatalogMember) → Among m (catalogue_of r).members
      → AllByRecursion (λ (change : Change). MayHavePlace (fields_at (catalogue_of r) m.file) (change.place + 1)) (state_of j m.number).undos
  undos-within m among =
      let limits : IsMember (record { record_length = layout.record_length (fields_at (catalogue_of r) m.file); slots = (state_of j m.number).slots }) =
      subst (λ (long : ℕ). IsMember (record { record_length = long; slots = (state_of j m.number).slots })) (long-at (catalogue_of r) stands.is stands.plain m among) (member-limits m among) in
      each-weaker (λ (change : Change). change.place < length (state_of j m.number).slots) (λ (change : Change). MayHavePlace (fields_at (catalogue_of r) m.file) (change.place + 1))
      (λ change low. may-place (fields_at (catalogue_of r) m.file) (state_of j m.number).slots (change.place + 1) (omega arith) (omega (arith, low)) limits) (state_of j m.number).undos
      (sound-replay (start_of j m.number) (acts_after j m.number) (sound-start _ _) (can.replays m.number)).within

  changes-room : AllByRecursion (ChangeHasRoom (catalogue_of r)) (undos_of [] None entries)
  changes-room =
      changes-have-room (catalogue_of r) (undos_of [] None entries) (λ number above. sym (undos-are number) ∙ (stands.fresh number above).1)
      (λ m among. subst (λ (undos : List Change). AllByRecursion (λ (change : Change). MayHavePlace (fields_at (catalogue_of r) m.file) (change.place + 1)) undos)
      (undos-are m.number) (undos-within m among))

  rooms : AllByRecursion (λ (e : Entry). IsTrue (is_placed e)) entries → AllByRecursion (EntryHasRoom (catalogue_of r)) s.entries
  rooms placed =
      each-append (EntryHasRoom (catalogue_of r)) entries (restart_entries restart_job moment j)
      (subst (λ (c : Catalogue). AllByRecursion (EntryHasRoom c) entries) (sym (catalogue-restarted restart_job moment j))
      (rooms-all entries empty_catalogue (λ member. start_of (journal_with entries) member) [] None beginning tt can.enters can.records can.replays can.pairs placed can.limits))
      (restart-has-room (catalogue_of r) restart_job moment j changes-room)

  names-made : (e : Entry) → EntryHasRoom (catalogue_of r) e → IfSome e.member (λ number. number < (catalogue_of r).next_member)
  names-made e room = by e.member refl
    where
      by : (o : Option ℕ) → e.member ≡ o → IfSome o (λ number. number < (catalogue_of r).next_member)
      by None is = tt
      by (Some number) is = room.below number is

  images-told : AllByRecursion (EntryTold (catalogue_of r)) s.entries
  images-told =
      each-append (EntryTold (catalogue_of r)) entries (restart_entries restart_job moment j)
      (each-weaker (IsToldIn (catalogue_of r)) (EntryTold (catalogue_of r)) (λ e it. it.told) entries stands.told)
      (entries-told (catalogue_of r) restart_job moment j sides)

  one-is-told : (e : Entry) → EntryTold (catalogue_of r) e → EntryHasRoom (catalogue_of r) e → IsTold files e
  one-is-told e told room name file number owns names =
      let its = left-member (λ _. 0) r (catalogue-is entries attached moment can) name file number owns in
      let found = found-among (λ (o : CatalogMember). o.number == number) (catalogue_of r).members its.0 its.1 in
      let same = ap (fields_at (catalogue_of r)) its.2 ∙ fields-left (λ _. 0) r name file owns.there in
      let own : e.member ≡ Some its.0.number = names ∙ ap (λ (n : ℕ). Some n) (sym (eqb-true its.0.number number found.1)) in record {
        images = subst (λ (fs : List Field). AllByRecursion (IsRecordOf fs) (images_of e.kind)) same (told its.0 found.0 own);
        place = λ of. subst (λ (fs : List Field). NamesPlace fs e.rrn) same (room.places its.0 found.0 own of);
      }

  all-are-told : (some : List Entry) → AllByRecursion (EntryTold (catalogue_of r)) some → AllByRecursion (EntryHasRoom (catalogue_of r)) some → AllByRecursion (IsTold files) some
  all-are-told [] told have = tt
  all-are-told (e ∷ some) told have = (one-is-told e told.0 have.0, all-are-told some told.1 have.1)

  so-now : (member at : ℕ) → is_some (member_at member s.members) ≡ true → IsSo (known_after at None (acts member None s.entries)) (slot_of (member_of member s.members).slots at)
  so-now member at there =
      subst (λ (slots : List Slot). IsSo (known_after at None (acts_after r member)) (slot_of slots at)) (sym (slots-left (λ _. 0) r files (catalogue_of r).members member there))
      (so-after at (acts_after r member) (start_of r member) None tt)

  -- ---- members that aren't journaled

  own-file-left : (m : CatalogMember) → Among m (catalogue_of r).members → (file : FileState) × (named m.file files ≡ Some (with_members (λ _. 0) r m.file file))
  own-file-left m among =
      let its = own-file (catalogue_of r) stands.is stands.plain m among in
      by (named m.file (described_files (catalogue_of r).files)) its.plain.spec refl (ap (spec_named (described_files (catalogue_of r).files)) (sym its.called) ∙ its.plain.found)
    where
      by : (o : Option FileState) (spec : PhysicalSpec) → named m.file (described_files (catalogue_of r).files) ≡ o → spec_found o ≡ Some spec
          → (file : FileState) × (named m.file files ≡ Some (with_members (λ _. 0) r m.file file))
      by None spec is found = absurd cc
      by (Some base) spec is found = (base, named-files (λ _. 0) r m.file ∙ ap (option_map (with_members (λ _. 0) r m.file)) is)

  images-none : (number : ℕ) (m : CatalogMember) → find (λ (o : CatalogMember). o.number == number) (catalogue_of r).members ≡ Some m → images_kept number (memory_of s) ≡ None → m.images ≡ None
  images-none number m found none =
      let its = own-file-left m (found-among (λ (o : CatalogMember). o.number == number) (catalogue_of r).members m found).0 in
      sym (images-kept (λ _. 0) r (described_files (catalogue_of r).files) number m m.file (with_members (λ _. 0) r m.file its.0) stands.is.numbers found
      (record { there = its.1; has = has-own (λ _. 0) r (catalogue_of r).members number m found })) ∙ none

  silent-now : AreJournaled empty_catalogue entries → (member at : ℕ) → is_some (member_at member s.members) ≡ true → images_kept member (memory_of s) ≡ None
      → known_after at None (acts member None s.entries) ≡ None
  silent-now journaled member at there none =
      let its = there-found (λ _. 0) r files (catalogue_of r).members member there in
      let found = found-among (λ (o : CatalogMember). o.number == member) (catalogue_of r).members its.0 its.1 in
      let among = subst (λ (c : Catalogue). Among its.0 c.members) (catalogue-restarted restart_job moment j) found.0 in
      let quiet = silent-all entries at empty_catalogue (λ n. None) (λ n. start_of (journal_with entries) n) None empty-is tt
      (record { silent = λ m nowhere images. absurd nowhere; fresh = λ n above. record { known = refl; undos = refl } }) can.enters journaled can.replays in
      let nothing = quiet.silent its.0 among (images-none member its.0 its.1 none) in
      subst (λ (n : ℕ). known_after at None (acts n None s.entries) ≡ None) (eqb-true its.0.number member found.1)
      (ap (known_after at None) (acts-append its.0.number None entries (restart_entries restart_job moment j))
      ∙ known_after-append at None (acts its.0.number None entries) (acts its.0.number (entry_before None entries) (restart_entries restart_job moment j))
      ∙ ap (λ (k : Option Slot). known_after at k (acts its.0.number (entry_before None entries) (restart_entries restart_job moment j))) nothing.known
      ∙ restart-known its.0.number restart_job moment at j (entry_before None entries) None (sym (undos-are its.0.number) ∙ nothing.undos))

  pub restarted-sound : AreDeposited entries → library_bytes s.members ≤ MOST_LIBRARY_BYTES → IsSound s
  restarted-sound deposited few = record {
    library = record {
      members = members-there;
      bases = left-based (λ _. 0) r (catalogue-is entries attached moment can);
      opens = tt;
      changes = tt;
      numbers = left-numbers (λ _. 0) r (catalogue-is entries attached moment can);
      keepers = λ k d lt. absurd (omega arith);
      few = few;
    };
    apart = left-apart (λ _. 0) r (catalogue-is entries attached moment can);
    names = left-names (λ _. 0) r (catalogue-is entries attached moment can);
    numbered = numbered-is entries attached moment can;
    formats = left-formats (λ _. 0) r;
    views = left-mapped (λ _. 0) r;
    defaults = left-defaults (λ _. 0) r;
    within = all-within;
    joint = record {
      compatible = λ k d lt. absurd (omega arith);
      locks = tt;
      jobs = λ number job there. absurd cc;
      told = record {
        records = all-are-told s.entries images-told (rooms deposited.placed);
        members = each-weaker (EntryHasRoom (catalogue_of r)) (λ (e : Entry). IfSome e.member (λ number. number < (catalogue_of r).next_member)) names-made s.entries
            (rooms deposited.placed);
      };
    };
    agreed = record {
      chained = λ member at. IsChained-replayed at (acts_after r member) (start_of r member) None tt (restarted-replays restart_job moment j can.replays member);
      told = λ member at there. record { so = so-now member at there; silent = silent-now deposited.journaled member at there };
      committed = tt;
    };
  }

  -- ---- physical files are there

  pub files-left-as : AllByRecursion (λ (file : CatalogFile). file.kind ≡ Physical → IsLeftAs (catalogue_of r).files files file) (catalogue_of r).files
  files-left-as =
      each-of-among (λ (file : CatalogFile). file.kind ≡ Physical → IsLeftAs (catalogue_of r).files files file) (catalogue_of r).files
      (λ file among physical. one file among
      (each-among (λ (f : CatalogFile). f.kind ≡ Physical → IsPlain (described_files (catalogue_of r).files) f) file (catalogue_of r).files stands.plain among physical))
    where
      one : (file : CatalogFile) → Among file (catalogue_of r).files → IsPlain (described_files (catalogue_of r).files) file → IsLeftAs (catalogue_of r).files files file
      one file among plain = by (named file.name (described_files (catalogue_of r).files)) refl plain.found
        where
          by : (o : Option FileState) → named file.name (described_files (catalogue_of r).files) ≡ o → spec_found o ≡ Some plain.spec → IsLeftAs (catalogue_of r).files files file
          by None is found = absurd cc
          by (Some base) is found =
              let there : named file.name files ≡ Some (with_members (λ _. 0) r file.name base) = named-files (λ _. 0) r file.name ∙ ap (option_map (with_members (λ _. 0) r file.name)) is in
              let it = left-file (λ _. 0) r file.name (with_members (λ _. 0) r file.name base) there in
              let same : it.from ≡ file = some-equal
              (sym (ap (λ (n : List ℕ). find (is_named n) (catalogue_of r).files) (sym it.called) ∙ find-among it.from (catalogue_of r).files stands.is.names it.among)
              ∙ find-among file (catalogue_of r).files stands.is.names among) in record {
                state = with_members (λ _. 0) r file.name base;
                there = there;
                source = it.source ∙ ap (λ (f : CatalogFile). f.source) same;
                physical = subst (λ (s : FileSpec). IsPhysical s) (sym (physical-is base.spec plain.spec found)) tt;
                fields = beside-at (catalogue_of r) file.name (record { file = file; there = find-among file (catalogue_of r).files stands.is.names among; plain = plain; called = refl })
                    ∙ fields-left (λ _. 0) r file.name (with_members (λ _. 0) r file.name base) there;
              }
