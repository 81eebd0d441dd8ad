-- What the requests on files, members and the journal leave of the keys.
use Rattle.std.proofs.Common.{◌≡◌, ◌⊎◌, inl, inr, ◌∙◌, ℕ, ◌+◌, ◌==◌, nat_le, if◌then◌else◌, cond, not, true, false, List, [], ◌∷◌, ◌++◌, length, slice_get, Option, Some, None, is_some, unwrap_or, subst, refl, sym, ap}
use Rattle.std.specs.List.{list_any}
use Rattle.std.proofs.lemmas.Bool.{true≢false, cases_eq}
use Rattle.entry_codec.specs.declared.entries.Entry.{Entry}
use Rattle.entry_codec.specs.declared.kinds.EntryKind.{EntryKind}
use Rattle.entry_codec.specs.declared.kinds.EntryKind.TheVariants.{MemberCleared, MemberReorganized}
use Rattle.member_slots.specs.declared.slot.Slot.{Slot}
use Rattle.member_slots.specs.declared.slot.Slot.TheVariants.{Deleted}
use Rattle.member_slots.specs.Member.{MemberState, empty_member, cleared, records, reorganized}
use Rattle.member_slots.specs.Members.{NumberedMembers, item_at, member_of, put_member, without_item, without_member}
use Rattle.record_fmt.specs.Layout.{record_length}
use Rattle.file_model.specs.declared.paths.PathFormat.{PathFormat}
use Rattle.journal_model.specs.Places.{slot_of}
use Rattle.logical_model.specs.Bases.{Bases, base_members}
use Rattle.logical_model.specs.FilePaths.{logical_paths}
use Rattle.library_model.specs.Named.{Named, same_name}
use Rattle.library_model.specs.SourceList.{text_of}
use Rattle.library_model.specs.declared.limits.TheConstants.{MOST_FILES}
use Rattle.library_model.specs.declared.replies.LimitKind.TheVariants.{Files, Paths}
use Rattle.library_model.specs.declared.replies.Reply.TheVariants.{Dependents, DuplicateKey, InUse, LimitReached, NameExists, NotJournaled}
use Rattle.library_model.specs.declared.requests.CreateLogicalFile.{CreateLogicalFile}
use Rattle.library_model.specs.declared.requests.CreatePhysicalFile.{CreatePhysicalFile}
use Rattle.library_model.specs.declared.requests.DeleteFile.{DeleteFile}
use Rattle.library_model.specs.declared.requests.DeleteReceiver.{DeleteReceiver}
use Rattle.library_model.specs.declared.requests.DisplayJournal.{DisplayJournal}
use Rattle.library_model.specs.declared.requests.FileMember.{FileMember}
use Rattle.library_model.specs.declared.requests.StartJournaling.{StartJournaling}
use Rattle.library_model.specs.declared.sources.NamedSource.{NamedSource}
use Rattle.library_steps.specs.declared.limits.TheConstants.{MOST_PATHS}
use Rattle.library_steps.specs.State.{State, Memory, FileState, MemberStatus, memory_of, fields_of, file_named}
use Rattle.library_steps.specs.Checkpoint.{save}
use Rattle.library_steps.specs.CreateLogicalFile.{NewLogical, create_logical_change, create_logical_file, create_logical_plan, first_repeated as own_repeated, first_undone, has_many, is_unique, logical_described, logical_file, logical_or_refused}
use Rattle.library_steps.specs.CreatePhysicalFile.{create_change, create_physical_file, create_plan, new_file, new_status}
use Rattle.library_steps.specs.DeleteFile.{delete_change, delete_file, delete_plan, first_dependent, user_by, without_members}
use Rattle.library_steps.specs.Journaling.{end_change, end_journaling, journaled_from, no_longer_journaled, start_change, start_journaling}
use Rattle.library_steps.specs.JournalReads.{display_journal}
use Rattle.library_steps.specs.LogicalFiles.{bases_in, bases_of}
use Rattle.library_steps.specs.MemberCommands.{add_member, add_plan, clear_member, empty_plan, file_changed, reorganize_member, renumbered, renumbering, with_member_name}
use Rattle.library_steps.specs.Receivers.{change_journal, delete_receiver}
use Rattle.library_steps.specs.Refusals.{named_or_refused, refuse_if, refuse_with, sequences_left}
use Rattle.library_steps.specs.UniqueKeys.{has_member}
use Rattle.library_steps.specs.Uses.{changer_of_any, unused, user_of}
use Rattle.lawful_states.proofs.MemberLemmas.{item_at-put_item_other, item_at-put_item_same, item_at-without_item_other}
use Rattle.joint_state.specs.Sound.{IsSound}
use Rattle.key_state.proofs.FormatLemmas.{IsOver, IsViewFormat, has-append, over-append, over-filter, over-map}
use Rattle.key_state.proofs.KeyLemmas.{unique-reorganized}
use Rattle.key_state.proofs.ListLemmas.{IsIn}
use Rattle.key_state.proofs.PathLemmas.{unique-own}
use Rattle.key_state.proofs.TestedLemmas.{path-unique}
use Rattle.key_state.proofs.UniqueLemmas.{unique-same}
use Rattle.cycles_kept.proofs.FileSteps.{empty-unused}
use Rattle.cycles_kept.proofs.HoldLemmas.{Holds, bind-holds, does-holds, effect-holds, then-holds, wider-holds, with-none}
use Rattle.cycles_kept.proofs.PlaceLemmas.{record_at, slot_of-get}
use Rattle.keys_kept.proofs.BaseLemmas.{all-before, bases-logical, bases-member, file-before, over-status, without-before}
use Rattle.keys_kept.proofs.EffectLemmas.{FormatStays, quiet-stands, slots_for}
use Rattle.keys_kept.proofs.QuietLemmas.{AreUniqueSlots, KeysStay, KeysStayIn, changes-same, empty-stays, files-stay, member-stays, unchanged-untouched}
use Rattle.keys_kept.proofs.StateLemmas.{HasPlaces, keys-back, slot_in}

-- the slot at a place, by what stands there
slot-same : (member place : ℕ) (members later : NumberedMembers) → record_at member place later ≡ record_at member place members → slot_in later member place ≡ slot_in members member place
slot-same member place members later same =
    slot_of-get (member_of member later).slots place ∙ ap (λ (o : Option Slot). unwrap_or o Deleted) same ∙ sym (slot_of-get (member_of member members).slots place)

-- ---- CRTPF and ADDPFM

-- a member more, which has no slots; the unique paths are those that were, and some over it
new-stays : (s : State) (new : Memory) (long : ℕ) → new.jobs ≡ s.jobs → new.members ≡ put_member s.next_member (empty_member long) s.members
    → ((format : PathFormat) → IsOver new.files format → IsOver s.files format ⊎ (format.member ≡ s.next_member)) → KeysStayIn s new
new-stays s new long jobs members files has places stand =
    quiet-stands (memory_of s) new has places stand (record {
      changes = changes-same s new jobs;
      formats = λ format over. elim (files format over) [
        | inl old ↦ by format old
        | inr fresh_one ↦ fresh format fresh_one
      ];
    })
  where
    fresh : (format : PathFormat) → format.member ≡ s.next_member → FormatStays (memory_of s) new format
    fresh format is =
        empty-stays (memory_of s) new format places
        (λ place. (λ i. record_at (is i) place (members i))
        ∙ ap (λ (o : Option MemberState). slice_get (unwrap_or o (empty_member 0)).slots place) (item_at-put_item_same s.next_member (empty_member long) s.members))

    by : (format : PathFormat) → IsOver s.files format → FormatStays (memory_of s) new format
    by format over =
        elim (cases_eq format.member s.next_member) [
          | inl is ↦ fresh format is
          | inr differ ↦ inl (
            over,
            λ place. slot-same format.member place s.members new.members
                (ap (record_at format.member place) members
                ∙ ap (λ (o : Option MemberState). slice_get (unwrap_or o (empty_member 0)).slots place) (item_at-put_item_other format.member s.next_member (empty_member long) s.members differ)),
          )
        ]

one-member : (name : List ℕ) (member number : ℕ) → has_member number ((name, new_status member) ∷ []) ≡ true → number ≡ member
one-member name member number has =
    elim (has-append number [] (name, new_status member) has) [
      | inl none ↦ absurd (true≢false (sym none))
      | inr same ↦ same
    ]

pub create-keys : (s : State) (sources : List NamedSource) (job timestamp : ℕ) (sound : IsSound s) (args : CreatePhysicalFile)
    → Holds (create_physical_file sources (memory_of s) job timestamp args) (KeysStay s)
create-keys s sources job timestamp sound args =
    effect-holds (create_change (memory_of s) job timestamp args) (create_plan sources (memory_of s) args) (KeysStay s)
    (λ plan. new-stays s _ (record_length (fields_of (new_file args.file s.next_member plan))) refl refl (λ format over.
    elim (over-append s.files (args.file, new_file args.file s.next_member plan) format
    (file-before s.files (args.file, new_file args.file s.next_member plan) sound.library.bases sound.names) over) [
      | inl old ↦ inl old
      | inr its ↦ inr (one-member args.file s.next_member format.member its.has)
    ]))

named-member : (name member : List ℕ) (number : ℕ) (entry : List ℕ × FileState) (other : ℕ)
    → has_member other (if same_name name entry.0 then with_member_name member number entry.1 else entry.1).members ≡ true → (has_member other entry.1.members ≡ true) ⊎ (other ≡ number)
named-member name member number entry other has =
    elim (same_name name entry.0) as
    (λ b. has_member other (if b then with_member_name member number entry.1 else entry.1).members ≡ true → (has_member other entry.1.members ≡ true) ⊎ (other ≡ number)) [
      | true ↦ λ h. has-append other entry.1.members (member, new_status number) h
      | false ↦ λ h. inl h
    ] has

named-spec : (name member : List ℕ) (number : ℕ) (entry : List ℕ × FileState) → (if same_name name entry.0 then with_member_name member number entry.1 else entry.1).spec ≡ entry.1.spec
named-spec name member number entry =
    elim (same_name name entry.0) as (λ b. (if b then with_member_name member number entry.1 else entry.1).spec ≡ entry.1.spec) [
      | true ↦ refl
      | false ↦ refl
    ]

pub add_member-keys : (s : State) (job timestamp : ℕ) (sound : IsSound s) (args : FileMember) → Holds (add_member (memory_of s) job timestamp args) (KeysStay s)
add_member-keys s job timestamp sound args =
    effect-holds _ (add_plan (memory_of s) args) (KeysStay s)
    (λ (file : FileState). new-stays s _ (record_length (fields_of file)) refl refl
    (λ format over. over-map (λ (entry : List ℕ × FileState). (entry.0, if same_name args.file entry.0 then with_member_name args.member s.next_member entry.1 else entry.1))
    (λ (n : ℕ). n ≡ s.next_member) s.files format
    (λ entry. all-before (bases_in (file_changed args.file (with_member_name args.member s.next_member) s.files)) (bases_in s.files)
    (bases-member args.file args.member s.next_member s.files sound.library.bases) entry.1.spec)
    (named-spec args.file args.member s.next_member) (named-member args.file args.member s.next_member) over))

-- ---- CRTLF

-- what may be made: no open commit cycle has changed its base members, and its own path has no equal keys
record MayStand (m : Memory) (plan : NewLogical) : Type 0 where
  unchanged : changer_of_any (base_members (bases_of m) plan.spec) m ≡ None
  unrepeated : own_repeated (logical_paths (bases_of m) plan.spec) m ≡ None

logical-may : (sources : List NamedSource) (m : Memory) (args : CreateLogicalFile) → Holds (create_logical_plan sources m args) (MayStand m)
unfolding create_logical_plan
logical-may sources m args =
    then-holds (sequences_left m) _ _ (λ few.
    then-holds (refuse_if (is_some (file_named args.file m)) (NameExists args.file)) _ _ (λ named_new.
    then-holds (refuse_if (nat_le MOST_FILES (length m.files)) (LimitReached Files MOST_FILES)) _ _ (λ room.
    then-holds (named_or_refused args.source (text_of sources args.source)) _ _ (λ text.
    then-holds (logical_or_refused (logical_described m text)) _ _ (λ spec.
    then-holds (refuse_if (list_any (has_many (logical_paths (bases_of m) spec) m) (base_members (bases_of m) spec)) (LimitReached Paths MOST_PATHS)) _ _ (λ paths.
    bind-holds (unused (changer_of_any (base_members (bases_of m) spec) m)) (λ ok. changer_of_any (base_members (bases_of m) spec) m ≡ None) _ _
    (with-none InUse (changer_of_any (base_members (bases_of m) spec) m)) (λ free unchanged.
    then-holds (refuse_with NotJournaled (if is_unique (logical_paths (bases_of m) spec) then first_undone m (base_members (bases_of m) spec) else None)) _ _ (λ done.
    bind-holds (refuse_with (DuplicateKey args.file) (own_repeated (logical_paths (bases_of m) spec) m)) (λ ok. own_repeated (logical_paths (bases_of m) spec) m ≡ None) _ _
    (with-none (DuplicateKey args.file) (own_repeated (logical_paths (bases_of m) spec) m)) (λ apart unrepeated.
    record { holds = record { unchanged = unchanged; unrepeated = unrepeated } })))))))))

module _ (s : State) (job timestamp : ℕ) (args : CreateLogicalFile) (plan : NewLogical) (may : MayStand (memory_of s) plan) where
  abbrev made : Memory
  made = (create_logical_change (memory_of s) job timestamp args plan).memory

  -- a format of its own unique path
  view-stays : (format : PathFormat) → IsViewFormat (bases_in s.files) plan.spec format → FormatStays (memory_of s) made format
  view-stays format its =
      let own = unique-own (bases_in s.files) plan.spec its.path its.among its.unique in
      let lists : own.format ∷ [] ≡ format ∷ [] = sym own.alone ∙ its.alone in
      let same : own.format ≡ format = cc in
      inr (
        unchanged-untouched s (base_members (bases_in s.files) plan.spec) format.member may.unchanged
            (subst (λ (f : PathFormat). IsIn f.member (base_members (bases_in s.files) plan.spec)) same own.over),
        path-unique (memory_of s) (record { file = args.file; path = its.path }) format its.alone its.unique (sym (own.repeated (memory_of s)) ∙ may.unrepeated),
      )

  logical-stays : KeysStay s (create_logical_change (memory_of s) job timestamp args plan)
  logical-stays has places stand =
      quiet-stands (memory_of s) made has places stand (record {
        changes = λ other. inl refl;
        formats = λ format over. elim (over-append s.files (args.file, logical_file plan) format
            (λ entry its. all-before (bases_in (s.files ++ (args.file, logical_file plan) ∷ [])) (bases_in s.files) same entry.1.spec) over) [
              | inl old ↦ inl (old, λ place. refl)
              | inr its ↦ view-stays format (subst (λ (bases : Bases). IsViewFormat bases plan.spec format) (λ i name. same name i) its)
            ];
      })
    where
      same : (name : List ℕ) → bases_in (s.files ++ (args.file, logical_file plan) ∷ []) name ≡ bases_in s.files name
      same = bases-logical args.file (logical_file plan) refl s.files

pub create_logical-keys : (s : State) (sources : List NamedSource) (job timestamp : ℕ) (args : CreateLogicalFile)
    → Holds (create_logical_file sources (memory_of s) job timestamp args) (KeysStay s)
create_logical-keys s sources job timestamp args =
    does-holds (create_logical_change (memory_of s) job timestamp args) (create_logical_plan sources (memory_of s) args) (KeysStay s)
    (wider-holds (create_logical_plan sources (memory_of s) args) (MayStand (memory_of s)) _ (λ plan may. logical-stays s job timestamp args plan may)
    (logical-may sources (memory_of s) args))

-- ---- DLTF

without-same : (number : ℕ) (members : NumberedMembers) → item_at number (without_item number members) ≡ None
without-same number [] = refl
without-same number (entry ∷ members) =
    elim (entry.number == number) as
    (λ b. (entry.number == number) ≡ b → item_at number (cond (not b) (entry ∷ without_item number members) (without_item number members)) ≡ None) [
      | true ↦ λ e. without-same number members
      | false ↦ λ e. ap (λ b. if b then Some entry.item else item_at number (without_item number members)) e ∙ without-same number members
    ] refl

gone_or_same : (statuses : Named MemberStatus) (members : NumberedMembers) (member : ℕ)
    → ((place : ℕ) → record_at member place (without_members statuses members) ≡ None) ⊎ ((place : ℕ) → record_at member place (without_members statuses members) ≡ record_at member place members)
gone_or_same [] members member = inr (λ place. refl)
gone_or_same (entry ∷ others) members member =
    elim (gone_or_same others (without_member entry.1.number members) member) [
      | inl none ↦ inl none
      | inr same ↦ elim (cases_eq member entry.1.number) [
        | inl is ↦ inl (λ place. same place ∙ ap (λ (n : ℕ). record_at n place (without_member entry.1.number members)) is
            ∙ ap (λ (o : Option MemberState). slice_get (unwrap_or o (empty_member 0)).slots place) (without-same entry.1.number members))
        | inr differ ↦ inr (λ place. same place
            ∙ ap (λ (o : Option MemberState). slice_get (unwrap_or o (empty_member 0)).slots place) (item_at-without_item_other member entry.1.number members differ))
      ]
    ]

-- no file stands over it
delete-none : (m : Memory) (args : DeleteFile) → Holds (delete_plan m args) (λ file. first_dependent args.file m.files ≡ None)
unfolding delete_plan
delete-none m args =
    then-holds (sequences_left m) _ _ (λ few.
    then-holds (named_or_refused args.file (file_named args.file m)) _ _ (λ file.
    bind-holds (refuse_with Dependents (first_dependent args.file m.files)) (λ ok. first_dependent args.file m.files ≡ None) _ _
    (with-none Dependents (first_dependent args.file m.files)) (λ ok none.
    then-holds (unused (user_by file.spec args.file file m)) _ _ (λ free. record { holds = none }))))

pub delete_file-keys : (s : State) (job timestamp : ℕ) (args : DeleteFile) → Holds (delete_file (memory_of s) job timestamp args) (KeysStay s)
delete_file-keys s job timestamp args =
    does-holds (delete_change (memory_of s) job timestamp args) (delete_plan (memory_of s) args) (KeysStay s)
    (wider-holds (delete_plan (memory_of s) args) (λ (file : FileState). first_dependent args.file s.files ≡ None) _
    (λ file none has places stand.
    quiet-stands (memory_of s) (delete_change (memory_of s) job timestamp args file).memory has places stand (record {
      changes = λ other. inl refl;
      formats = λ format over. by file places format
          (over-filter (λ (entry : List ℕ × FileState). not (same_name args.file entry.0)) s.files format (without-before args.file s.files none) over);
    })) (delete-none (memory_of s) args))
  where
    by : (file : FileState) → HasPlaces (delete_change (memory_of s) job timestamp args file).memory → (format : PathFormat) → IsOver s.files format
        → FormatStays (memory_of s) (delete_change (memory_of s) job timestamp args file).memory format
    by file places format over =
        elim (gone_or_same file.members s.members format.member) [
          | inl none ↦ empty-stays (memory_of s) (delete_change (memory_of s) job timestamp args file).memory format places none
          | inr same ↦ inl (over, λ place. slot-same format.member place s.members (without_members file.members s.members) (same place))
        ]

-- ---- CLRPFM and RGZPFM

renumbered-number : (sequence : ℕ) (status : MemberStatus) → (renumbered sequence status).number ≡ status.number
renumbered-number sequence status =
    elim (is_some status.images) as (λ b. (if b then record status { last_break = sequence } else record status { changed = true }).number ≡ status.number) [
      | true ↦ refl
      | false ↦ refl
    ]

module _ (s : State) (job timestamp : ℕ) (args : FileMember) where
  renumbering-keys : (kind : EntryKind) (change : MemberState → MemberState) → ((number : ℕ) → AreUniqueSlots s number (change (member_of number s.members)))
      → Holds (empty_plan (memory_of s) args) (λ status. KeysStay s (renumbering (memory_of s) job timestamp kind change status))
  renumbering-keys kind change unique =
      wider-holds (empty_plan (memory_of s) args) (λ (status : MemberStatus). user_of status.number (memory_of s) ≡ None) _
      (λ status none. member-stays s _ status.number (change (member_of status.number s.members)) none refl
      (λ format over. over-status status.number (renumbered ((memory_of s).last_entry + 1)) s.files format (renumbered-number ((memory_of s).last_entry + 1)) over) refl (unique status.number))
      (empty-unused (memory_of s) args)

  pub clear_member-keys : Holds (clear_member (memory_of s) job timestamp args) (KeysStay s)
  clear_member-keys =
      does-holds (renumbering (memory_of s) job timestamp MemberCleared cleared) (empty_plan (memory_of s) args) (KeysStay s)
      (renumbering-keys MemberCleared cleared (λ number has stand format over is key place other first second. absurd (true≢false (sym first))))

  pub reorganize_member-keys : Holds (reorganize_member (memory_of s) job timestamp args) (KeysStay s)
  reorganize_member-keys =
      does-holds (renumbering (memory_of s) job timestamp MemberReorganized reorganized) (empty_plan (memory_of s) args) (KeysStay s)
      (renumbering-keys MemberReorganized reorganized
      (λ number has stand format over is.
      unique-reorganized format (member_of number s.members).slots
      (unique-same format (slots_for (memory_of s) format) (λ place. slot_of (member_of number s.members).slots place) (λ place. sym (ap (λ (n : ℕ). slot_in s.members n place) is))
      (keys-back (memory_of s) has stand format over 0 0))))

-- ---- no member at all

pub start_journaling-keys : (s : State) (job timestamp : ℕ) (args : StartJournaling) → Holds (start_journaling (memory_of s) job timestamp args) (KeysStay s)
start_journaling-keys s job timestamp args =
    effect-holds (start_change (memory_of s) job timestamp args) _ (KeysStay s)
    (λ status. files-stay s _ refl
    (λ format over. over-status status.number (journaled_from ((memory_of s).last_entry + 1) args.images) s.files format (λ old. refl) over) refl)

pub end_journaling-keys : (s : State) (job timestamp : ℕ) (args : FileMember) → Holds (end_journaling (memory_of s) job timestamp args) (KeysStay s)
end_journaling-keys s job timestamp args =
    effect-holds (end_change (memory_of s) job timestamp) _ (KeysStay s)
    (λ status. files-stay s _ refl
    (λ format over. over-status status.number (no_longer_journaled ((memory_of s).last_entry + 1) (length (records (member_of status.number s.members)))) s.files format (λ old. refl) over) refl)

pub change_journal-keys : (s : State) (job timestamp : ℕ) → Holds (change_journal (memory_of s) job timestamp) (KeysStay s)
change_journal-keys s job timestamp = effect-holds _ _ (KeysStay s) (λ number. files-stay s _ refl (λ format over. over) refl)

pub delete_receiver-keys : (s : State) (read : List Entry) (args : DeleteReceiver) → Holds (delete_receiver read (memory_of s) args) (KeysStay s)
delete_receiver-keys s read args = effect-holds _ _ (KeysStay s) (λ last. files-stay s _ refl (λ format over. over) refl)

pub save-keys : (s : State) → Holds (save (memory_of s)) (KeysStay s)
save-keys s = effect-holds _ _ (KeysStay s) (λ sequence. files-stay s _ refl (λ format over. over) refl)

pub display_journal-keys : (s : State) (read : List Entry) (args : DisplayJournal) → Holds (display_journal read (memory_of s) args) (KeysStay s)
display_journal-keys s read args = effect-holds _ _ (KeysStay s) (λ shown. files-stay s _ refl (λ format over. over) refl)
