-- What an open reads is there, and what it finds is a record that stands in its member.
use Rattle.std.proofs.Common.{◌≡◌, ℕ, suc, ◌+◌, ◌-◌, ◌≤◌, ◌==◌, ◌&&◌, nat_lt, Bool, true, false, List, [], ◌∷◌, ◌++◌, length, map, Option, Some, None, is_some, IsSome, IfSome, slice_get, refl, ◌<◌, zero, sym, ap, subst, ◌∙◌, arith}
use Rattle.parts_model.proofs.IndexFiles.{own-members}
use Rattle.library_steps.specs.Reads.{at_format}
use Rattle.std.specs.Prelude.{All, filter, unwrap_or}
use Rattle.std.specs.Option.{option_map}
use Rattle.std.specs.List.{AllByRecursion}
use Rattle.std.proofs.lemmas.Bool.{cond_both}
use Rattle.std.proofs.lemmas.Bool.Decides.{nat_tests}
use Rattle.std.proofs.lemmas.List.Elements.{All-from_recursion, recursion_from_All}
use Rattle.key_spec.specs.declared.KeyPart.{KeyPart}
use Rattle.key_spec.specs.declared.KeyPart.TheVariants as parts
use Rattle.key_spec.specs.declared.Ties.{Ties}
use Rattle.key_spec.specs.declared.Ties.TheVariants.{Rising}
use Rattle.record_fmt.specs.declared.formats.Field.{Field}
use Rattle.member_slots.specs.declared.slot.Slot.{Slot}
use Rattle.member_slots.specs.declared.slot.Slot.TheVariants.{Live, Deleted}
use Rattle.member_slots.specs.Member.{IsMember, MemberState, empty_member, records_from, slot_at}
use Rattle.member_slots.specs.Members.{AreMembers, Numbered, NumberedMembers, member_at, member_of}
use Rattle.library_steps.below.dds_physical.specs.declared.physical_files.PhysicalSpec.{PhysicalSpec}
use Rattle.file_model.specs.declared.paths.PathFormat.{PathFormat}
use Rattle.file_model.specs.declared.paths.PathSpec.{PathSpec}
use Rattle.file_model.specs.FilePaths.{every_record, key_parts, own_fields, path_format, physical_path}
use Rattle.file_model.specs.KeyOrder.{merged_parts}
use Rattle.file_model.specs.Paths as paths
use Rattle.file_model.specs.Paths.{PathEntry, compare_entries, entries_of, selected_of, path}
use Rattle.file_model.specs.Positions.{Position, Reading, arrival_entry, arrival_reading, path_reading}
use Rattle.file_model.specs.Selection.{selects}
use Rattle.file_model.proofs.PathLemmas.{all-map, all-append}
use Rattle.access_path.specs.PathBytes.{IsInBytes}
use Rattle.access_path.proofs.OrderedLemmas.{all-in_order}
use Rattle.library_steps.below.dds_logical.specs.declared.views.LogicalSpec.TheVariants.{Simple, Multi, Join}
use Rattle.library_steps.below.dds_logical.specs.declared.views.View.{View}
use Rattle.library_steps.specs.Bases.{Bases, FileSpec, PhysicalFile, LogicalFile, base_members, base_names}
use Rattle.library_steps.specs.FilePaths.{view_format, views_path}
use Rattle.library_steps.specs.Formats.{has_key, format_names}
use Rattle.library_steps.specs.Readings.{reading_in}
use Rattle.access_path.specs.KeyFields.{key_width}
use Rattle.key_pages.specs.EntryList.{EntryList}
use Rattle.job_table.specs.PositionBytes.{HasKeysWithin}
use Rattle.job_table.specs.Reading.{AreNumbered}
use Rattle.job_table.proofs.KeylessLemmas.{keyless}
use Rattle.view_records.specs.KeyedViews.{HaveRecords}
use Rattle.view_records.proofs.ViewLemmas.{keys-short, paths-bytes}
use Rattle.file_catalogue.specs.KeyedFiles.{IsKeyed, HasRecordsOf}
use Rattle.file_catalogue.proofs.RecordLemmas.{keys-within, path-bytes}
use Rattle.lawful_states.specs.Physical.{IsPhysical}
use Rattle.lawful_states.proofs.NameLemmas.{some-equal}
use Rattle.job_table.below.file_cursor.specs.declared.places.Hit.{Hit}
use Rattle.job_table.specs.CursorPosition.{entry_of}
use Rattle.open_position.specs.declared.reads.ReadBy.{ReadBy}
use Rattle.open_position.specs.OpenStand.{HasNoKey, IsEntryIn}
use Rattle.open_position.specs.Reads.{IsPathOver, asked_of, entry_hit}
use Rattle.open_position.proofs.HeldLemmas.{asked-holds}
use Rattle.path_set.specs.declared.moves.PathMove.{PathMove}
use Rattle.path_set.specs.KeptPaths.{KeptPaths, NumberedPaths, AreShared}
use Rattle.path_set.specs.RebuiltPaths.{HaveRooms}
use Rattle.job_table.specs.Opens.{OpenOrder}
use Rattle.library_model.specs.Named.{Named, named}
use Rattle.library_paths.specs.AllPaths.{all_paths}
use Rattle.library_steps.specs.LogicalFiles.{bases_in, bases_of}
use Rattle.library_steps.specs.Opens.{first_of}
use Rattle.library_steps.specs.Records.{is_file_path, is_keyed, live_record, reading_of, record_in}
use Rattle.library_steps.specs.State.{State, Memory, FileState, OpenState, fields_of, format_in, memory_of, physical_among}
use Rattle.parts_model.specs.Finds.{ReadsMember}
use Rattle.parts_model.specs.Indexed.{IsByArrival, IsReadSo, IsUnjoined, IsView, IsViewBeside, ReadsBy, path_by, path_read, IsIndexed}
use Rattle.parts_model.specs.Keyed.{AllAreKeyed}
use Rattle.lawful_states.specs.Lawful.{IsBased, IsLibrary, IsThere, StandsOver, OpensBy, OpensFile, OpenHolds}
use Rattle.parts_model.specs.Reads.{ReadsAmong, formats_by, has_positions, formats_read}
use Rattle.lawful_states.proofs.FindLemmas.{HasBase, has-base, physical-opened}
use Rattle.parts_model.proofs.FindLemmas.{view-of, members-many}
use Rattle.parts_model.proofs.OpenLooks.{IsReadBy, member-is, reads-keyed, reads-path, records-there, HasOneFormat, formats-are, formats-of-views}

-- ---- the records that stand

abbrev pub IsLive : (member : ℕ) → Memory → PathEntry → Type 0
IsLive member m entry = is_some (live_record member entry.rrn m) ≡ true

all-weaker : {A : Type 0} (P Q : A → Type 0) (xs : List A) → ((x : A) → P x → Q x) → AllByRecursion P xs → AllByRecursion Q xs
all-weaker P Q [] so all = tt
all-weaker P Q (x ∷ xs) so all = (so x all.0, all-weaker P Q xs so all.1)

all-filter : {A : Type 0} (P : A → Type 0) (test : A → Bool) (xs : List A) → AllByRecursion P xs → AllByRecursion P (filter test xs)
all-filter P test [] all = tt
all-filter P test (x ∷ xs) all =
    let rest = all-filter P test xs all.1 in
    cond_both (test x) (x ∷ filter test xs) (filter test xs) (AllByRecursion P) (λ _. (all.0, rest)) (λ _. rest)

-- the slot of this number, where the first has that one
abbrev StandsFrom : ℕ → List Slot → ℕ → Type 0
StandsFrom first slots rrn = (first ≤ rrn) × IsSome (record_in (slice_get slots (rrn - first)))

stands-behind : (first rrn : ℕ) (slot : Slot) (slots : List Slot) → StandsFrom (first + 1) slots rrn → StandsFrom first (slot ∷ slots) rrn
stands-behind first rrn slot slots stands =
    let above : first + 1 ≤ rrn = stands.0 in
    let place : (rrn - first) ≡ suc (rrn - (first + 1)) = omega (arith, above) in
    (omega (arith, above), subst (λ n. IsSome (record_in (slice_get (slot ∷ slots) n))) (sym place) stands.1)

records-stand : (first : ℕ) (slots : List Slot) → AllByRecursion (λ pair. StandsFrom first slots pair.0) (records_from first slots)
records-stand first [] = tt
records-stand first (Live image ∷ slots) =
    let here : (first - first) ≡ 0 = omega arith in (
      (omega arith, subst (λ n. IsSome (record_in (slice_get (Live image ∷ slots) n))) (sym here) refl),
      all-weaker (λ (pair : ℕ × List ℕ). StandsFrom (first + 1) slots pair.0) (λ pair. StandsFrom first (Live image ∷ slots) pair.0) (records_from (first + 1) slots)
          (λ pair stands. stands-behind first pair.0 (Live image) slots stands) (records-stand (first + 1) slots),
    )
records-stand first (Deleted ∷ slots) =
    all-weaker (λ (pair : ℕ × List ℕ). StandsFrom (first + 1) slots pair.0) (λ pair. StandsFrom first (Deleted ∷ slots) pair.0) (records_from (first + 1) slots)
    (λ pair stands. stands-behind first pair.0 Deleted slots stands) (records-stand (first + 1) slots)

stands-at : (member : MemberState) (rrn : ℕ) → StandsFrom 1 member.slots rrn → IsSome (record_in (slot_at member rrn))
stands-at member rrn stands =
    let first : 1 ≤ rrn = stands.0 in
    let some : (rrn == 0) ≡ false = grind (arith, nat_tests, first) in
    rw some stands.1

records-live : (member : ℕ) (m : Memory) → AllByRecursion (λ pair. is_some (live_record member pair.0 m) ≡ true) (records_from 1 (member_of member m.members).slots)
records-live member m =
    all-weaker (λ (pair : ℕ × List ℕ). StandsFrom 1 (member_of member m.members).slots pair.0) (λ pair. is_some (live_record member pair.0 m) ≡ true)
    (records_from 1 (member_of member m.members).slots)
    (λ pair stands. stands-at (member_of member m.members) pair.0 stands) (records-stand 1 (member_of member m.members).slots)

-- an entry is of one of the formats, and the record stands in its member
pub record IsLiveIn (formats : List PathFormat) (m : Memory) (entry : PathEntry) : Type 0 where
  pub format : PathFormat
  pub at : slice_get formats entry.format ≡ Some format
  pub live : IsLive format.member m entry

-- the entries of the formats from this number on, which stand among all
entries-live : (whole : List PathFormat) (m : Memory) (number : ℕ) (formats : List PathFormat) → ((i : ℕ) (format : PathFormat) → slice_get formats i ≡ Some format → slice_get whole (number + i) ≡ Some format)
    → AllByRecursion (IsLiveIn whole m) (paths.entries_from number formats m.members)
entries-live whole m number [] among = tt
entries-live whole m number (format ∷ formats) among =
    let here : slice_get whole number ≡ Some format = (let e : number + 0 ≡ number = omega arith in ap (λ (n : ℕ). slice_get whole n) (sym e) ∙ among 0 format refl) in
    all-append (IsLiveIn whole m) (entries_of number format m.members) (paths.entries_from (number + 1) formats m.members)
    (all-map (IsLiveIn whole m) (paths.entry_of number format) (selected_of format (member_of format.member m.members).slots)
    (all-weaker (λ (pair : ℕ × List ℕ). is_some (live_record format.member pair.0 m) ≡ true) (λ pair. IsLiveIn whole m (paths.entry_of number format pair))
    (selected_of format (member_of format.member m.members).slots) (λ pair live. record { format = format; at = here; live = live })
    (all-filter (λ (pair : ℕ × List ℕ). is_some (live_record format.member pair.0 m) ≡ true) (λ pair. selects format.rules pair.1)
    (records_from 1 (member_of format.member m.members).slots) (records-live format.member m))))
    (entries-live whole m (number + 1) formats
    (λ i other at. (let e : number + 1 + i ≡ number + suc i = omega arith in ap (λ (n : ℕ). slice_get whole n) e ∙ among (suc i) other at)))

path-live : (spec : PathSpec) (m : Memory) → AllByRecursion (IsLiveIn spec.formats m) (path spec m.members)
path-live spec m =
    all-in_order (compare_entries spec.ties) (IsLiveIn spec.formats m) (paths.entries_from 0 spec.formats m.members)
    (entries-live spec.formats m 0 spec.formats
    (λ i format at. (let e : 0 + i ≡ i = omega arith in ap (λ (n : ℕ). slice_get spec.formats n) e ∙ at)))

-- a record stands in the member of its format
abbrev pub IsLiveAt : OpenState → Memory → PathEntry → Type 0
IsLiveAt opened m entry = is_some (live_record (at_format entry.format opened).member entry.rrn m) ≡ true

at-members : (formats : List PathFormat) (number : ℕ) (format : PathFormat) → slice_get formats number ≡ Some format → slice_get (map (λ (f : PathFormat). f.member) formats) number ≡ Some format.member
at-members [] number format at = absurd cc
at-members (f ∷ formats) zero format at = ap (λ (o : Option PathFormat). option_map (λ (g : PathFormat). g.member) o) at
at-members (f ∷ formats) (suc number) format at = at-members formats number format at

-- where the path is over the members of the open, in their order
live-at : (opened : OpenState) (formats : List PathFormat) (m : Memory) → map (λ (f : PathFormat). f.member) formats ≡ opened.members → (entry : PathEntry) → IsLiveIn formats m entry → IsLiveAt opened m entry
live-at opened formats m over entry is =
    let member : slice_get opened.members entry.format ≡ Some is.format.member = ap (λ (ms : List ℕ). slice_get ms entry.format) (sym over) ∙ at-members formats entry.format is.format is.at in
    subst (λ (o : Option ℕ). is_some (live_record (unwrap_or o opened.member) entry.rrn m) ≡ true) (sym member) is.live

-- what is found stands in the member of its format
pub asked-live : (files : Named FileState) (file : FileState) (opened : OpenState) (m : Memory) (by : ReadBy) (parts : List KeyPart) (position : Position PathEntry)
    → m.files ≡ files → IsUnjoined file.spec → OpensBy files opened file.members file.spec → IfSome (asked_of by parts (reading_of file opened m) position) (IsLiveAt opened m)
asked-live files file opened m by parts position same unjoined own = kind file.spec (is_keyed file opened) unjoined own
  where
    along : (spec : PathSpec) → map (λ (f : PathFormat). f.member) spec.formats ≡ opened.members → IfSome (asked_of by parts (path_reading spec.ties (path spec m.members)) position) (IsLiveAt opened m)
    along spec over =
        asked-holds (IsLiveAt opened m) parts spec.ties (path spec m.members)
        (all-weaker (IsLiveIn spec.formats m) (IsLiveAt opened m) (path spec m.members) (live-at opened spec.formats m over) (path-live spec m)) by position

    bases_are : bases_of m ≡ bases_in files
    bases_are = ap bases_in same

    kind : (its : FileSpec) (keyed : Bool) → IsUnjoined its → OpensBy files opened file.members its
        → IfSome (asked_of by parts (reading_in (bases_of m) its keyed opened.member m.members) position) (IsLiveAt opened m)
    kind (PhysicalFile spec) true so is = along (physical_path opened.member spec.format.fields spec.keys) (sym is.only)
    kind (PhysicalFile spec) false so is =
        let here : unwrap_or (slice_get opened.members 0) opened.member ≡ opened.member = ap (λ (ms : List ℕ). unwrap_or (slice_get ms 0) opened.member) is.only in
        asked-holds (IsLiveAt opened m) parts Rising (map arrival_entry (records_from 1 (member_of opened.member m.members).slots))
        (all-map (IsLiveAt opened m) arrival_entry (records_from 1 (member_of opened.member m.members).slots)
        (all-weaker (λ (pair : ℕ × List ℕ). is_some (live_record opened.member pair.0 m) ≡ true) (λ pair. IsLiveAt opened m (arrival_entry pair))
        (records_from 1 (member_of opened.member m.members).slots)
        (λ pair live. subst (λ (n : ℕ). is_some (live_record n pair.0 m) ≡ true) (sym here) live) (records-live opened.member m))) by position
    kind (LogicalFile (Simple view)) keyed so is =
        along (views_path (bases_of m) view.keys.unique (view ∷ [])) (ap (λ (bases : Bases). (bases view.base).member ∷ []) bases_are ∙ sym is.all)
    kind (LogicalFile (Multi views)) keyed so is =
        along (views_path (bases_of m) false views) (own-members (bases_of m) (Multi views) tt ∙ ap (λ (bases : Bases). base_members bases (Multi views)) bases_are ∙ sym is.all)
    kind (LogicalFile (Join view)) keyed so is = absurd so

-- ---- among what it reads

-- the positions of the key
pub formats-by : (paths : NumberedPaths) (spec : Option PathSpec) (order : OpenOrder) → ReadsBy paths spec order → formats_by spec ≡ order.formats
formats-by paths None order reads = sym reads.formats
formats-by paths (Some spec) order reads = sym reads.formats

-- it reads by a key where it has such positions
pub order-keyed : (bases : Bases) (paths : NumberedPaths) (file : FileState) (opened : OpenState) (order : OpenOrder) → IsReadSo (is_file_path opened.access_path) file.spec
    → ReadsBy paths (path_read bases file opened) order → has_positions order.formats ≡ is_keyed file opened
order-keyed bases paths file opened order so reads =
    ap has_positions (sym (formats-by paths (path_read bases file opened) order reads)) ∙ reads-keyed bases file opened so

no-parts : (ps : List KeyPart) → HasNoKey (key_parts 0 ps ∷ []) → ps ≡ []
no-parts [] none = refl
no-parts (parts.Field t offset descend absval ∷ ps) none = absurd cc
no-parts (parts.Absent ∷ ps) none = absurd cc

some-parts : (ps : List KeyPart) → nat_lt 0 (length ps) ≡ true → ps ≡ [] → ⊥
some-parts [] some none = absurd cc
some-parts (p ∷ ps) some none = absurd cc

-- two formats have two keys
several-keys : (bases : Bases) (views : List View) → 2 ≤ length views → HasNoKey (map (λ (f : PathFormat). f.key) (map (view_format bases) views)) → ⊥
several-keys bases [] several none = omega (arith, several)
several-keys bases (v ∷ []) several none = omega (arith, several)
several-keys bases (v ∷ w ∷ views) several none = absurd cc

-- no key has more bytes than all keys together can have
wider : (members : NumberedMembers) (few most : ℕ) (format : PathFormat) → few ≤ most → HasKeysWithin few members format → HasKeysWithin most members format
wider members few most format le has = let w = has.width in record { width = omega (arith, w, le); keys = has.keys }

all-wider : (members : NumberedMembers) (few most : ℕ) (formats : List PathFormat) → few ≤ most → AllByRecursion (HasKeysWithin few members) formats → AllByRecursion (HasKeysWithin most members) formats
all-wider members few most [] le all = tt
all-wider members few most (format ∷ formats) le all = (wider members few most format le all.0, all-wider members few most formats le all.1)

within-each : (members : NumberedMembers) (formats : List PathFormat) → AllByRecursion (λ (f : PathFormat). HasKeysWithin (key_width f.key) members f) formats
    → (most : ℕ) × AllByRecursion (HasKeysWithin most members) formats
within-each members [] all = (0, tt)
within-each members (format ∷ formats) all =
    let rest = within-each members formats all.1 in (
      key_width format.key + rest.0,
      (
        wider members (key_width format.key) (key_width format.key + rest.0) format (omega arith) all.0,
        all-wider members rest.0 (key_width format.key + rest.0) formats (omega arith) rest.1,
      ),
    )

within-most : (members : NumberedMembers) (formats : List PathFormat) → AllByRecursion (λ (f : PathFormat). HasKeysWithin (key_width f.key) members f) formats
    → (most : ℕ) × All (HasKeysWithin most members) formats
within-most members formats all = let within = within-each members formats all in (within.0, All-from_recursion (HasKeysWithin within.0 members) formats within.1)

there-is : (fields : List Field) (o : Option MemberState) → IsThere fields o → (state : MemberState) × (o ≡ Some state)
there-is fields None there = absurd there
there-is fields (Some state) there = (state, refl)

both-are : (a b : Bool) → (a && b) ≡ true → b ≡ true
both-are true b h = h
both-are false b h = absurd cc

module _ (s : State) (orders : List (Named OpenOrder)) (moves : List (List (List PathMove))) (kept : KeptPaths) (keyed : AllAreKeyed s.files) (lawful : IsLibrary s)
    (are : AreMembers s.members) (shared : AreShared kept.paths) (rooms : HaveRooms kept) (indexed : IsIndexed s.files s.members s.jobs orders moves kept)
    (opened : OpenState) (order : OpenOrder) (file : FileState) (has : ReadsMember s file opened)
    (reads : ReadsBy kept.paths (path_read (bases_in s.files) file opened) order) where
  -- along a kept path
  along : (spec : PathSpec) → IsReadBy s.members kept order spec → ((list : EntryList) → IsPathOver order.formats spec s.members list → HasNoKey order.formats → AreNumbered list)
      → reading_of file opened (memory_of s) ≡ path_reading spec.ties (path spec s.members)
      → ReadsAmong s.members kept opened.member order.formats order.path (reading_of file opened (memory_of s))
  along spec read numbered is =
      subst (λ (p : Option ℕ). ReadsAmong s.members kept opened.member order.formats p (reading_of file opened (memory_of s))) (sym read.number_is) (record {
        spec = spec;
        list = read.list;
        pages = read.pages;
        over = read.over;
        numbered = numbered read.list read.over;
        along = is;
      })

  -- ---- a physical file

  by-path : (spec : PhysicalSpec) → file.spec ≡ PhysicalFile spec → is_keyed file opened ≡ true → ReadsAmong s.members kept opened.member order.formats order.path (reading_of file opened (memory_of s))
  by-path spec is by_key =
      let own = physical-opened s opened file lawful has.holds has.there (subst IsPhysical (sym is) tt) in
      let its_key : IsKeyed spec = keyed opened.file file spec has.there is in
      let fields : fields_of file ≡ spec.format.fields = ap (λ (f : FileSpec). (format_in f).fields) is in
      let records : HasRecordsOf spec.format.fields opened.member s.members =
      records-there spec.format.fields opened.member s.members are indexed.bytes (subst (λ (fs : List Field). IsThere fs (member_at opened.member s.members)) fields own.there) in
      let whole : PathSpec = physical_path opened.member spec.format.fields spec.keys in
      let only : opened.members ≡ opened.member ∷ [] = (subst (λ (f : FileSpec). OpensBy s.files opened file.members f) is (subst (OpensFile s.files opened) has.there has.holds)).only in
      let its : path_read (bases_in s.files) file opened ≡ Some whole = λ i. path_by (bases_in s.files) (by_key i) (first_of (only i)) (is i) in
      let read = reads-path (all_paths s.files) s.members kept order whole shared rooms indexed.paths (path-bytes spec opened.member s.members its_key records)
      (key_width (key_parts 0 spec.keys.parts), keys-within spec opened.member s.members its_key records) (subst (λ (o : Option PathSpec). ReadsBy kept.paths o order) its reads) in
      let some : nat_lt 0 (length spec.keys.parts) ≡ true = ap has_key (sym is) ∙ both-are (is_file_path opened.access_path) (has_key file.spec) by_key in
      along whole read (λ list over none. absurd (some-parts spec.keys.parts some (no-parts spec.keys.parts (over.keys ∙ none))))
      (λ i. reading_in (bases_of (memory_of s)) (is i) (by_key i) opened.member s.members)

  by-arrival : (spec : PhysicalSpec) → file.spec ≡ PhysicalFile spec → is_keyed file opened ≡ false → ReadsAmong s.members kept opened.member order.formats order.path (reading_of file opened (memory_of s))
  by-arrival spec is by_key =
      let its : path_read (bases_in s.files) file opened ≡ None = λ i. path_by (bases_in s.files) (by_key i) (first_of opened.members) (is i) in
      let read : IsByArrival order = subst (λ (o : Option PathSpec). ReadsBy kept.paths o order) its reads in
      let there = there-is (fields_of has.owner) (member_at opened.member s.members) has.has.there in
      subst (λ (p : Option ℕ). ReadsAmong s.members kept opened.member order.formats p (reading_of file opened (memory_of s))) (sym read.path) (record {
        there = (
          there.0,
          there.1,
          (λ i. reading_in (bases_of (memory_of s)) (is i) (by_key i) opened.member s.members) ∙ ap (λ (o : Option MemberState). arrival_reading (unwrap_or o (empty_member 0))) there.1,
        );
        none = read.formats;
      })

  -- ---- a logical file

  by-view : (view : View) → file.spec ≡ LogicalFile (Simple view) → ReadsAmong s.members kept opened.member order.formats order.path (reading_of file opened (memory_of s))
  by-view view is =
      let bases : Bases = bases_in s.files in
      let its : IsView bases (Simple view) = subst (IsViewBeside s.files) is (view-of s.files opened.file file indexed.views has.there) in
      let stands : StandsOver s.files file.members (Simple view) = subst (IsBased s.files opened.file file.members) is (lawful.bases opened.file file has.there) in
      let base : HasBase s view.base = has-base s lawful view.base stands.bases.0 in
      let there : IsThere (bases view.base).fields (member_at (bases view.base).member s.members) =
      subst (λ (fs : List Field). IsThere fs (member_at (bases view.base).member s.members)) (sym base.fields) base.has.there in
      let records : HaveRecords bases (Simple view) s.members = (records-there (bases view.base).fields (bases view.base).member s.members are indexed.bytes there, tt) in
      let whole : PathSpec = views_path bases view.keys.unique (view ∷ []) in
      let format : PathFormat = view_format bases view in
      let bytes : IsInBytes whole s.members =
      (recursion_from_All (λ (p : PathSpec). IsInBytes p s.members) (whole ∷ []) (paths-bytes bases (Simple view) s.members its.keyed records)).0 in
      let short : All (λ (f : PathFormat). HasKeysWithin (key_width f.key) s.members f) (format ∷ []) =
      (recursion_from_All (λ (p : PathSpec). All (λ (f : PathFormat). HasKeysWithin (key_width f.key) s.members f) p.formats) (whole ∷ []) (keys-short bases (Simple view) s.members its.keyed records)).0 in
      let within : All (HasKeysWithin (key_width format.key) s.members) (format ∷ []) =
      All-from_recursion (HasKeysWithin (key_width format.key) s.members) (format ∷ [])
      ((recursion_from_All (λ (f : PathFormat). HasKeysWithin (key_width f.key) s.members f) (format ∷ []) short).0, tt) in
      let own : path_read bases file opened ≡ Some whole = λ i. path_by bases (is_keyed file opened) (first_of opened.members) (is i) in
      let read = reads-path (all_paths s.files) s.members kept order whole shared rooms indexed.paths bytes (key_width format.key, within)
      (subst (λ (o : Option PathSpec). ReadsBy kept.paths o order) own reads) in
      let member : IsMember (member_of format.member s.members) =
      member-is (bases view.base).fields (bases view.base).member s.members (recursion_from_All (λ (entry : Numbered MemberState). IsMember entry.item) s.members are.each) there in
      along whole read
      (λ list over none.
      let empty : view.keys.parts ≡ [] = no-parts view.keys.parts (over.keys ∙ none) in
      keyless whole format s.members list refl (ap (key_parts 0) empty) (its.rises empty) member over.entries over.falling)
      (λ i. reading_in bases (is i) (is_keyed file opened) opened.member s.members)

  -- of several formats
  by-views : (views : List View) → file.spec ≡ LogicalFile (Multi views) → ReadsAmong s.members kept opened.member order.formats order.path (reading_of file opened (memory_of s))
  by-views views is =
      let bases : Bases = bases_in s.files in
      let its : IsView bases (Multi views) = subst (IsViewBeside s.files) is (view-of s.files opened.file file indexed.views has.there) in
      let stands : StandsOver s.files file.members (Multi views) = subst (IsBased s.files opened.file file.members) is (lawful.bases opened.file file has.there) in
      let records : HaveRecords bases (Multi views) s.members = names-recorded (base_names (Multi views)) stands.bases in
      let whole : PathSpec = views_path bases false views in
      let bytes : IsInBytes whole s.members =
      (recursion_from_All (λ (p : PathSpec). IsInBytes p s.members) (whole ∷ []) (paths-bytes bases (Multi views) s.members its.keyed records)).0 in
      let short : All (λ (f : PathFormat). HasKeysWithin (key_width f.key) s.members f) whole.formats =
      (recursion_from_All (λ (p : PathSpec). All (λ (f : PathFormat). HasKeysWithin (key_width f.key) s.members f) p.formats) (whole ∷ []) (keys-short bases (Multi views) s.members its.keyed records)).0 in
      let own : path_read bases file opened ≡ Some whole = λ i. path_by bases (is_keyed file opened) (first_of opened.members) (is i) in
      let read = reads-path (all_paths s.files) s.members kept order whole shared rooms indexed.paths bytes
      (within-most s.members whole.formats (recursion_from_All (λ (f : PathFormat). HasKeysWithin (key_width f.key) s.members f) whole.formats short))
      (subst (λ (o : Option PathSpec). ReadsBy kept.paths o order) own reads) in
      along whole read
      (λ list over none. absurd (several-keys bases views its.several (over.keys ∙ none)))
      (λ i. reading_in bases (is i) (is_keyed file opened) opened.member s.members)
    where
      names-recorded : (names : List (List ℕ)) → AllByRecursion (λ name. IsSome (physical_among name s.files)) names
          → AllByRecursion (λ name. HasRecordsOf (bases_in s.files name).fields (bases_in s.files name).member s.members) names
      names-recorded [] there = tt
      names-recorded (name ∷ names) there =
          let base : HasBase s name = has-base s lawful name there.0 in
          let own : IsThere (bases_in s.files name).fields (member_at (bases_in s.files name).member s.members) =
          subst (λ (fs : List Field). IsThere fs (member_at (bases_in s.files name).member s.members)) (sym base.fields) base.has.there in
          (records-there (bases_in s.files name).fields (bases_in s.files name).member s.members are indexed.bytes own, names-recorded names there.1)

  pub reads-among : IsUnjoined file.spec → ReadsAmong s.members kept opened.member order.formats order.path (reading_of file opened (memory_of s))
  reads-among unjoined = kind file.spec refl unjoined
    where
      key : (spec : PhysicalSpec) → file.spec ≡ PhysicalFile spec → (b : Bool) → is_keyed file opened ≡ b → ReadsAmong s.members kept opened.member order.formats order.path (reading_of file opened (memory_of s))
      key spec is true by_key = by-path spec is by_key
      key spec is false by_key = by-arrival spec is by_key

      kind : (its : FileSpec) → file.spec ≡ its → IsUnjoined its → ReadsAmong s.members kept opened.member order.formats order.path (reading_of file opened (memory_of s))
      kind (PhysicalFile spec) is unjoined = key spec is (is_keyed file opened) refl
      kind (LogicalFile (Simple view)) is unjoined = by-view view is
      kind (LogicalFile (Multi views)) is unjoined = by-views views is
      kind (LogicalFile (Join view)) is unjoined = absurd unjoined

-- ---- what is found

-- the entry that a hit shows
pub record IsFound (hit : Hit) (wanted : Option PathEntry) : Type 0 where
  pub entry : PathEntry
  pub is : wanted ≡ Some entry
  pub rrn : entry.rrn ≡ hit.rrn
  pub format : entry.format ≡ hit.format

pub hit-found : (parts : List KeyPart) (hit : Hit) (wanted : Option PathEntry) → Some (entry_hit parts hit) ≡ wanted → IsFound hit wanted
hit-found parts hit wanted found = record { entry = entry_hit parts hit; is = sym found; rrn = refl; format = refl }

pub none-found : (parts : List KeyPart) (result : Option Hit) (wanted : Option PathEntry) → result ≡ None → option_map (entry_hit parts) result ≡ wanted → wanted ≡ None
none-found parts result wanted none found = sym found ∙ ap (option_map (entry_hit parts)) none

pub some-found : (parts : List KeyPart) (result : Option Hit) (hit : Hit) (wanted : Option PathEntry) → result ≡ Some hit → option_map (entry_hit parts) result ≡ wanted → IsFound hit wanted
some-found parts result hit wanted some found = hit-found parts hit wanted (sym (ap (option_map (entry_hit parts)) some) ∙ found)

-- what is noted of a hit: the entry that it shows, which is of one of the formats
pub record IsNoted (formats : List (List KeyPart)) (hit : Hit) (entry : PathEntry) : Type 0 where
  pub is : entry_hit (merged_parts formats) hit ≡ entry
  pub format : entry.format < length formats
  pub bytes : IsEntryIn formats (entry_of hit)

pub noted : (formats : List (List KeyPart)) (result : Option Hit) (hit : Hit) (wanted : Option PathEntry) (entry : PathEntry) → result ≡ Some hit
    → option_map (entry_hit (merged_parts formats)) result ≡ wanted → wanted ≡ Some entry → IfSome result (λ h. IsEntryIn formats (entry_of h)) → IsNoted formats hit entry
noted formats result hit wanted entry some found is bytes =
    let shown : Some (entry_hit (merged_parts formats) hit) ≡ Some entry = sym (ap (option_map (entry_hit (merged_parts formats))) some) ∙ found ∙ is in
    let same : entry_hit (merged_parts formats) hit ≡ entry = some-equal shown in
    let of : IsEntryIn formats (entry_of hit) = subst (λ (o : Option Hit). IfSome o (λ h. IsEntryIn formats (entry_of h))) some bytes in
    record { is = same; format = subst (λ (e : PathEntry). e.format < length formats) same of.format; bytes = of }

pub mapped-some : {A B : Type 0} (f : A → B) (o : Option A) (b : B) → option_map f o ≡ Some b → is_some o ≡ true
mapped-some f None b h = absurd cc
mapped-some f (Some a) b h = refl

pub found-live : (opened : OpenState) (m : Memory) (hit : Hit) (wanted : Option PathEntry) → IsFound hit wanted → IfSome wanted (IsLiveAt opened m)
    → is_some (live_record (at_format hit.format opened).member hit.rrn m) ≡ true
found-live opened m hit wanted found live =
    let own : IsLiveAt opened m found.entry = subst (λ (o : Option PathEntry). IfSome o (IsLiveAt opened m)) found.is live in
    subst (λ (n : ℕ). is_some (live_record (at_format n opened).member hit.rrn m) ≡ true) found.format
    (subst (λ (n : ℕ). is_some (live_record (at_format found.entry.format opened).member n m) ≡ true) found.rrn own)

-- an open reads by no more formats than it has members
pub formats-many : (files : Named FileState) (paths : NumberedPaths) (file : FileState) (opened : OpenState) (order : OpenOrder) → named opened.file files ≡ Some file
    → OpenHolds files opened → IsReadSo (is_file_path opened.access_path) file.spec → ReadsBy paths (path_read (bases_in files) file opened) order
    → length order.formats ≤ length opened.members
formats-many files paths file opened order here holds so reads =
    let same : length order.formats ≡ length (format_names file.spec) = ap length (sym (formats-by paths (path_read (bases_in files) file opened) order reads)) ∙ kind file.spec refl in
    let many = members-many files file opened here holds in
    omega (arith, same, many)
  where
    single : HasOneFormat file.spec → length (formats_read (bases_in files) file opened) ≡ 1
    single one = ap length (formats-are (bases_in files) file opened one so)

    many : (views : List View) → length (map (λ (view : View). key_parts 0 view.keys.parts) views) ≡ length (map (λ (view : View). view.format.name) views)
    many [] = refl
    many (view ∷ views) = ap suc (many views)

    kind : (spec : FileSpec) → file.spec ≡ spec → length (formats_read (bases_in files) file opened) ≡ length (format_names file.spec)
    kind (PhysicalFile spec) is = single (subst HasOneFormat (sym is) tt) ∙ sym (ap (λ (f : FileSpec). length (format_names f)) is)
    kind (LogicalFile (Simple view)) is = single (subst HasOneFormat (sym is) tt) ∙ sym (ap (λ (f : FileSpec). length (format_names f)) is)
    kind (LogicalFile (Multi views)) is =
        ap length (formats-of-views (bases_in files) file opened views is) ∙ many views ∙ sym (ap (λ (f : FileSpec). length (format_names f)) is)
    kind (LogicalFile (Join view)) is = single (subst HasOneFormat (sym is) tt) ∙ sym (ap (λ (f : FileSpec). length (format_names f)) is)
