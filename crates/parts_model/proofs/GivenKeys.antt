-- Whether two records have one key that may not, once slots were given to a member: each unique path over it tells.
use Rattle.std.proofs.Common.{◌≡◌, ◌≢◌, ℕ, zero, suc, ◌+◌, ◌<◌, ◌≤◌, ◌&&◌, ◌==◌, nat_lt, Bool, true, false, cond, List, [], ◌∷◌, ◌++◌, drop, length, map, slice_get, Contains, Option, Some, None, Result, Ok, Err, is_some, if◌then◌else◌, refl, sym, ap, ◌∙◌, subst, arith}
use Rattle.std.specs.Prelude.{All, flat_map}
use Rattle.std.specs.List.{AllByRecursion, IsDistinct, find}
use Rattle.std.specs.Map.{keys_of}
use Rattle.std.specs.Option.{option_map}
use Rattle.std.proofs.lemmas.Bool.Decides.{nat_tests}
use Rattle.std.proofs.lemmas.List.Elements.{All-from_recursion, recursion_from_All}
use Rattle.library_steps.below.dds_physical.specs.declared.physical_files.PhysicalSpec.{PhysicalSpec}
use Rattle.library_steps.below.dds_logical.specs.declared.views.LogicalSpec.{LogicalSpec}
use Rattle.library_steps.below.dds_logical.specs.declared.views.LogicalSpec.TheVariants.{Simple, Multi, Join}
use Rattle.file_model.specs.declared.paths.PathSpec.{PathSpec}
use Rattle.file_model.specs.FilePaths.{physical_path}
use Rattle.file_model.specs.Paths.{repeated_in}
use Rattle.record_fmt.specs.declared.formats.Field.{Field}
use Rattle.record_fmt.specs.Layout.{record_length}
use Rattle.library_steps.specs.Bases.{FileSpec, PhysicalFile, LogicalFile}
use Rattle.library_steps.specs.FilePaths.{is_over, logical_paths, views_path, primary_path}
use Rattle.member_slots.specs.declared.slot.Slot.{Slot}
use Rattle.member_slots.specs.declared.slot.Slot.TheVariants.{Live, Deleted}
use Rattle.member_slots.specs.Member.{FitsSlot}
use Rattle.member_slots.specs.Members.{Numbered, NumberedMembers, AreMembers, member_of}
use Rattle.access_path.specs.PathBytes.{IsInBytes}
use Rattle.path_set.specs.Repeated.{TellsRepeated}
use Rattle.path_set.specs.declared.moves.PathMove.{PathMove}
use Rattle.path_set.specs.KeptPaths.{KeptPath, KeptPaths, NumberedPaths, AreShared, entries_of}
use Rattle.path_set.proofs.ShareLemmas.{judged}
use Rattle.lawful_states.specs.Owners.{Owns, has_number}
use Rattle.file_catalogue.specs.KeyedFiles.{IsRecordSlot, HasRecordsOf}
use Rattle.job_table.specs.Opens.{OpenOrder}
use Rattle.library_model.specs.Named.{Named, named, same_name}
use Rattle.library_model.specs.declared.replies.Reply.{Reply}
use Rattle.library_model.specs.declared.replies.Reply.TheVariants.{DuplicateKey}
use Rattle.library_paths.specs.AllPaths.{all_paths, paths_by}
use Rattle.library_paths.proofs.KeptLemmas.{kept-once}
use Rattle.library_paths.proofs.NumberLemmas.{each-at}
use Rattle.library_paths.proofs.OwnerLemmas.{each-found, member-path, paths-contain}
use Rattle.library_steps.specs.LogicalFiles.{bases_in}
use Rattle.library_steps.specs.Refusals.{◌>>=◌, refuse_with}
use Rattle.library_steps.specs.State.{State, Memory, FileState, MemberStatus, fields_of, memory_of}
use Rattle.library_steps.specs.UniqueKeys.{UniquePath, all_apart, has_member, own_unique, unique_paths, uniques_by, view_unique}
use Rattle.range_images.specs.declared.slot_given.SlotGiven.{SlotGiven}
use Rattle.parts_model.specs.declared.stop.Stop.{Stop}
use Rattle.parts_model.specs.declared.stop.Stop.TheVariants.{NoMemory, Refused}
use Rattle.parts_model.specs.Answers.{MayAllow}
use Rattle.parts_model.specs.Given.{given_to, members_given, with_given, AreTold, FitsMember, IsTold, MayGive}
use Rattle.parts_model.specs.Indexed.{AreViews, HasBytes, IsIndexed, IsView}
use Rattle.parts_model.specs.Keyed.{AllAreKeyed}
use Rattle.lawful_states.specs.Lawful.{HoldsValues, IsLibrary}
use Rattle.lawful_states.specs.Slots.{MayStand}
use Rattle.parts_model.proofs.FlatLemmas.{each-flat, flat-at, none-behind, some-at}
use Rattle.parts_model.proofs.GivenLemmas.{given-hold}
use Rattle.parts_model.proofs.IndexLooks.{bases-have, fields-are, records-of, view-of}
use Rattle.parts_model.proofs.IndexLaws.{laws}
use Rattle.lawful_states.proofs.MemberLemmas.{HasRecords-member_of}
use Rattle.parts_model.proofs.RemadeLemmas.{at-next, remade-records}
use Rattle.parts_model.proofs.JoinedUnique.{join-unique}

-- ---- unique paths, file by file

-- where the first of them are apart, the others decide
pub apart-append : (xs ys : List UniquePath) (m : Memory) → all_apart xs m ≡ Ok true → all_apart (xs ++ ys) m ≡ all_apart ys m
apart-append [] ys m is = refl
apart-append (u ∷ xs) ys m is =
    elim (refuse_with (λ rrn. DuplicateKey u.file rrn) (repeated_in u.path m.members)) as (λ r. (r >>= (λ _. all_apart xs m)) ≡ Ok true → (r >>= (λ _. all_apart (xs ++ ys) m)) ≡ all_apart ys m) [
      | Ok b ↦ λ e. apart-append xs ys m e
      | Err reply ↦ λ e. absurd cc
    ] is

-- and where they aren't, they do
pub apart-refused : (xs ys : List UniquePath) (m : Memory) (reply : Reply) → all_apart xs m ≡ Err reply → all_apart (xs ++ ys) m ≡ Err reply
apart-refused [] ys m reply is = absurd cc
apart-refused (u ∷ xs) ys m reply is =
    elim (refuse_with (λ rrn. DuplicateKey u.file rrn) (repeated_in u.path m.members)) as (λ r. (r >>= (λ _. all_apart xs m)) ≡ Err reply
    → (r >>= (λ _. all_apart (xs ++ ys) m)) ≡ Err reply) [
      | Ok b ↦ λ e. apart-refused xs ys m reply e
      | Err other ↦ λ e. e
    ] is

-- those of some files
abbrev pub uniques_from : (member : ℕ) → Memory → Named FileState → List UniquePath
uniques_from member m files = flat_map (λ entry. uniques_by entry.1.spec m member entry) files

-- what is known of a file at a place
abbrev pub TellsAt : (files : Named FileState) → NumberedPaths → (member place : ℕ) → Result (Unit {0}) Stop → Type 0
TellsAt files paths member place result =
    (m later : Memory) (entry : List ℕ × FileState) → m.files ≡ files → slice_get files place ≡ Some entry
    → AllByRecursion (IsTold later.members paths) (uniques_by entry.1.spec m member entry) → MayAllow result (all_apart (uniques_by entry.1.spec m member entry) later)

-- and of all of them
abbrev pub TellsAll : (files : Named FileState) → NumberedPaths → (member : ℕ) → Result (Unit {0}) Stop → Type 0
TellsAll files paths member result =
    (m later : Memory) → m.files ≡ files → AreViews files → AreTold member m later.members paths → MayAllow result (all_apart (unique_paths member m) later)

-- the files before a place have none; those from it on decide
pub record AreApartTo (files : Named FileState) (paths : NumberedPaths) (member place : ℕ) : Type 0 where
  pub rest : (m later : Memory) → m.files ≡ files → AreViews files → AreTold member m later.members paths
      → all_apart (unique_paths member m) later ≡ all_apart (uniques_from member m (drop place files)) later

module _ (files : Named FileState) (paths : NumberedPaths) (member : ℕ) where
  pub apart-first : AreApartTo files paths member 0
  apart-first = record { rest = λ m later same views told. ap (λ (fs : Named FileState). all_apart (uniques_from member m fs) later) same }

  -- the file at the place, and those behind it
  split-at : (place : ℕ) (entry : List ℕ × FileState) (m : Memory) → slice_get files place ≡ Some entry
      → uniques_from member m (drop place files) ≡ uniques_by entry.1.spec m member entry ++ uniques_from member m (drop (suc place) files)
  split-at place entry m at = ap (uniques_from member m) (at-next files place entry at)

  told-at : (place : ℕ) (entry : List ℕ × FileState) (m later : Memory) → m.files ≡ files → AreTold member m later.members paths → slice_get files place ≡ Some entry
      → AllByRecursion (IsTold later.members paths) (uniques_by entry.1.spec m member entry)
  told-at place entry m later same told at =
      flat-at (IsTold later.members paths) (λ (e : List ℕ × FileState). uniques_by e.1.spec m member e) files place entry
      (subst (λ (fs : Named FileState). AllByRecursion (IsTold later.members paths) (uniques_from member m fs)) same told) at

  pub apart-next : (place : ℕ) → place < length files → TellsAt files paths member place (Ok tt) → AreApartTo files paths member place → AreApartTo files paths member (place + 1)
  apart-next place low tells is = record {
    rest = λ m later same views told.
        let here = some-at files place low in
        let behind : suc place ≡ place + 1 = omega arith in
        is.rest m later same views told
        ∙ ap (λ (us : List UniquePath). all_apart us later) (split-at place here.0 m here.1)
        ∙ apart-append (uniques_by here.0.1.spec m member here.0) (uniques_from member m (drop (suc place) files)) later
        (tells m later here.0 same here.1 (told-at place here.0 m later same told here.1))
        ∙ ap (λ (n : ℕ). all_apart (uniques_from member m (drop n files)) later) behind;
  }

  pub apart-failed : (place : ℕ) (stop : Stop) → place < length files → TellsAt files paths member place (Err stop) → AreApartTo files paths member place → TellsAll files paths member (Err stop)
  apart-failed place NoMemory low tells is = λ m later same views told. tt
  apart-failed place (Refused reply) low tells is = λ m later same views told.
      let here = some-at files place low in
      is.rest m later same views told
      ∙ ap (λ (us : List UniquePath). all_apart us later) (split-at place here.0 m here.1)
      ∙ apart-refused (uniques_by here.0.1.spec m member here.0) (uniques_from member m (drop (suc place) files)) later reply
      (tells m later here.0 same here.1 (told-at place here.0 m later same told here.1))

  pub apart-end : (place : ℕ) → length files ≤ place → AreApartTo files paths member place → TellsAll files paths member (Ok tt)
  apart-end place all is = λ m later same views told.
      is.rest m later same views told ∙ ap (λ (fs : Named FileState). all_apart (uniques_from member m fs) later) (none-behind files place all)

-- one path
pub one-apart : (result : Result (Unit {0}) Stop) (uniques : List UniquePath) (unique : UniquePath) (paths : NumberedPaths) (later : Memory) → uniques ≡ unique ∷ []
    → AllByRecursion (IsTold later.members paths) uniques → (IsTold later.members paths unique → MayAllow result (all_apart (unique ∷ []) later)) → MayAllow result (all_apart uniques later)
one-apart result uniques unique paths later is told tells =
    subst (λ (us : List UniquePath). MayAllow result (all_apart us later)) (sym is)
    (tells (subst (λ (us : List UniquePath). AllByRecursion (IsTold later.members paths) us) is told).0)

-- what a path has repeated
pub repeated-told : (file : List ℕ) (spec : PathSpec) (rrn : ℕ) (later : Memory) → repeated_in spec later.members ≡ Some rrn
    → all_apart (record { file = file; path = spec } ∷ []) later ≡ Err (DuplicateKey file rrn)
repeated-told file spec rrn later is = ap (λ (o : Option ℕ). refuse_with (λ r. DuplicateKey file r) o >>= (λ _. Ok true)) is

pub none-told : (file : List ℕ) (spec : PathSpec) (later : Memory) → repeated_in spec later.members ≡ None → all_apart (record { file = file; path = spec } ∷ []) later ≡ Ok true
none-told file spec later is = ap (λ (o : Option ℕ). refuse_with (λ r. DuplicateKey file r) o >>= (λ _. Ok true)) is

-- ---- slots given

record-slot : (fields : List Field) (long : ℕ) (slot : Slot) → long ≡ record_length fields → FitsSlot long slot → HoldsValues fields slot → HasBytes slot → IsRecordSlot fields slot
record-slot fields long (Live image) is fits values bytes = record { long = fits ∙ is; held = values; bytes = bytes }
record-slot fields long Deleted is fits values bytes = tt

each-record : (s : State) (number : ℕ) (given : List SlotGiven) (name : List ℕ) (file : FileState) (long : ℕ) → long ≡ record_length (fields_of file) → Owns s.files name file number
    → AllByRecursion (FitsMember long) given → AllByRecursion (λ (g : SlotGiven). MayStand s number g.slot) given → AllByRecursion (λ (g : SlotGiven). HasBytes g.slot) given
    → AllByRecursion (λ (g : SlotGiven). IsRecordSlot (fields_of file) g.slot) given
each-record s number [] name file long is owns fits values bytes = tt
each-record s number (g ∷ given) name file long is owns fits values bytes =
    (record-slot (fields_of file) long g.slot is fits.0.fits (values.0 name file owns) bytes.0, each-record s number given name file long is owns fits.1 values.1 bytes.1)

pub has-status : (number : ℕ) (members : Named MemberStatus) → has_member number members ≡ true → has_number number members ≡ true
has-status number members = by (find (λ entry. entry.1.number == number) members)
  where
    by : (o : Option (List ℕ × MemberStatus)) → is_some o ≡ true → is_some (option_map (λ (entry : List ℕ × MemberStatus). entry.1) o) ≡ true
    by None has = absurd cc
    by (Some entry) has = refl

module _ (s : State) (number : ℕ) (given : List SlotGiven) (orders : List (Named OpenOrder)) (moves : List (List (List PathMove))) (kept now : KeptPaths) (lawful : IsLibrary s) (are : AreMembers s.members)
    (before : IsIndexed s.files s.members s.jobs orders moves kept) (indexed : IsIndexed s.files (members_given number given s.members) s.jobs orders moves now)
    (begun : AreShared kept.paths) (shared : AreShared now.paths) (distinct : IsDistinct same_name (keys_of s.files)) (keyed : AllAreKeyed s.files) (may : MayGive s number given)
    (bytes : AllByRecursion (λ (g : SlotGiven). HasBytes g.slot) given) where
  abbrev later : NumberedMembers
  later = members_given number given s.members

  -- each slot of the member is a record of its file then
  given-records : (name : List ℕ) (file : FileState) → Owns s.files name file number → All (IsRecordSlot (fields_of file)) (given_to given (member_of number s.members)).slots
  given-records name file owns =
      let member = member_of number s.members in
      let has = HasRecords-member_of (fields_of file) number s.members (lawful.members name file number owns) in
      let old = recursion_from_All (IsRecordSlot (fields_of file)) member.slots (records-of s name file number orders moves kept lawful are before owns) in
      let each = each-record s number given name file member.record_length has.long owns may.takes.each may.values bytes in
      All-from_recursion (IsRecordSlot (fields_of file)) (given_to given member).slots (given-hold (IsRecordSlot (fields_of file)) tt given member.slots old each)

  -- and so is each of the others
  records-then : (name : List ℕ) (file : FileState) (n : ℕ) → Owns s.files name file n → HasRecordsOf (fields_of file) n (members_given number given s.members)
  records-then = remade-records s number orders moves kept keyed distinct lawful are begun before may.there (given_to given (member_of number s.members)) given-records

  -- the path of this specification
  path-told : (file : List ℕ) (spec : PathSpec) → Contains (all_paths s.files) spec → IsInBytes spec (members_given number given s.members) → (spec.unique ≡ true → length spec.formats ≤ 1)
      → IsTold (members_given number given s.members) now.paths (record { file = file; path = spec })
  path-told file spec among in_bytes one = record {
    number = (kept-once (all_paths s.files) later now.paths spec shared indexed.paths among).id;
    kept = (kept-once (all_paths s.files) later now.paths spec shared indexed.paths among).path;
    at = (kept-once (all_paths s.files) later now.paths spec shared indexed.paths among).at;
    same = (kept-once (all_paths s.files) later now.paths spec shared indexed.paths among).same;
    there = λ absent.
        let its = kept-once (all_paths s.files) later now.paths spec shared indexed.paths among in
        each-at (λ (q : Numbered KeptPath). q.item.spec ≢ spec) its.id its.path now.paths (recursion_from_All (λ (q : Numbered KeptPath). q.item.spec ≢ spec) now.paths absent) its.at its.same;
    told = λ id path at same.
        let entries = each-at (λ (q : Numbered KeptPath). q.item.entries ≡ entries_of q.item.spec later) id path now.paths
        (recursion_from_All (λ (q : Numbered KeptPath). q.item.entries ≡ entries_of q.item.spec later) now.paths indexed.paths.over) at in
        let tells : TellsRepeated path.spec later = subst (λ (p : PathSpec). TellsRepeated p later) (sym same) (record { bytes = in_bytes; one = one }) in
        judged path.spec later path.entries entries tells ∙ ap (λ (p : PathSpec). repeated_in p later) same;
  }

  physical-told : (name : List ℕ) (file : FileState) (spec : PhysicalSpec) → named name s.files ≡ Some file → file.spec ≡ PhysicalFile spec
      → AllByRecursion (IsTold (members_given number given s.members) now.paths) (own_unique name number spec file.members)
  physical-told name file spec here is = by spec.keys.unique refl (has_member number file.members) refl
    where
      by : (u : Bool) → spec.keys.unique ≡ u → (h : Bool) → has_member number file.members ≡ h
          → AllByRecursion (IsTold later now.paths) (if u && h then record { file = name; path = physical_path number spec.format.fields spec.keys } ∷ [] else [])
      by false unique h has = tt
      by true unique false has = tt
      by true unique true has =
          let its_key = keyed name file spec here is in
          let some = its_key.some unique in
          let key : nat_lt 0 (length spec.keys.parts) ≡ true = grind (arith, nat_tests, some) in
          let own = has-status number file.members has in
          let among = paths-contain s.files name file (physical_path number spec.format.fields spec.keys) here
          (subst (λ (f : FileSpec). Contains (paths_by s.files file.members f) (physical_path number spec.format.fields spec.keys)) (sym is) (member-path spec file.members number key own)) in
          let records = subst (λ (fs : List Field). HasRecordsOf fs number later) (fields-are file spec is) (records-then name file number (record { there = here; has = own })) in
          (path-told name (physical_path number spec.format.fields spec.keys) among (laws.bytes spec number later its_key records) (λ u. (let one : 1 ≤ 1 = omega arith in one)), tt)

  logical-told : (name : List ℕ) (file : FileState) → named name s.files ≡ Some file → (spec : LogicalSpec) → file.spec ≡ LogicalFile spec → IsView (bases_in s.files) spec
      → AllByRecursion (IsTold (members_given number given s.members) now.paths) (view_unique (memory_of s) name number spec)
  logical-told name file here (Simple view) is its =
      let whole = views_path (bases_in s.files) view.keys.unique (view ∷ []) in
      let among = paths-contain s.files name file whole here
      (subst (λ (f : FileSpec). Contains (paths_by s.files file.members f) whole) (sym is) (zero, omega arith, refl)) in
      let in_bytes = recursion_from_All (λ (path : PathSpec). IsInBytes path later) (logical_paths (bases_in s.files) (Simple view))
      (laws.view_bytes (bases_in s.files) (Simple view) later its.keyed (bases-have s.files later lawful.bases records-then name file (Simple view) here is)) in
      let told : IsTold later now.paths (record { file = name; path = whole }) = path-told name whole among in_bytes.0 (λ u. (let one : 1 ≤ 1 = omega arith in one)) in
      elim (view.keys.unique && is_over number whole) as (λ b. AllByRecursion (IsTold later now.paths)
      (map (λ (path : PathSpec). record { file = name; path = path }) (cond b (whole ∷ []) []))) [
        | true ↦ (told, tt)
        | false ↦ tt
      ]
  logical-told name file here (Multi views) is its = tt
  logical-told name file here (Join view) is its =
      let whole = primary_path (bases_in s.files) view in
      let among = paths-contain s.files name file whole here
      (subst (λ (f : FileSpec). Contains (paths_by s.files file.members f) whole) (sym is) (zero, omega arith, refl)) in
      let in_bytes = recursion_from_All (λ (path : PathSpec). IsInBytes path later) (logical_paths (bases_in s.files) (Join view))
      (laws.view_bytes (bases_in s.files) (Join view) later its.keyed (bases-have s.files later lawful.bases records-then name file (Join view) here is)) in
      let told : IsTold later now.paths (record { file = name; path = whole }) = path-told name whole among in_bytes.0 (λ u. (let one : 1 ≤ 1 = omega arith in one)) in
      subst (λ (ps : List PathSpec). AllByRecursion (IsTold later now.paths) (map (λ (path : PathSpec). record { file = name; path = path }) ps)) (sym (join-unique (bases_in s.files) view number))
      (elim (view.keys.unique && is_over number whole) as (λ b. AllByRecursion (IsTold later now.paths)
      (map (λ (path : PathSpec). record { file = name; path = path }) (cond b (whole ∷ []) []))) [
        | true ↦ (told, tt)
        | false ↦ tt
      ])

  file-told : (name : List ℕ) (file : FileState) → named name s.files ≡ Some file
      → AllByRecursion (IsTold (members_given number given s.members) now.paths) (uniques_by file.spec (memory_of s) number (name, file))
  file-told name file here = by file.spec refl
    where
      by : (its : FileSpec) → file.spec ≡ its → AllByRecursion (IsTold later now.paths) (uniques_by its (memory_of s) number (name, file))
      by (PhysicalFile spec) is = physical-told name file spec here is
      by (LogicalFile spec) is = logical-told name file here spec is (view-of s.files name file spec indexed.views here is)

  -- each unique path over the member
  pub uniques-told : AreTold number (memory_of s) (members_given number given s.members) now.paths
  uniques-told =
      each-flat (IsTold later now.paths) (λ (entry : List ℕ × FileState). uniques_by entry.1.spec (memory_of s) number entry) s.files
      (each-found (λ (name : List ℕ) (file : FileState). AllByRecursion (IsTold later now.paths) (uniques_by file.spec (memory_of s) number (name, file))) s.files distinct file-told)

  -- so what is found in them is what the definition refuses
  pub given-told : (result : Result (Unit {0}) Stop) → TellsAll s.files now.paths number result
      → MayAllow result (all_apart (unique_paths number (memory_of s)) (with_given number given (memory_of s)))
  given-told result tells = tells (memory_of s) (with_given number given (memory_of s)) refl indexed.views uniques-told
