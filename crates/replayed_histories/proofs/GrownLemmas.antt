-- A file more, in the journal and in the library alike: the files before it are described as they were, and members keep their record lengths.
use Rattle.std.proofs.Common.{◌≡◌, ℕ, Bool, true, false, cond, Option, Some, None, Result, List, [], ◌∷◌, ◌++◌, map, refl, sym, ap, ◌∙◌, subst}
use Rattle.std.specs.List.{AllByRecursion, filter, find}
use Rattle.std.specs.Option.{is_some}
use Rattle.std.specs.Str.{bytes_eq}
use Rattle.std.proofs.lemmas.List.{map-append}
use Rattle.entry_codec.specs.declared.entries.Entry.{Entry}
use Rattle.entry_codec.specs.declared.kinds.FileKind.TheVariants.{Physical}
use Rattle.dds_source.specs.declared.faults.DdsFault.{DdsFault}
use Rattle.dds_source.specs.declared.specifications.Source.{Source}
use Rattle.dds_physical.specs.declared.physical_files.PhysicalSpec.{PhysicalSpec}
use Rattle.member_slots.specs.Member.{IsMember}
use Rattle.member_slots.specs.Members.{NumberedMembers}
use Rattle.record_fmt.specs.Layout as layout
use Rattle.logical_model.specs.Bases.{FileSpec}
use Rattle.lawful_states.proofs.NameLemmas.{same_name-equal}
use Rattle.journal_model.specs.Catalogue.{Catalogue, CatalogFile, MayEnterAll, catalogue_after, catalogue_by, empty_catalogue, is_named}
use Rattle.journal_model.specs.Journal.{length_in}
use Rattle.journal_replay.specs.Standing.{HeldMember, Standing, catalogue_in}
use Rattle.library_model.specs.Named.{Named, named, same_name}
use Rattle.library_steps.specs.CreatePhysicalFile.{described_by}
use Rattle.library_steps.specs.State.{FileState, MemberStatus, State, fields_of}
use Rattle.library_steps.specs.SlotChange.{status_among, status_in}
use Rattle.named_bases.specs.Sources.{described_files, descriptions, fields_beside, fields_if, format_named, if_physical, spec_beside, spec_named, with_described}
use Rattle.restart_laws.proofs.CatalogueLemmas.{IsCatalogue, empty-is, entry-is}
use Rattle.restart_laws.proofs.GoesLemmas.{IsPlainCatalogue, entry-plain}
use Rattle.restart_laws.proofs.StableLemmas.{ArePlain, IsPlain, described-more, plain-more, spec-more}
use Rattle.replayed_histories.specs.Shown.{ShownFile, catalog_shown, file_shown, is_held_in, kind_in, memberless}
use Rattle.replayed_histories.specs.Replayed.{IsHeldWithin, IsReplayed, MemberStands}
use Rattle.replayed_histories.proofs.HomeLemmas.{IsHomed}

-- ---- the journal's physical files

entries-plain : (entries : List Entry) (c : Catalogue) → IsCatalogue c → IsPlainCatalogue c → MayEnterAll descriptions c entries → IsPlainCatalogue (catalogue_after c entries)
entries-plain [] c is plain may = plain
entries-plain (e ∷ entries) c is plain may =
    entries-plain entries (catalogue_by e.kind e c) (entry-is descriptions e.kind e c is may.0) (entry-plain c is plain e.kind e may.0) may.1

pub left-plain : (s : State) (r : IsReplayed s) → ArePlain (described_files r.left.files) r.left.files
left-plain s r =
    subst IsPlainCatalogue (sym r.journal.replays.catalogue) (entries-plain s.entries empty_catalogue empty-is tt r.journal.replays.so_far.enters)

each-front : {X : Type 0} (P : X → Type 0) (xs ys : List X) → AllByRecursion P (xs ++ ys) → AllByRecursion P xs
each-front P [] ys all = tt
each-front P (x ∷ xs) ys all = (all.0, each-front P xs ys all.1)

pub each-both : {X : Type 0} (P Q R : X → Type 0) (xs : List X) → ((x : X) → P x → Q x → R x) → AllByRecursion P xs → AllByRecursion Q xs → AllByRecursion R xs
each-both P Q R [] each p q = tt
each-both P Q R (x ∷ xs) each p q = (each x p.0 q.0, each-both P Q R xs each p.1 q.1)

find-each : {X : Type 0} (P : X → Type 0) (test : X → Bool) (xs : List X) (x : X) → find test xs ≡ Some x → AllByRecursion P xs → P x
find-each P test [] x found all = absurd cc
find-each P test (y ∷ ys) x found all =
    elim (test y) as (λ b. cond b (Some y) (find test ys) ≡ Some x → P x) [
      | true ↦ λ h. let same : y ≡ x = cc in subst P same all.0
      | false ↦ λ h. find-each P test ys x h all.1
    ] found

find-front : {X : Type 0} (test : X → Bool) (xs ys : List X) (x : X) → find test xs ≡ Some x → find test (xs ++ ys) ≡ Some x
find-front test [] ys x found = absurd cc
find-front test (y ∷ xs) ys x found =
    elim (test y) as (λ b. cond b (Some y) (find test xs) ≡ Some x → cond b (Some y) (find test (xs ++ ys)) ≡ Some x) [
      | true ↦ λ h. h
      | false ↦ λ h. find-front test xs ys x h
    ] found

-- its records have the fields that its source describes
pub plain-fields : (catalog : List CatalogFile) (file : CatalogFile) (it : IsPlain (described_files catalog) file) → fields_beside catalog file.source ≡ it.spec.format.fields
plain-fields catalog file it =
    ap (λ (r : Result Source DdsFault). fields_if (if_physical (described_by (format_named (described_files catalog)) r))) it.read
    ∙ ap (λ (r : Result PhysicalSpec DdsFault). fields_if (if_physical r)) it.gives

-- ---- a file more

module _ (catalog : List CatalogFile) (new : CatalogFile) (spec : FileSpec) (unnamed : find (is_named new.name) catalog ≡ None)
    (gives : spec_beside (described_files catalog) new.kind new.source ≡ Some spec) (plain : ArePlain (described_files catalog) catalog) where
  abbrev pub grown : List CatalogFile
  grown = catalog ++ new ∷ []

  accepted : is_some (spec_beside (described_files catalog) new.kind new.source) ≡ true
  accepted = ap is_some gives

  abbrev pub KeepsFields : CatalogFile → Type 0
  KeepsFields file = file.kind ≡ Physical → fields_beside grown file.source ≡ fields_beside catalog file.source

  grown-plain : ArePlain (described_files grown) grown
  grown-plain = plain-more catalog new unnamed accepted plain

  pub keep-fields : AllByRecursion KeepsFields catalog
  keep-fields =
      each-both (λ (file : CatalogFile). file.kind ≡ Physical → IsPlain (described_files catalog) file) (λ (file : CatalogFile). file.kind ≡ Physical → IsPlain (described_files grown) file)
      KeepsFields catalog each plain (each-front (λ (file : CatalogFile). file.kind ≡ Physical → IsPlain (described_files grown) file) catalog (new ∷ []) grown-plain)
    where
      each : (file : CatalogFile) → (file.kind ≡ Physical → IsPlain (described_files catalog) file) → (file.kind ≡ Physical → IsPlain (described_files grown) file) → KeepsFields file
      each file was is physical =
          let one = was physical in
          let two = is physical in
          let stays : spec_named (described_files grown) file.name ≡ Some one.spec = spec-more catalog new unnamed accepted file.name one.spec one.found in
          let both : ◌≡◌ {A = Option PhysicalSpec} (Some two.spec) (Some one.spec) = sym two.found ∙ stays in
          let same : two.spec ≡ one.spec = cc in
          plain-fields grown file two ∙ ap (λ (p : PhysicalSpec). p.format.fields) same ∙ sym (plain-fields catalog file one)

  -- what is described then
  pub described-then : (files : Named FileState) (members : Named MemberStatus) → described_files catalog ≡ map memberless files
      → described_files grown ≡ map memberless (files ++ (new.name, record { source = new.source; spec = spec; members = members }) ∷ [])
  described-then files members described =
      described-more catalog new unnamed accepted ∙ ap (λ (o : Option FileSpec). with_described new o (described_files catalog)) gives
      ∙ ap (λ (fs : Named FileState). fs ++ (new.name, record { source = new.source; spec = spec; members = [] }) ∷ []) described
      ∙ sym (map-append memberless files ((new.name, record { source = new.source; spec = spec; members = members }) ∷ []))

  abbrev HasFields : List CatalogFile → List ℕ × FileState → Type 0
  HasFields all entry = kind_in entry.1.spec ≡ Physical → fields_beside all entry.1.source ≡ fields_of entry.1

  pub fields-then : (files : Named FileState) → map catalog_shown catalog ≡ map file_shown files → AllByRecursion (HasFields catalog) files → AllByRecursion (HasFields grown) files
  fields-then files shown all = at catalog files shown keep-fields all where
    at : (some : List CatalogFile) (files : Named FileState) → map catalog_shown some ≡ map file_shown files → AllByRecursion KeepsFields some → AllByRecursion (HasFields catalog) files
        → AllByRecursion (HasFields grown) files
    at some [] shown keep all = tt
    at [] (entry ∷ files) shown keep all = absurd cc
    at (file ∷ some) (entry ∷ files) shown keep all = (λ physical. one physical heads, at some files tails keep.1 all.1) where
      heads : catalog_shown file ≡ file_shown entry
      heads = cc

      tails : map catalog_shown some ≡ map file_shown files
      tails = cc

      one : kind_in entry.1.spec ≡ Physical → catalog_shown file ≡ file_shown entry → fields_beside grown entry.1.source ≡ fields_of entry.1
      one physical same =
          let source = ap (λ (x : ShownFile). x.source) same in
          let kind = ap (λ (x : ShownFile). x.kind) same in
          ap (fields_beside grown) (sym source) ∙ keep.0 (kind ∙ physical) ∙ ap (fields_beside catalog) source ∙ all.0 physical

  pub shown-then : (files : Named FileState) (members : Named MemberStatus) → map catalog_shown catalog ≡ map file_shown files → new.kind ≡ kind_in spec
      → map catalog_shown grown ≡ map file_shown (files ++ (new.name, record { source = new.source; spec = spec; members = members }) ∷ [])
  shown-then files members shown kind =
      map-append catalog_shown catalog (new ∷ [])
      ∙ ap (λ (t : List ShownFile). t ++ catalog_shown new ∷ []) shown
      ∙ ap (λ k. map file_shown files ++ record { kind = k; name = new.name; source = new.source } ∷ []) kind
      ∙ sym (map-append file_shown files ((new.name, record { source = new.source; spec = spec; members = members }) ∷ []))

  -- members stay within their limits
  pub within-then : (left to : Standing) (files : Named FileState) (held : List HeldMember) → left.files ≡ catalog → to.files ≡ grown → AllByRecursion (IsHomed catalog files) held
      → AllByRecursion (IsHeldWithin left) held → AllByRecursion (IsHeldWithin to) held
  within-then left to files held left_files to_files homed within = each-both (IsHomed catalog files) (IsHeldWithin left) (IsHeldWithin to) held each homed within where
    each : (m : HeldMember) → IsHomed catalog files m → IsHeldWithin left m → IsHeldWithin to m
    each m home fits =
        let stays : fields_beside grown home.its.source ≡ fields_beside catalog home.its.source = find-each KeepsFields (is_named m.file) catalog home.its home.there keep-fields home.physical in
        let now : length_in descriptions (catalogue_in to) (find (is_named m.file) to.files) ≡ layout.record_length (fields_beside to.files home.its.source) =
        ap (length_in descriptions (catalogue_in to)) (ap (find (is_named m.file)) to_files ∙ find-front (is_named m.file) catalog (new ∷ []) home.its home.there) in
        let was : length_in descriptions (catalogue_in left) (find (is_named m.file) left.files) ≡ layout.record_length (fields_beside left.files home.its.source) =
        ap (length_in descriptions (catalogue_in left)) (ap (find (is_named m.file)) left_files ∙ home.there) in
        let same : layout.record_length (fields_beside left.files home.its.source) ≡ layout.record_length (fields_beside to.files home.its.source) =
        ap (λ (c : List CatalogFile). layout.record_length (fields_beside c home.its.source)) left_files ∙ ap layout.record_length (sym stays)
        ∙ ap (λ (c : List CatalogFile). layout.record_length (fields_beside c home.its.source)) (sym to_files)
        in
        subst (λ (n : ℕ). IsMember (record { record_length = n; slots = m.slots })) (was ∙ same ∙ sym now) fits

-- ---- the library's files with one more

pub some-before : (name : List ℕ) (files : Named FileState) (new : List ℕ × FileState) → is_some (named name files) ≡ true → is_some (named name (files ++ new ∷ [])) ≡ true
some-before name [] new some = absurd cc
some-before name (entry ∷ files) new some =
    elim (same_name name entry.0) as (λ b. is_some (cond b (Some entry.1) (named name files)) ≡ true → is_some (cond b (Some entry.1) (named name (files ++ new ∷ []))) ≡ true) [
      | true ↦ λ h. refl
      | false ↦ λ h. some-before name files new h
    ] some

pub status-before : (n : ℕ) (files : Named FileState) (new : List ℕ × FileState) (status : MemberStatus) → status_among n files ≡ Some status → status_among n (files ++ new ∷ []) ≡ Some status
status-before n [] new status found = absurd cc
status-before n (entry ∷ files) new status found =
    elim (is_some (status_in n entry.1.members)) as (λ b. cond b (status_in n entry.1.members) (status_among n files) ≡ Some status
    → cond b (status_in n entry.1.members) (status_among n (files ++ new ∷ [])) ≡ Some status) [
      | true ↦ λ h. h
      | false ↦ λ h. status-before n files new status h
    ] found

-- no member is of a file that isn't there
pub none-held : (name : List ℕ) (files : Named FileState) (held : List HeldMember) → named name files ≡ None → AllByRecursion (λ (m : HeldMember). is_some (named m.file files) ≡ true) held
    → filter (is_held_in name) held ≡ []
none-held name files [] none homes = refl
none-held name files (m ∷ held) none homes = by (bytes_eq m.file name) refl (none-held name files held none homes.1) where
  by : (b : Bool) → bytes_eq m.file name ≡ b → filter (is_held_in name) held ≡ [] → cond b (m ∷ filter (is_held_in name) held) (filter (is_held_in name) held) ≡ []
  by true is rest =
      let same : m.file ≡ name = same_name-equal m.file name is in
      let home : is_some (named name files) ≡ true = subst (λ (x : List ℕ). is_some (named x files) ≡ true) same homes.0 in
      let off : is_some (named name files) ≡ false = ap is_some none in
      let clash : ◌≡◌ {A = Bool} true false = sym home ∙ off in
      absurd cc
  by false is rest = rest

-- a member of another file stands as it did
pub stands-before : (files : Named FileState) (members : NumberedMembers) (new : List ℕ × FileState) (m : HeldMember) → MemberStands files members m → MemberStands (files ++ new ∷ []) members m
stands-before files members new m stands = record {
  counted = stands.counted;
  status = stands.status;
  found = status-before m.number files new stands.status stands.found;
  images = stands.images;
  journaled = stands.journaled;
  ended = stands.ended;
}
