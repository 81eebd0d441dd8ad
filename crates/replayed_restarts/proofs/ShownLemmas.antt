-- The library that a journal leaves shows the files and members of the journal: names, numbers, images, status and slots.
use Rattle.std.proofs.Common.{◌≡◌, ℕ, ◌==◌, Bool, true, false, cond, if◌then◌else◌, inl, inr, Option, Some, None, is_some, unwrap_or, Result, List, [], ◌∷◌, ◌++◌, length, map, refl, sym, ap, ◌∙◌, subst}
use Rattle.std.proofs.lemmas.Bool.{eq-eqb, eqb-true, ne_eqb}
use Rattle.std.proofs.Math.Seq.{append_snoc}
use Rattle.std.specs.List.{AllByRecursion, filter, find}
use Rattle.std.specs.Option.{option_map}
use Rattle.std.specs.Str.{bytes_eq}
use Rattle.entry_codec.specs.declared.kinds.FileKind.{FileKind}
use Rattle.entry_codec.specs.declared.kinds.FileKind.TheVariants.{Physical}
use Rattle.entry_codec.specs.declared.kinds.Images.{Images}
use Rattle.dds_source.specs.declared.faults.DdsFault.{DdsFault}
use Rattle.dds_source.specs.declared.specifications.Source.{Source}
use Rattle.dds_physical.specs.declared.physical_files.PhysicalSpec.{PhysicalSpec}
use Rattle.member_slots.specs.declared.slot.Slot.{Slot}
use Rattle.member_slots.specs.Member.{MemberState, empty_member, records}
use Rattle.member_slots.specs.Members.{item_at, member_of}
use Rattle.logical_model.specs.Bases.{FileSpec}
use Rattle.journal_model.specs.Catalogue.{CatalogFile, CatalogMember, is_in_file}
use Rattle.journal_model.specs.Journal.{Journal, catalogue_of, state_of}
use Rattle.journal_replay.specs.Standing.{HeldMember, catalog_member}
use Rattle.lawful_states.specs.Owners.{has_number}
use Rattle.lawful_states.proofs.NameLemmas.{same_name-self, some-equal}
use Rattle.lawful_states.proofs.OwnerLemmas.{status-unowned}
use Rattle.library_model.specs.Named.{Named, named, same_name}
use Rattle.library_steps.specs.CreatePhysicalFile.{described_by}
use Rattle.library_steps.specs.SlotChange.{status_among, status_in}
use Rattle.library_steps.specs.State.{FileState, MemberStatus, fields_of, format_in, physical_in}
use Rattle.restart_model.specs.Libraries.{file_left, files_left, member_left, records_then, status_left}
use Rattle.restart_model.specs.Sources.{described_files, fields_beside, fields_if, format_named, if_physical, spec_named}
use Rattle.replayed_histories.proofs.CatalogueLemmas.{AreNamesApart, AreNumbersApart, Differs, HasOther, IsCatalogue}
use Rattle.replayed_histories.proofs.DescribedLemmas.{Among, IsBy, described_state, each-among, kind-by}
use Rattle.replayed_histories.proofs.GoesLemmas.{IsPlainCatalogue, own-file}
use Rattle.replayed_histories.proofs.KeptLemmas.{has-own}
use Rattle.replayed_histories.proofs.LeftLemmas.{members_left, named-files, none-numbered, physical-is, with_members}
use Rattle.replayed_histories.proofs.StableLemmas.{ArePlain, IsPlain, spec_found}
use Rattle.replayed_histories.specs.Shown.{ShownMember, ShowsMembers, catalog_shown, file_shown, held_shown, is_held_in, kind_in, memberless, status_shown}
use Rattle.replayed_restarts.proofs.FileLemmas.{AreDescribed}

-- ---- files

shown-kind : (before : Named FileState) (kind : FileKind) (source : List ℕ) (spec : FileSpec) → IsBy before kind source spec → kind ≡ kind_in spec
shown-kind before kind source spec (inl p) = p.0 ∙ ap kind_in p.1.is
shown-kind before kind source spec (inr l) = l.0 ∙ ap kind_in l.1.is

module _ (breaks : ℕ → ℕ) (j : Journal) where
  pub files-shown : (catalog : List CatalogFile) (before files : Named FileState) → AreDescribed before catalog files → map catalog_shown catalog ≡ map file_shown (map (file_left breaks j) files)
  files-shown [] before [] are = refl
  files-shown [] before (entry ∷ files) are = absurd are
  files-shown (file ∷ catalog) before [] are = absurd are
  files-shown (file ∷ catalog) before (entry ∷ files) are = λ i. head i ∷ files-shown catalog (before ++ entry ∷ []) files are.2 i where
    kind : file.kind ≡ kind_in entry.1.spec
    kind = shown-kind before file.kind file.source entry.1.spec (kind-by before file.kind file.source entry.1.spec are.1)

    head : catalog_shown file ≡ file_shown (file_left breaks j entry)
    head =
        ap (λ (k : FileKind). record { kind = k; name = file.name; source = file.source }) kind
        ∙ ap (λ (e : List ℕ × FileState). file_shown (file_left breaks j e)) (sym are.0)

  pub files-memberless : (catalog : List CatalogFile) (before files : Named FileState) → AreDescribed before catalog files → files ≡ map memberless (map (file_left breaks j) files)
  files-memberless [] before [] are = refl
  files-memberless [] before (entry ∷ files) are = absurd are
  files-memberless (file ∷ catalog) before [] are = absurd are
  files-memberless (file ∷ catalog) before (entry ∷ files) are = λ i. head i ∷ files-memberless catalog (before ++ entry ∷ []) files are.2 i where
    head : entry ≡ memberless (file_left breaks j entry)
    head = are.0 ∙ ap (λ (e : List ℕ × FileState). memberless (file_left breaks j e)) (sym are.0)

-- ---- the fields of physical files

found-at : (before : Named FileState) (name : List ℕ) (file : FileState) (more : Named FileState) → named name before ≡ None → named name (before ++ (name, file) ∷ more) ≡ Some file
found-at [] name file more none = ap (λ (b : Bool). cond b (Some file) (named name more)) (same_name-self name)
found-at (entry ∷ before) name file more none =
    elim (same_name name entry.0) as (λ b. cond b (Some entry.1) (named name before) ≡ None → cond b (Some entry.1) (named name (before ++ (name, file) ∷ more)) ≡ Some file) [
      | true ↦ λ e. absurd cc
      | false ↦ λ e. found-at before name file more e
    ] none

none-with : (before : Named FileState) (name : List ℕ) (entry : List ℕ × FileState) → named name before ≡ None → same_name name entry.0 ≡ false → named name (before ++ entry ∷ []) ≡ None
none-with [] name entry none differs = ap (λ (b : Bool). cond b (Some entry.1) None) differs
none-with (first ∷ before) name entry none differs =
    elim (same_name name first.0) as (λ b. cond b (Some first.1) (named name before) ≡ None → cond b (Some first.1) (named name (before ++ entry ∷ [])) ≡ None) [
      | true ↦ λ e. absurd cc
      | false ↦ λ e. none-with before name entry e differs
    ] none

-- none of these files is there
abbrev pub AreNew : Named FileState → List CatalogFile → Type 0
AreNew before catalog = AllByRecursion (λ (f : CatalogFile). named f.name before ≡ None) catalog

new-with : (before : Named FileState) (entry : List ℕ × FileState) (catalog : List CatalogFile) → AreNew before catalog → AllByRecursion (Differs entry.0) catalog
    → AreNew (before ++ entry ∷ []) catalog
new-with before entry [] new others = tt
new-with before entry (file ∷ catalog) new others = (none-with before file.name entry new.0 others.0, new-with before entry catalog new.1 others.1)

pub nothing-there : (catalog : List CatalogFile) → AreNew [] catalog
nothing-there [] = tt
nothing-there (file ∷ catalog) = (refl, nothing-there catalog)

-- its records have the fields that its source describes
plain-fields : (all : List CatalogFile) (file : CatalogFile) (it : IsPlain (described_files all) file) → fields_beside all file.source ≡ it.spec.format.fields
plain-fields all file it =
    ap (λ (r : Result Source DdsFault). fields_if (if_physical (described_by (format_named (described_files all)) r))) it.read
    ∙ ap (λ (r : Result PhysicalSpec DdsFault). fields_if (if_physical r)) it.gives

module _ (breaks : ℕ → ℕ) (j : Journal) (all : List CatalogFile) where
  abbrev pub HasFields : List ℕ × FileState → Type 0
  HasFields entry = kind_in entry.1.spec ≡ Physical → fields_beside all entry.1.source ≡ fields_of entry.1

  pub files-fields : (catalog : List CatalogFile) (before files : Named FileState) → AreDescribed before catalog files → AreNamesApart catalog → AreNew before catalog
      → described_files all ≡ before ++ files → ArePlain (described_files all) catalog → AllByRecursion HasFields (map (file_left breaks j) files)
  files-fields [] before [] are apart new is plain = tt
  files-fields [] before (entry ∷ files) are apart new is plain = absurd are
  files-fields (file ∷ catalog) before [] are apart new is plain = absurd are
  files-fields (file ∷ catalog) before (entry ∷ files) are apart new is plain = (
    λ physical. one physical,
    files-fields catalog (before ++ entry ∷ []) files are.2 apart.1
        (new-with before entry catalog new.1 (subst (λ (n : List ℕ). AllByRecursion (Differs n) catalog) (sym (ap (λ (e : List ℕ × FileState). e.0) are.0)) apart.0))
        (is ∙ sym (append_snoc before entry files)) plain.1,
  ) where
    kind : file.kind ≡ kind_in entry.1.spec
    kind = shown-kind before file.kind file.source entry.1.spec (kind-by before file.kind file.source entry.1.spec are.1)

    there : named file.name (described_files all) ≡ Some (described_state file entry.1.spec)
    there =
        ap (named file.name) is ∙ ap (λ (e : List ℕ × FileState). named file.name (before ++ e ∷ files)) are.0
        ∙ found-at before file.name (described_state file entry.1.spec) files new.0

    one : kind_in entry.1.spec ≡ Physical → fields_beside all entry.1.source ≡ (format_in entry.1.spec).fields
    one physical =
        let it = plain.0 (kind ∙ physical) in
        let both : physical_in entry.1.spec ≡ Some it.spec = sym (ap spec_found there) ∙ it.found in
        ap (λ (e : List ℕ × FileState). fields_beside all e.1.source) are.0 ∙ plain-fields all file it
        ∙ ap (λ (s : FileSpec). (format_in s).fields) (sym (physical-is entry.1.spec it.spec both))

-- ---- members

module _ (breaks : ℕ → ℕ) (j : Journal) where
  one-shown : (held : List HeldMember) (name : List ℕ)
      → map held_shown (filter (is_held_in name) held) ≡ map status_shown (map (status_left breaks j) (filter (is_in_file name) (map catalog_member held)))
  one-shown [] name = refl
  one-shown (m ∷ held) name = by (bytes_eq m.file name) (one-shown held name) where
    by : (b : Bool) → map held_shown (filter (is_held_in name) held) ≡ map status_shown (map (status_left breaks j) (filter (is_in_file name) (map catalog_member held)))
        → map held_shown (cond b (m ∷ filter (is_held_in name) held) (filter (is_held_in name) held))
        ≡ map status_shown (map (status_left breaks j) (cond b (catalog_member m ∷ filter (is_in_file name) (map catalog_member held)) (filter (is_in_file name) (map catalog_member held))))
    by true rest = ap (λ (t : List ShownMember). held_shown m ∷ t) rest
    by false rest = rest

  pub members-shown : (held : List HeldMember) → map catalog_member held ≡ (catalogue_of j).members → (files : Named FileState)
      → AllByRecursion (ShowsMembers held) (map (file_left breaks j) files)
  members-shown held same [] = tt
  members-shown held same (entry ∷ files) = (
    one-shown held entry.0 ∙ ap (λ (ms : List CatalogMember). map status_shown (map (status_left breaks j) (filter (is_in_file entry.0) ms))) same,
    members-shown held same files,
  )

  pub numbers-shown : (files : Named FileState) (held : List HeldMember) → map (λ (m : HeldMember). m.number) held ≡ map (λ entry. entry.number) (map (member_left files j) (map catalog_member held))
  numbers-shown files [] = refl
  numbers-shown files (m ∷ held) = ap (λ (t : List ℕ). m.number ∷ t) (numbers-shown files held)

-- ---- a member by its number

numbered-found : (members : List CatalogMember) (m : CatalogMember) → AreNumbersApart members → Among m members → find (λ (o : CatalogMember). o.number == m.number) members ≡ Some m
numbered-found [] m apart among = absurd among
numbered-found (other ∷ members) m apart (inl same) =
    rw (eq-eqb other.number m.number (ap (λ (x : CatalogMember). x.number) same)) (ap (λ (x : CatalogMember). Some x) same)
numbered-found (other ∷ members) m apart (inr among) =
    let differs : m.number == other.number ≡ false = each-among (HasOther other.number) m members apart.0 among in
    rw (ne_eqb other.number m.number (λ e. absurd (let is : m.number == other.number ≡ true = eq-eqb m.number other.number (sym e) in cc))) (numbered-found members m apart.1 among)

in-cons : (number : ℕ) (entry : List ℕ × MemberStatus) (members : Named MemberStatus)
    → status_in number (entry ∷ members) ≡ cond (entry.1.number == number) (Some entry.1) (status_in number members)
in-cons number entry members =
    elim (entry.1.number == number) as (λ b. option_map (λ (e : List ℕ × MemberStatus). e.1) (cond b (Some entry) (find (λ (e : List ℕ × MemberStatus). e.1.number == number) members))
    ≡ cond b (Some entry.1) (status_in number members)) [
      | true ↦ refl
      | false ↦ refl
    ]

module _ (breaks : ℕ → ℕ) (j : Journal) where
  abbrev its : List ℕ → List CatalogMember → Named MemberStatus
  its name members = map (status_left breaks j) (filter (is_in_file name) members)

  -- of the member with the number, in whichever file it is found
  status-is : (members : List CatalogMember) (name : List ℕ) (number : ℕ) (m : CatalogMember) (status : MemberStatus) → AreNumbersApart members
      → find (λ (o : CatalogMember). o.number == number) members ≡ Some m → status_in number (its name members) ≡ Some status → (status_left breaks j m).1 ≡ status
  status-is [] name number m status apart found is = absurd cc
  status-is (o ∷ members) name number m status apart found is =
      elim (o.number == number) as (λ b. o.number == number ≡ b → cond b (Some o) (find (λ (x : CatalogMember). x.number == number) members) ≡ Some m → (status_left breaks j m).1 ≡ status) [
        | true ↦ λ equal e. ap (λ (x : CatalogMember). (status_left breaks j x).1) (sym (some-equal e)) ∙ first equal
        | false ↦ λ differs e. status-is members name number m status apart.1 e (rest differs)
      ] refl found
    where
      first : o.number == number ≡ true → (status_left breaks j o).1 ≡ status
      first equal =
          elim (bytes_eq o.file name) as (λ b. status_in number (map (status_left breaks j) (cond b (o ∷ filter (is_in_file name) members) (filter (is_in_file name) members))) ≡ Some status
          → (status_left breaks j o).1 ≡ status) [
            | true ↦ λ e.
                let one : Some (status_left breaks j o).1 ≡ Some status =
                sym (ap (λ (b : Bool). cond b (Some (status_left breaks j o).1) (status_in number (its name members))) equal)
                ∙ sym (in-cons number (status_left breaks j o) (its name members)) ∙ e in
                some-equal one
            | false ↦ λ e. absurd (
                let none : has_number number (its name members) ≡ false =
                none-numbered (status_left breaks j) (λ x. refl) (λ x. refl) members name number
                (subst (λ (n : ℕ). AllByRecursion (HasOther n) members) (eqb-true o.number number equal) apart.0) in
                let some : has_number number (its name members) ≡ true = ap (λ (x : Option MemberStatus). is_some x) e in cc)
          ] is

      rest : o.number == number ≡ false → status_in number (its name members) ≡ Some status
      rest differs =
          elim (bytes_eq o.file name) as (λ b. status_in number (map (status_left breaks j) (cond b (o ∷ filter (is_in_file name) members) (filter (is_in_file name) members))) ≡ Some status
          → status_in number (its name members) ≡ Some status) [
            | true ↦ λ e. sym (ap (λ (b : Bool). cond b (Some (status_left breaks j o).1) (status_in number (its name members))) differs)
                ∙ sym (in-cons number (status_left breaks j o) (its name members)) ∙ e
            | false ↦ λ e. e
          ] is

  among-is : (files : Named FileState) (number : ℕ) (m : CatalogMember) (status : MemberStatus) → AreNumbersApart (catalogue_of j).members
      → find (λ (o : CatalogMember). o.number == number) (catalogue_of j).members ≡ Some m → status_among number (map (file_left breaks j) files) ≡ Some status
      → (status_left breaks j m).1 ≡ status
  among-is [] number m status apart found is = absurd cc
  among-is (entry ∷ files) number m status apart found is =
      elim (is_some (status_in number (members_left breaks j entry.0))) as (λ b.
      (if b then status_in number (members_left breaks j entry.0) else status_among number (map (file_left breaks j) files)) ≡ Some status → (status_left breaks j m).1 ≡ status) [
        | true ↦ λ e. status-is (catalogue_of j).members entry.0 number m status apart found e
        | false ↦ λ e. among-is files number m status apart found e
      ] is

  item-found : (files : Named FileState) (members : List CatalogMember) (number : ℕ) (m : CatalogMember) → find (λ (o : CatalogMember). o.number == number) members ≡ Some m
      → item_at number (map (member_left files j) members) ≡ Some (member_left files j m).item
  item-found files [] number m found = absurd cc
  item-found files (first ∷ members) number m found =
      elim (first.number == number) as (λ b. cond b (Some first) (find (λ (o : CatalogMember). o.number == number) members) ≡ Some m
      → (if b then Some (member_left files j first).item else item_at number (map (member_left files j) members)) ≡ Some (member_left files j m).item) [
        | true ↦ λ e. ap (λ (x : CatalogMember). Some (member_left files j x).item) (some-equal e)
        | false ↦ λ e. item-found files members number m e
      ] found

  module _ (is : IsCatalogue (catalogue_of j)) (plain : IsPlainCatalogue (catalogue_of j)) (m : CatalogMember) (among : Among m (catalogue_of j).members) where
    -- its file is there
    pub file-there : (file : FileState) × (named m.file (files_left breaks j) ≡ Some (with_members breaks j m.file file))
    file-there =
        let it = own-file (catalogue_of j) is plain m among in
        by (named m.file (described_files (catalogue_of j).files)) it.plain.spec refl (ap (spec_named (described_files (catalogue_of j).files)) (sym it.called) ∙ it.plain.found)
      where
        by : (o : Option FileState) (spec : PhysicalSpec) → named m.file (described_files (catalogue_of j).files) ≡ o → spec_found o ≡ Some spec
            → (file : FileState) × (named m.file (files_left breaks j) ≡ Some (with_members breaks j m.file file))
        by None spec e found = absurd cc
        by (Some base) spec e found = (base, named-files breaks j m.file ∙ ap (option_map (with_members breaks j m.file)) e)

    here : find (λ (o : CatalogMember). o.number == m.number) (catalogue_of j).members ≡ Some m
    here = numbered-found (catalogue_of j).members m is.numbers among

    -- its status is what the journal tells
    pub status-there : status_among m.number (files_left breaks j) ≡ Some (status_left breaks j m).1
    status-there = by (status_among m.number (files_left breaks j)) refl where
      by : (o : Option MemberStatus) → status_among m.number (files_left breaks j) ≡ o → o ≡ Some (status_left breaks j m).1
      by None e = absurd (
          status-unowned m.number (files_left breaks j) e m.file (with_members breaks j m.file file-there.0)
          (record { there = file-there.1; has = has-own breaks j (catalogue_of j).members m.number m here }))
      by (Some status) e = ap (λ (s : MemberStatus). Some s) (sym (among-is (described_files (catalogue_of j).files) m.number m status is.numbers here e))

    -- and its slots are those that the journal leaves
    pub slots-there : (member_of m.number (map (member_left (files_left breaks j) j) (catalogue_of j).members)).slots ≡ (state_of j m.number).slots
    slots-there = ap (λ (o : Option MemberState). (unwrap_or o (empty_member 0)).slots) (item-found (files_left breaks j) (catalogue_of j).members m.number m here)

-- how many records there were then, where no images are kept
pub then-counted : (o : Option Images) (slots : List Slot) → is_some o ≡ false → records_then o slots ≡ length (records (record { record_length = 0; slots = slots }))
then-counted None slots none = refl
then-counted (Some images) slots none = absurd cc
