-- What DLTF refuses lets a file go from what the journal leaves: no other file there depends on it, and the others are described without it as they were.
use Rattle.std.proofs.Common.{◌≡◌, ℕ, ◌≤◌, ◌&&◌, ◌||◌, not, if◌then◌else◌, Bool, true, false, cond, inl, inr, Option, Some, None, Result, Ok, List, [], ◌∷◌, ◌++◌, length, map, refl, sym, ap, ◌∙◌, subst, arith}
use Rattle.std.specs.List.{AllByRecursion, filter, list_any}
use Rattle.std.specs.Option.{option_and_then, option_map}
use Rattle.std.specs.Str.{bytes_eq}
use Rattle.std.proofs.lemmas.Bool.{or_parts}
use Rattle.std.proofs.lemmas.List.{append-nil, append_cancel_left, length-map}
use Rattle.std.proofs.lemmas.List.Elements.{filter-append}
use Rattle.std.proofs.Math.Seq.{append_snoc}
use Rattle.entry_codec.specs.declared.kinds.FileKind.{FileKind}
use Rattle.entry_codec.specs.declared.kinds.FileKind.TheVariants.{Physical, Logical}
use Rattle.record_fmt.specs.declared.formats.Format.{Format}
use Rattle.dds_source.specs.declared.faults.DdsFault.{DdsFault}
use Rattle.dds_source.specs.declared.specifications.Source.{Source}
use Rattle.dds_source.specs.Reading.{source_of}
use Rattle.dds_physical.specs.declared.physical_files.PhysicalSpec.{PhysicalSpec}
use Rattle.logical_model.specs.Bases.{FileSpec, PhysicalFile, base_names}
use Rattle.lawful_states.proofs.NameLemmas.{named-without_other, same_name-symm}
use Rattle.journal_model.specs.Catalogue.{CatalogFile, depends_on, is_named}
use Rattle.library_model.specs.Named.{Named, same_name}
use Rattle.library_steps.specs.CreateLogicalFile.{logical_by}
use Rattle.library_steps.specs.CreatePhysicalFile.{described_by}
use Rattle.library_steps.specs.DeleteFile.{depends_by, file_refers, first_dependent, source_refers, without_file}
use Rattle.library_steps.specs.State.{FileState, State, physical_in}
use Rattle.named_bases.proofs.NamedLemmas.{names-each, source-named}
use Rattle.named_bases.proofs.ReferLemmas.{refers-named}
use Rattle.named_bases.specs.Sources.{described_behind, described_files, descriptions, format_named, if_logical, if_physical, names_by, names_if, spec_beside, spec_named, with_described}
use Rattle.restart_laws.proofs.DescribedLemmas.{IsBy, IsLogicalBy, IsPhysicalBy, described_state, kind-by}
use Rattle.restart_laws.proofs.ReferenceLemmas.{NamesOnly, physical-stays}
use Rattle.restart_laws.proofs.StableLemmas.{NotGone, all-free}
use Rattle.restart_laws.proofs.ViewLemmas.{logical-same}
use Rattle.replayed_histories.specs.Replayed.{IsReplayed}
use Rattle.replayed_histories.specs.Shown.{ShownFile, catalog_shown, file_shown, memberless}

-- ---- each file of the journal was made beside those before it

abbrev pub AreMade : (before : Named FileState) → List CatalogFile → Named FileState → Type 0
AreMade before [] [] = Unit {0}
AreMade before [] (entry ∷ files) = ⊥
AreMade before (file ∷ catalog) [] = ⊥
AreMade before (file ∷ catalog) (entry ∷ files) =
    (catalog_shown file ≡ file_shown entry) × (spec_beside before file.kind file.source ≡ Some entry.1.spec) × AreMade (before ++ memberless entry ∷ []) catalog files

-- no more is described than there are files
record IsBehind (before : Named FileState) (catalog : List CatalogFile) : Type 0 where
  more : Named FileState
  is : described_behind before catalog ≡ before ++ more
  few : length more ≤ length catalog

behind-front : (catalog : List CatalogFile) (before : Named FileState) → IsBehind before catalog
behind-front [] before = record { more = []; is = sym (append-nil before); few = omega arith }
behind-front (file ∷ catalog) before = by (spec_beside before file.kind file.source) refl (λ front. behind-front catalog front) where
  by : (o : Option FileSpec) → spec_beside before file.kind file.source ≡ o → ((front : Named FileState) → IsBehind front catalog) → IsBehind before (file ∷ catalog)
  by None none rest =
      let it = rest before in
      record { more = it.more; is = ap (λ (o : Option FileSpec). described_behind (with_described file o before) catalog) none ∙ it.is; few = (let few = it.few in omega (arith, few)) }
  by (Some spec) some rest =
      let new : List ℕ × FileState = (file.name, described_state file spec) in
      let it = rest (before ++ new ∷ []) in
      record {
        more = new ∷ it.more;
        is = ap (λ (o : Option FileSpec). described_behind (with_described file o before) catalog) some ∙ it.is ∙ append_snoc before new it.more;
        few = (let few = it.few in omega (arith, few));
      }

pub made-each : (catalog : List CatalogFile) (before files : Named FileState) → map catalog_shown catalog ≡ map file_shown files → described_behind before catalog ≡ before ++ map memberless files
    → AreMade before catalog files
made-each [] before [] shown is = tt
made-each [] before (entry ∷ files) shown is = absurd cc
made-each (file ∷ catalog) before [] shown is = absurd cc
made-each (file ∷ catalog) before (entry ∷ files) shown is = by (spec_beside before file.kind file.source) refl is (λ next. made-each catalog (before ++ memberless entry ∷ []) files tails next) where
  heads : catalog_shown file ≡ file_shown entry
  heads = cc

  tails : map catalog_shown catalog ≡ map file_shown files
  tails = cc

  as-many : length catalog ≡ length files
  as-many = sym (length-map catalog catalog_shown) ∙ ap (λ (shows : List ShownFile). length shows) tails ∙ length-map files file_shown

  by : (o : Option FileSpec) → spec_beside before file.kind file.source ≡ o → described_behind (with_described file o before) catalog ≡ before ++ memberless entry ∷ map memberless files
      → (described_behind (before ++ memberless entry ∷ []) catalog ≡ (before ++ memberless entry ∷ []) ++ map memberless files → AreMade (before ++ memberless entry ∷ []) catalog files)
      → AreMade before (file ∷ catalog) (entry ∷ files)
  by None none said next =
      let front = behind-front catalog before in
      let same : front.more ≡ memberless entry ∷ map memberless files = append_cancel_left before front.more (memberless entry ∷ map memberless files) (sym front.is ∙ said) in
      let many : length front.more ≡ length (memberless entry ∷ map memberless files) = ap (λ (fs : Named FileState). length fs) same in
      let others : length (map memberless files) ≡ length files = length-map files memberless in
      let few : length front.more ≤ length catalog = front.few in
      absurd (omega (arith, many, others, few, as-many))
  by (Some spec) some said next =
      let new : List ℕ × FileState = (file.name, described_state file spec) in
      let front = behind-front catalog (before ++ new ∷ []) in
      let all : before ++ new ∷ front.more ≡ before ++ memberless entry ∷ map memberless files = sym (front.is ∙ append_snoc before new front.more) ∙ said in
      let same : new ∷ front.more ≡ memberless entry ∷ map memberless files = append_cancel_left before (new ∷ front.more) (memberless entry ∷ map memberless files) all in
      let head : new ≡ memberless entry = cc in (
        heads,
        some ∙ ap (λ (e : List ℕ × FileState). Some e.1.spec) head,
        next (subst (λ (e : List ℕ × FileState). described_behind (before ++ e ∷ []) catalog ≡ before ++ memberless entry ∷ map memberless files) head said
            ∙ sym (append_snoc before (memberless entry) (map memberless files))),
      )

-- ---- without the file

-- none is as the file of this name wants it
each-not : (test : List ℕ → Bool) (names : List (List ℕ)) → list_any test names ≡ false → AllByRecursion (λ (n : List ℕ). test n ≡ false) names
each-not test [] none = tt
each-not test (n ∷ names) none = let parts = or_parts (test n) (list_any test names) none in (parts.0, each-not test names parts.1)

not-any : (test : List ℕ → Bool) (names : List (List ℕ)) → AllByRecursion (λ (n : List ℕ). test n ≡ false) names → list_any test names ≡ false
not-any test [] all = refl
not-any test (n ∷ names) all = λ i. all.0 i || not-any test names all.1 i

both-false : (a b : Bool) → b ≡ false → (a && b) ≡ false
both-false true b h = h
both-false false b h = refl

-- where the test is as said, the file is one of them or not
without-push : (name : List ℕ) (before : Named FileState) (new : List ℕ × FileState) (b : Bool) → same_name name new.0 ≡ b
    → without_file name (before ++ new ∷ []) ≡ without_file name before ++ cond (not b) (new ∷ []) []
without-push name before new b is =
    filter-append (λ (entry : List ℕ × FileState). not (same_name name entry.0)) before (new ∷ []) ∙ ap (λ (t : Bool). without_file name before ++ cond (not t) (new ∷ []) []) is

module _ (name : List ℕ) where
  spec-without : (before : Named FileState) (other : List ℕ) → NotGone name other → spec_named (without_file name before) other ≡ spec_named before other
  spec-without before other differs = ap (λ (o : Option FileState). option_and_then (λ (f : FileState). physical_in f.spec) o) (named-without_other name other before differs)

  -- ---- one file

  module _ (before : Named FileState) (file : CatalogFile) (entry : List ℕ × FileState) (heads : catalog_shown file ≡ file_shown entry)
      (made : spec_beside before file.kind file.source ≡ Some entry.1.spec) (no : file_refers name entry.1 ≡ false) where
    same-source : file.source ≡ entry.1.source
    same-source = ap (λ (x : ShownFile). x.source) heads

    -- a physical file's source doesn't name it
    unreferred : (p : IsPhysicalBy before file.source entry.1.spec) → list_any (bytes_eq name) (names_by Physical p.source) ≡ false
    unreferred p =
        let read : source_of entry.1.source ≡ Ok p.source = ap source_of (sym same-source) ∙ p.read in
        let its : depends_by (PhysicalFile p.its) name entry.1 ≡ false = ap (λ (s : FileSpec). depends_by s name entry.1) p.is ∙ no in
        sym (refers-named name p.source) ∙ sym (ap (source_refers name) read) ∙ its

    -- nor does a logical file stand over it
    unbased : (l : IsLogicalBy before file.source entry.1.spec) → AllByRecursion (NotGone name) (base_names l.its)
    unbased l = each-not (same_name name) (base_names l.its) (ap (λ (s : FileSpec). depends_by s name entry.1) l.is ∙ no)

    names-free : list_any (bytes_eq name) (names_if file.kind (source_of file.source)) ≡ false
    names-free = by (kind-by before file.kind file.source entry.1.spec made) where
      by : IsBy before file.kind file.source entry.1.spec → list_any (bytes_eq name) (names_if file.kind (source_of file.source)) ≡ false
      by (inl p) = (λ i. list_any (bytes_eq name) (names_if (p.0 i) (p.1.read i))) ∙ unreferred p.1
      by (inr l) =
          (λ i. list_any (bytes_eq name) (names_if (l.0 i) (l.1.read i)))
          ∙ not-any (bytes_eq name) (names_by Logical l.1.source) (names-each (NotGone name) (spec_named before) l.1.source l.1.its l.1.gives (unbased l.1))

    pub depends-not : depends_on descriptions name file ≡ false
    depends-not = both-false (not (is_named name file)) (list_any (bytes_eq name) (names_if file.kind (source_of file.source))) names-free

    physical-alike : file.kind ≡ Physical → bytes_eq file.name name ≡ false → (p : IsPhysicalBy before file.source entry.1.spec)
        → spec_beside (without_file name before) Physical file.source ≡ Some entry.1.spec
    physical-alike physical differs p =
        let only : NamesOnly (NotGone name) p.source = (all-free name (file ∷ []) (λ i. depends-not i || false)).0 differs physical p.source p.read in
        ap (λ (r : Result Source DdsFault). if_physical (described_by (format_named (without_file name before)) r)) p.read
        ∙ ap if_physical (physical-stays (NotGone name) (format_named before) (format_named (without_file name before)) stay p.source p.its only p.gives)
        ∙ ap (λ (s : FileSpec). Some s) p.is
      where
        stay : (other : List ℕ) (format : Format) → NotGone name other → format_named before other ≡ Some format → format_named (without_file name before) other ≡ Some format
        stay other format not_gone e = ap (λ (o : Option PhysicalSpec). option_map (λ (p : PhysicalSpec). p.format) o) (spec-without before other not_gone) ∙ e

    logical-alike : (l : IsLogicalBy before file.source entry.1.spec) → spec_beside (without_file name before) Logical file.source ≡ Some entry.1.spec
    logical-alike l =
        let alike = source-named (λ other. spec_named (without_file name before) other ≡ spec_named before other) (spec_named before) l.source l.its l.gives
        (each-alike (base_names l.its) (unbased l)) in
        ap (λ (r : Result Source DdsFault). if_logical (logical_by (spec_named (without_file name before)) r)) l.read
        ∙ ap if_logical (logical-same (spec_named before) (spec_named (without_file name before)) l.source alike ∙ l.gives)
        ∙ ap (λ (s : FileSpec). Some s) l.is
      where
        each-alike : (names : List (List ℕ)) → AllByRecursion (NotGone name) names → AllByRecursion (λ other. spec_named (without_file name before) other ≡ spec_named before other) names
        each-alike [] all = tt
        each-alike (other ∷ names) all = (spec-without before other all.0, each-alike names all.1)

    -- it is described without the file as it was
    pub described-alike : bytes_eq file.name name ≡ false → spec_beside (without_file name before) file.kind file.source ≡ Some entry.1.spec
    described-alike differs = by (kind-by before file.kind file.source entry.1.spec made) where
      by : IsBy before file.kind file.source entry.1.spec → spec_beside (without_file name before) file.kind file.source ≡ Some entry.1.spec
      by (inl p) = ap (λ (k : FileKind). spec_beside (without_file name before) k file.source) p.0 ∙ physical-alike p.0 differs p.1
      by (inr l) = ap (λ (k : FileKind). spec_beside (without_file name before) k file.source) l.0 ∙ logical-alike l.1

  -- ---- all files

  first-not : (entry : List ℕ × FileState) (files : Named FileState) → first_dependent name (entry ∷ files) ≡ None → (file_refers name entry.1 ≡ false) × (first_dependent name files ≡ None)
  first-not entry files none = by (file_refers name entry.1) refl none where
    by : (b : Bool) → file_refers name entry.1 ≡ b → (if b then Some entry.0 else first_dependent name files) ≡ None → (file_refers name entry.1 ≡ false) × (first_dependent name files ≡ None)
    by true is h = absurd cc
    by false is h = (is, h)

  none-depends : (before : Named FileState) (catalog : List CatalogFile) (files : Named FileState) → AreMade before catalog files → first_dependent name files ≡ None
      → list_any (depends_on descriptions name) catalog ≡ false
  none-depends before [] files made none = refl
  none-depends before (file ∷ catalog) [] made none = absurd made
  none-depends before (file ∷ catalog) (entry ∷ files) made none =
      let parts = first-not entry files none in
      let here = depends-not before file entry made.0 made.1 parts.0 in
      let rest = none-depends (before ++ memberless entry ∷ []) catalog files made.2 parts.1 in
      λ i. here i || rest i

  abbrev stays : CatalogFile → Bool
  stays file = not (is_named name file)

  less-described : (before : Named FileState) (catalog : List CatalogFile) (files : Named FileState) → AreMade before catalog files → first_dependent name files ≡ None
      → described_behind (without_file name before) (filter stays catalog) ≡ without_file name before ++ map memberless (without_file name files)
  less-described before [] [] made none = sym (append-nil (without_file name before))
  less-described before [] (entry ∷ files) made none = absurd made
  less-described before (file ∷ catalog) [] made none = absurd made
  less-described before (file ∷ catalog) (entry ∷ files) made none =
      ap (λ (b : Bool). described_behind (without_file name before) (cond (not b) (file ∷ filter stays catalog) (filter stays catalog))) same-test
      ∙ by (same_name name entry.0) refl (less-described (before ++ memberless entry ∷ []) catalog files made.2 (first-not entry files none).1)
    where
      same-test : is_named name file ≡ same_name name entry.0
      same-test = same_name-symm file.name name ∙ ap (λ (shown : ShownFile). same_name name shown.name) made.0

      new-is : ◌≡◌ {A = List ℕ × FileState} (file.name, described_state file entry.1.spec) (memberless entry)
      new-is = ap (λ (shown : ShownFile). (shown.name, record { source = shown.source; spec = entry.1.spec; members = [] })) made.0

      by : (b : Bool) → same_name name entry.0 ≡ b
          → described_behind (without_file name (before ++ memberless entry ∷ [])) (filter stays catalog)
          ≡ without_file name (before ++ memberless entry ∷ []) ++ map memberless (without_file name files)
          → described_behind (without_file name before) (cond (not b) (file ∷ filter stays catalog) (filter stays catalog))
          ≡ without_file name before ++ map memberless (cond (not b) (entry ∷ without_file name files) (without_file name files))
      by true is rest =
          subst (λ (w : Named FileState). described_behind w (filter stays catalog) ≡ w ++ map memberless (without_file name files))
          (without-push name before (memberless entry) true is ∙ append-nil (without_file name before)) rest
      by false is rest =
          ap (λ (o : Option FileSpec). described_behind (with_described file o (without_file name before)) (filter stays catalog))
          (described-alike before file entry made.0 made.1 (first-not entry files none).0 (same-test ∙ is))
          ∙ ap (λ (e : List ℕ × FileState). described_behind (without_file name before ++ e ∷ []) (filter stays catalog)) new-is
          ∙ subst (λ (w : Named FileState). described_behind w (filter stays catalog) ≡ w ++ map memberless (without_file name files)) (without-push name before (memberless entry) false is) rest
          ∙ append_snoc (without_file name before) (memberless entry) (map memberless (without_file name files))

-- ---- what the journal leaves

-- the file of this name may go: no other file there depends on it, and the others are described without it as they were
module _ (s : State) (r : IsReplayed s) (name : List ℕ) (none : first_dependent name s.files ≡ None) where
  all-made : AreMade [] r.left.files s.files
  all-made = made-each r.left.files [] s.files r.stands.files_are r.stands.described

  pub left-alone : list_any (depends_on descriptions name) r.left.files ≡ false
  left-alone = none-depends name [] r.left.files s.files all-made none

  pub left-described : described_files (filter (λ (file : CatalogFile). not (is_named name file)) r.left.files) ≡ map memberless (without_file name s.files)
  left-described = less-described name [] r.left.files s.files all-made none
