-- What the files of a catalogue describe stays when files come and go: each physical file is described beside all the others as it was when it was made.
use Rattle.std.proofs.Common.{◌≡◌, ℕ, ◌&&◌, ◌||◌, not, cond, Bool, true, false, Option, Some, None, is_some, IfSome, option_to_list, Result, Ok, Err, List, [], ◌∷◌, ◌++◌, refl, sym, ◌∙◌, ap, subst}
use Rattle.std.proofs.lemmas.Bool.{or_parts}
use Rattle.std.specs.List.{AllByRecursion, cons_option, filter, filter_map, find, list_any}
use Rattle.std.specs.Option.{option_and_then, option_map}
use Rattle.std.specs.Str.{bytes_eq}
use Rattle.entry_codec.specs.declared.kinds.FileKind.{FileKind}
use Rattle.entry_codec.specs.declared.kinds.FileKind.TheVariants.{Physical, Logical}
use Rattle.record_fmt.specs.declared.formats.Format.{Format}
use Rattle.dds_source.specs.declared.faults.DdsFault.{DdsFault}
use Rattle.dds_source.specs.declared.specifications.Source.{Source}
use Rattle.dds_source.specs.declared.specifications.Specification.{Specification}
use Rattle.dds_source.specs.Reading.{source_of}
use Rattle.dds_physical.specs.declared.physical_files.PhysicalSpec.{PhysicalSpec}
use Rattle.dds_physical.specs.Physical.{physical_of}
use Rattle.dds_physical.specs.References.{reference_file}
use Rattle.dds_logical.specs.declared.views.LogicalSpec.{LogicalSpec}
use Rattle.logical_model.specs.Bases.{FileSpec, LogicalFile}
use Rattle.logical_laws.proofs.ListLemmas.{each-append, each-weaker}
use Rattle.journal_model.specs.Catalogue.{CatalogFile, depends_on, is_named}
use Rattle.lawful_states.proofs.NameLemmas.{same_name-equal, same_name-self, same_name-symm}
use Rattle.library_model.specs.Named.{Named, named, same_name}
use Rattle.lawful_states.specs.CreateLogicalFile.{logical_by}
use Rattle.lawful_states.specs.CreatePhysicalFile.{described_by}
use Rattle.lawful_states.specs.State.{FileState, physical_in}
use Rattle.lawful_states.proofs.BaseLemmas.{named-before, some-of}
use Rattle.restart_model.specs.Sources.{described_behind, described_files, descriptions, file_of_line, format_named, if_logical, if_physical, names_by, names_if, spec_beside, spec_named, with_described}
use Rattle.restart_laws.proofs.CatalogueLemmas.{AreNamesApart, Differs, none-named}
use Rattle.restart_laws.proofs.DescribedLemmas.{IsPhysicalBy, described_state, physical-by}
use Rattle.restart_laws.proofs.ReferenceLemmas.{NamesOnly, physical-stays}

abbrev pub spec_found : Option FileState → Option PhysicalSpec
spec_found o = option_and_then (λ (file : FileState). physical_in file.spec) o

-- ---- one file behind others

named-other : (before : Named FileState) (name other : List ℕ) (new : FileState) → same_name name other ≡ false → named name (before ++ (other, new) ∷ []) ≡ named name before
named-other [] name other new differs = ap (λ (b : Bool). cond b (Some new) None) differs
named-other (entry ∷ before) name other new differs = ap (λ (o : Option FileState). cond (same_name name entry.0) (Some entry.1) o) (named-other before name other new differs)

named-new : (before : Named FileState) (name : List ℕ) (new : FileState) → named name before ≡ None → named name (before ++ (name, new) ∷ []) ≡ Some new
named-new [] name new none = ap (λ (b : Bool). cond b (Some new) None) (same_name-self name)
named-new (entry ∷ before) name new none =
    elim (same_name name entry.0) as (λ b. cond b (Some entry.1) (named name before) ≡ None → cond b (Some entry.1) (named name (before ++ (name, new) ∷ [])) ≡ Some new) [
      | true ↦ λ e. absurd cc
      | false ↦ λ e. named-new before name new e
    ] none

-- a logical file is no physical one
spec-silent : (before : Named FileState) (name other : List ℕ) (new : FileState) → physical_in new.spec ≡ None → spec_named (before ++ (other, new) ∷ []) name ≡ spec_named before name
spec-silent [] name other new silent =
    elim (same_name name other) as (λ b. spec_found (cond b (Some new) None) ≡ None) [ true ↦ silent | false ↦ refl ]
spec-silent (entry ∷ before) name other new silent =
    elim (same_name name entry.0) as (λ b. spec_found (cond b (Some entry.1) (named name (before ++ (other, new) ∷ []))) ≡ spec_found (cond b (Some entry.1) (named name before))) [
      | true ↦ refl
      | false ↦ spec-silent before name other new silent
    ]

with-silent : (file : CatalogFile) (r : Result LogicalSpec DdsFault) (before : Named FileState) (name : List ℕ) → spec_named (with_described file (if_logical r) before) name ≡ spec_named before name
with-silent file (Ok spec) before name = spec-silent before name file.name (described_state file (LogicalFile spec)) refl
with-silent file (Err fault) before name = refl

with-spec : (file : CatalogFile) (o : Option FileSpec) (before : Named FileState) (name : List ℕ) (spec : PhysicalSpec) → spec_named before name ≡ Some spec
    → spec_named (with_described file o before) name ≡ Some spec
with-spec file None before name spec is = is
with-spec file (Some new) before name spec is = by (named name before) refl is
  where
    by : (o : Option FileState) → named name before ≡ o → spec_found o ≡ Some spec → spec_named (before ++ (file.name, described_state file new) ∷ []) name ≡ Some spec
    by None found e = absurd cc
    by (Some state) found e = ap spec_found (named-before name before (file.name, described_state file new) state found) ∙ e

with-other : (file : CatalogFile) (o : Option FileSpec) (before : Named FileState) (name : List ℕ) → same_name name file.name ≡ false
    → spec_named (with_described file o before) name ≡ spec_named before name
with-other file None before name differs = refl
with-other file (Some spec) before name differs = ap spec_found (named-other before name file.name (described_state file spec) differs)

with-none : (file : CatalogFile) (o : Option FileSpec) (before : Named FileState) (name : List ℕ) → named name before ≡ None → same_name name file.name ≡ false
    → named name (with_described file o before) ≡ None
with-none file None before name none differs = none
with-none file (Some spec) before name none differs = named-other before name file.name (described_state file spec) differs ∙ none

nones-with : (file : CatalogFile) (o : Option FileSpec) (before : Named FileState) (files : List CatalogFile) → AllByRecursion (λ (f : CatalogFile). named f.name before ≡ None) files
    → AllByRecursion (Differs file.name) files → AllByRecursion (λ (f : CatalogFile). named f.name (with_described file o before) ≡ None) files
nones-with file o before [] none others = tt
nones-with file o before (next ∷ files) none others = (with-none file o before next.name none.0 others.0, nones-with file o before files none.1 others.1)

with-alike : (file : CatalogFile) (o : Option FileSpec) (a b : Named FileState) → named file.name a ≡ None → named file.name b ≡ None → (name : List ℕ)
    → spec_named a name ≡ spec_named b name → spec_named (with_described file o a) name ≡ spec_named (with_described file o b) name
with-alike file None a b first second name alike = alike
with-alike file (Some spec) a b first second name alike =
    elim (same_name name file.name) as (λ t. same_name name file.name ≡ t
    → spec_named (a ++ (file.name, described_state file spec) ∷ []) name ≡ spec_named (b ++ (file.name, described_state file spec) ∷ []) name) [
      | true ↦ λ same. subst (λ (n : List ℕ). spec_named (a ++ (file.name, described_state file spec) ∷ []) n ≡ spec_named (b ++ (file.name, described_state file spec) ∷ []) n)
          (sym (same_name-equal name file.name same))
          (ap spec_found (named-new a file.name (described_state file spec) first ∙ sym (named-new b file.name (described_state file spec) second)))
      | false ↦ λ differs. ap spec_found (named-other a name file.name (described_state file spec) differs) ∙ alike
          ∙ sym (ap spec_found (named-other b name file.name (described_state file spec) differs))
    ] refl

-- ---- all files

behind-append : (files : List CatalogFile) (before : Named FileState) (new : CatalogFile)
    → described_behind before (files ++ new ∷ []) ≡ with_described new (spec_beside (described_behind before files) new.kind new.source) (described_behind before files)
behind-append [] before new = refl
behind-append (file ∷ files) before new = behind-append files (with_described file (spec_beside before file.kind file.source) before) new

behind-none : (files : List CatalogFile) (before : Named FileState) (name : List ℕ) → named name before ≡ None → AllByRecursion (Differs name) files → named name (described_behind before files) ≡ None
behind-none [] before name none others = none
behind-none (file ∷ files) before name none others =
    behind-none files (with_described file (spec_beside before file.kind file.source) before) name
    (with-none file (spec_beside before file.kind file.source) before name none (same_name-symm name file.name ∙ others.0)) others.1

-- ---- a physical file beside all others

pub record IsPlain (all : Named FileState) (file : CatalogFile) : Type 0 where
  pub source : Source
  pub read : source_of file.source ≡ Ok source
  pub spec : PhysicalSpec
  pub gives : physical_of (format_named all) source ≡ Ok spec
  pub found : spec_named all file.name ≡ Some spec

abbrev pub ArePlain : Named FileState → List CatalogFile → Type 0
ArePlain all files = AllByRecursion (λ (file : CatalogFile). file.kind ≡ Physical → IsPlain all file) files

format-from : (all others : Named FileState) (name : List ℕ) → ((spec : PhysicalSpec) → spec_named all name ≡ Some spec → spec_named others name ≡ Some spec) → (format : Format)
    → format_named all name ≡ Some format → format_named others name ≡ Some format
format-from all others name stay format e = by (spec_named all name) refl e
  where
    by : (o : Option PhysicalSpec) → spec_named all name ≡ o → option_map (λ (spec : PhysicalSpec). spec.format) o ≡ Some format → format_named others name ≡ Some format
    by None is h = absurd cc
    by (Some spec) is h = ap (option_map (λ (s : PhysicalSpec). s.format)) (stay spec is) ∙ h

plain-stays : (P : List ℕ → Type 0) (all others : Named FileState) → ((name : List ℕ) (spec : PhysicalSpec) → P name → spec_named all name ≡ Some spec → spec_named others name ≡ Some spec)
    → (file : CatalogFile) (it : IsPlain all file) → NamesOnly P it.source → P file.name → IsPlain others file
plain-stays P all others stay file it only own = record {
  source = it.source;
  read = it.read;
  spec = it.spec;
  gives = physical-stays P (format_named all) (format_named others) (λ name format p e. format-from all others name (λ spec h. stay name spec p h) format e) it.source it.spec only it.gives;
  found = stay file.name it.spec own it.found;
}

-- whatever it names
abbrev Any_name : List ℕ → Type 0
Any_name name = Unit {0}

any-option : (o : Option (List ℕ)) → IfSome o Any_name
any-option None = tt
any-option (Some name) = tt

any-lines : (lines : List Specification) → AllByRecursion (λ (s : Specification). IfSome (file_of_line s) Any_name) lines
any-lines [] = tt
any-lines (s ∷ lines) = (any-option (file_of_line s), any-lines lines)

any-names : (source : Source) → NamesOnly Any_name source
any-names source = record { file = any-option (reference_file source.file); lines = any-lines source.specifications }

-- ---- a file more

module _ (files : List CatalogFile) (new : CatalogFile) (unnamed : find (is_named new.name) files ≡ None)
    (accepted : is_some (spec_beside (described_files files) new.kind new.source) ≡ true) where
  abbrev grown : Named FileState
  grown = with_described new (spec_beside (described_files files) new.kind new.source) (described_files files)

  pub described-more : described_files (files ++ new ∷ []) ≡ grown
  described-more = behind-append files [] new

  new-unnamed : named new.name (described_files files) ≡ None
  new-unnamed = behind-none files [] new.name refl (none-named new.name files unnamed)

  wider : (name : List ℕ) (spec : PhysicalSpec) → Any_name name → spec_named (described_files files) name ≡ Some spec → spec_named grown name ≡ Some spec
  wider name spec any is = with-spec new (spec_beside (described_files files) new.kind new.source) (described_files files) name spec is

  new-plain : new.kind ≡ Physical → IsPlain grown new
  new-plain physical =
      let some = some-of (spec_beside (described_files files) Physical new.source)
      (subst (λ (k : FileKind). is_some (spec_beside (described_files files) k new.source) ≡ true) physical accepted) in
      by some.0 some.1 (physical-by (described_files files) new.source some.0 some.1)
    where
      by : (spec : FileSpec) → spec_beside (described_files files) Physical new.source ≡ Some spec → IsPhysicalBy (described_files files) new.source spec → IsPlain grown new
      by spec e p = record {
        source = p.source;
        read = p.read;
        spec = p.its;
        gives = physical-stays Any_name (format_named (described_files files)) (format_named grown)
            (λ name format any h. format-from (described_files files) grown name (λ s i. wider name s any i) format h) p.source p.its (any-names p.source) p.gives;
        found = ap (λ (o : Option FileSpec). spec_named (with_described new o (described_files files)) new.name) (ap (λ (k : FileKind). spec_beside (described_files files) k new.source) physical ∙ e)
            ∙ ap spec_found (named-new (described_files files) new.name (described_state new spec) new-unnamed) ∙ ap physical_in (sym p.is);
      }

  pub plain-more : ArePlain (described_files files) files → ArePlain (described_files (files ++ new ∷ [])) (files ++ new ∷ [])
  plain-more plain =
      subst (λ (all : Named FileState). ArePlain all (files ++ new ∷ [])) (sym described-more)
      (each-append (λ (file : CatalogFile). file.kind ≡ Physical → IsPlain grown file) files (new ∷ [])
      (each-weaker (λ (file : CatalogFile). file.kind ≡ Physical → IsPlain (described_files files) file) (λ (file : CatalogFile). file.kind ≡ Physical → IsPlain grown file)
      (λ file is physical. plain-stays Any_name (described_files files) grown wider file (is physical) (any-names (is physical).source) tt) files plain)
      (new-plain, tt))

  pub spec-more : (name : List ℕ) (spec : PhysicalSpec) → spec_named (described_files files) name ≡ Some spec → spec_named (described_files (files ++ new ∷ [])) name ≡ Some spec
  spec-more name spec is = subst (λ (all : Named FileState). spec_named all name ≡ Some spec) (sym described-more) (wider name spec tt is)

-- ---- a file less

abbrev pub NotGone : List ℕ → List ℕ → Type 0
NotGone gone name = same_name gone name ≡ false

-- where it stays, its source doesn't name the one that is gone
abbrev pub IsFree : List ℕ → CatalogFile → Type 0
IsFree gone file = bytes_eq file.name gone ≡ false → file.kind ≡ Physical → (source : Source) → source_of file.source ≡ Ok source → NamesOnly (NotGone gone) source

any-append : (test : List ℕ → Bool) (xs ys : List (List ℕ)) → list_any test (xs ++ ys) ≡ false → (list_any test xs ≡ false) × (list_any test ys ≡ false)
any-append test [] ys e = (refl, e)
any-append test (x ∷ xs) ys e =
    let parts = or_parts (test x) (list_any test (xs ++ ys)) e in
    let rest = any-append test xs ys parts.1 in
    ((λ i. parts.0 i || rest.0 i), rest.1)

module _ (gone : List ℕ) where
  free-option : (o : Option (List ℕ)) → list_any (bytes_eq gone) (option_to_list o) ≡ false → IfSome o (NotGone gone)
  free-option None e = tt
  free-option (Some name) e = (or_parts (bytes_eq gone name) false e).0

  free-cons : (o : Option (List ℕ)) (names : List (List ℕ)) → list_any (bytes_eq gone) (cons_option o names) ≡ false → IfSome o (NotGone gone) × (list_any (bytes_eq gone) names ≡ false)
  free-cons None names e = (tt, e)
  free-cons (Some name) names e = or_parts (bytes_eq gone name) (list_any (bytes_eq gone) names) e

  free-lines : (lines : List Specification) → list_any (bytes_eq gone) (filter_map file_of_line lines) ≡ false → AllByRecursion (λ (s : Specification). IfSome (file_of_line s) (NotGone gone)) lines
  free-lines [] e = tt
  free-lines (s ∷ lines) e = let parts = free-cons (file_of_line s) (filter_map file_of_line lines) e in (parts.0, free-lines lines parts.1)

  free-names : (source : Source) → list_any (bytes_eq gone) (names_by Physical source) ≡ false → NamesOnly (NotGone gone) source
  free-names source e =
      let parts = any-append (bytes_eq gone) (option_to_list (reference_file source.file)) (filter_map file_of_line source.specifications) e in
      record { file = free-option (reference_file source.file) parts.0; lines = free-lines source.specifications parts.1 }

  free-file : (file : CatalogFile) → depends_on descriptions gone file ≡ false → IsFree gone file
  free-file file alone differs physical source read =
      let said : list_any (bytes_eq gone) (descriptions.names file.kind file.source) ≡ false =
      sym (ap (λ (b : Bool). not b && list_any (bytes_eq gone) (descriptions.names file.kind file.source)) differs) ∙ alone in
      free-names source
      (ap (λ (r : Result Source DdsFault). list_any (bytes_eq gone) (names_if Physical r)) (sym read)
      ∙ ap (λ (k : FileKind). list_any (bytes_eq gone) (descriptions.names k file.source)) (sym physical) ∙ said)

  pub all-free : (files : List CatalogFile) → list_any (depends_on descriptions gone) files ≡ false → AllByRecursion (IsFree gone) files
  all-free [] e = tt
  all-free (file ∷ files) e = let parts = or_parts (depends_on descriptions gone file) (list_any (depends_on descriptions gone) files) e in (free-file file parts.0, all-free files parts.1)

  abbrev stays : CatalogFile → Bool
  stays file = not (is_named gone file)

  -- but for the one that is gone, the same physical files
  abbrev pub AreAlike : Named FileState → Named FileState → Type 0
  AreAlike others before = (name : List ℕ) → NotGone gone name → spec_named others name ≡ spec_named before name

  alike-wider : (others before : Named FileState) → AreAlike others before → (name : List ℕ) (format : Format) → NotGone gone name → format_named before name ≡ Some format
      → format_named others name ≡ Some format
  alike-wider others before alike name format not_gone e = format-from before others name (λ spec h. alike name not_gone ∙ h) format e

  alike-back : (others before : Named FileState) → AreAlike others before → AreAlike before others
  alike-back others before alike name not_gone = sym (alike name not_gone)

  same-spec : (others before : Named FileState) (file : CatalogFile) → AreAlike others before → IsFree gone file → bytes_eq file.name gone ≡ false → file.kind ≡ Physical
      → spec_beside others Physical file.source ≡ spec_beside before Physical file.source
  same-spec others before file alike free differs physical = by (source_of file.source) refl
    where
      two : (source : Source) → NamesOnly (NotGone gone) source → (a b : Result PhysicalSpec DdsFault) → physical_of (format_named others) source ≡ a → physical_of (format_named before) source ≡ b
          → if_physical a ≡ if_physical b
      two source only (Ok spec) b is other =
          ap if_physical (sym (physical-stays (NotGone gone) (format_named others) (format_named before) (alike-wider before others (alike-back others before alike)) source spec only is) ∙ other)
      two source only (Err fault) (Ok spec) is other =
          ap if_physical (sym is ∙ physical-stays (NotGone gone) (format_named before) (format_named others) (alike-wider others before alike) source spec only other)
      two source only (Err fault) (Err another) is other = refl

      by : (r : Result Source DdsFault) → source_of file.source ≡ r → if_physical (described_by (format_named others) r) ≡ if_physical (described_by (format_named before) r)
      by (Ok source) read = two source (free differs physical source read) (physical_of (format_named others) source) (physical_of (format_named before) source) refl refl
      by (Err fault) read = refl

  -- a file more in both
  alike-with : (others before : Named FileState) (file : CatalogFile) → AreAlike others before → IsFree gone file → bytes_eq file.name gone ≡ false → named file.name others ≡ None
      → named file.name before ≡ None
      → AreAlike (with_described file (spec_beside others file.kind file.source) others) (with_described file (spec_beside before file.kind file.source) before)
  alike-with others before file alike free differs first second name not_gone = by file.kind refl
    where
      by : (kind : FileKind) → file.kind ≡ kind
          → spec_named (with_described file (spec_beside others kind file.source) others) name ≡ spec_named (with_described file (spec_beside before kind file.source) before) name
      by Physical is =
          ap (λ (o : Option FileSpec). spec_named (with_described file o others) name) (same-spec others before file alike free differs is)
          ∙ with-alike file (spec_beside before Physical file.source) others before first second name (alike name not_gone)
      by Logical is =
          with-silent file (logical_by (spec_named others) (source_of file.source)) others name ∙ alike name not_gone
          ∙ sym (with-silent file (logical_by (spec_named before) (source_of file.source)) before name)

  -- the one that is gone in one of them
  alike-gone : (others before : Named FileState) (file : CatalogFile) (o : Option FileSpec) → AreAlike others before → bytes_eq file.name gone ≡ true
      → AreAlike others (with_described file o before)
  alike-gone others before file o alike same name not_gone =
      alike name not_gone
      ∙ sym (with-other file o before name (ap (same_name name) (same_name-equal file.name gone same) ∙ same_name-symm name gone ∙ not_gone))

  behind-less : (files : List CatalogFile) (others before : Named FileState) → AreAlike others before → AreNamesApart files → AllByRecursion (λ (f : CatalogFile). named f.name others ≡ None) files
      → AllByRecursion (λ (f : CatalogFile). named f.name before ≡ None) files → AllByRecursion (IsFree gone) files
      → AreAlike (described_behind others (filter stays files)) (described_behind before files)
  behind-less [] others before alike apart first second free = alike
  behind-less (file ∷ files) others before alike apart first second free =
      elim (bytes_eq file.name gone) as (λ b. bytes_eq file.name gone ≡ b
      → AreAlike (described_behind others (cond (not b) (file ∷ filter stays files) (filter stays files))) (described_behind before (file ∷ files))) [
        | true ↦ λ same. behind-less files others (with_described file (spec_beside before file.kind file.source) before)
            (alike-gone others before file (spec_beside before file.kind file.source) alike same) apart.1 first.1
            (nones-with file (spec_beside before file.kind file.source) before files second.1 apart.0) free.1
        | false ↦ λ differs. behind-less files (with_described file (spec_beside others file.kind file.source) others) (with_described file (spec_beside before file.kind file.source) before)
            (alike-with others before file alike free.0 differs first.0 second.0) apart.1
            (nones-with file (spec_beside others file.kind file.source) others files first.1 apart.0)
            (nones-with file (spec_beside before file.kind file.source) before files second.1 apart.0) free.1
      ] refl

  nothing-named : (files : List CatalogFile) → AllByRecursion (λ (f : CatalogFile). named {A = FileState} f.name [] ≡ None) files
  nothing-named [] = tt
  nothing-named (file ∷ files) = (refl, nothing-named files)

  pub spec-less : (files : List CatalogFile) → AreNamesApart files → AllByRecursion (IsFree gone) files → AreAlike (described_files (filter stays files)) (described_files files)
  spec-less files apart free = behind-less files [] [] (λ name not_gone. refl) apart (nothing-named files) (nothing-named files) free

  pub plain-less : (files : List CatalogFile) → AreNamesApart files → AllByRecursion (IsFree gone) files → ArePlain (described_files files) files
      → ArePlain (described_files (filter stays files)) (filter stays files)
  plain-less files apart free_all plain = all files free_all plain
    where
      all : (some : List CatalogFile) → AllByRecursion (IsFree gone) some → ArePlain (described_files files) some → ArePlain (described_files (filter stays files)) (filter stays some)
      all [] free plain = tt
      all (file ∷ some) free plain =
          elim (bytes_eq file.name gone) as (λ b. bytes_eq file.name gone ≡ b
          → ArePlain (described_files (filter stays files)) (cond (not b) (file ∷ filter stays some) (filter stays some))) [
            | true ↦ λ same. all some free.1 plain.1
            | false ↦ λ differs. (
              (λ physical. let it = plain.0 physical in
                  plain-stays (NotGone gone) (described_files files) (described_files (filter stays files)) (λ name spec not_gone e. spec-less files apart free_all name not_gone ∙ e) file it
                  (free.0 differs physical it.source it.read) (same_name-symm gone file.name ∙ differs)),
              all some free.1 plain.1,
            )
          ] refl
