-- What a physical file's source describes beside those files that it names, and that these name, is what it describes beside all.
use Rattle.std.proofs.Common.{◌≡◌, ℕ, ◌||◌, if◌then◌else◌, Bool, true, false, Option, Some, None, Result, Ok, Err, List, [], ◌∷◌, ◌++◌, refl, sym, ◌∙◌, ap, subst}
use Rattle.std.specs.Prelude.{reverse}
use Rattle.std.specs.List.{list_any}
use Rattle.std.specs.Option.{option_and_then, option_map}
use Rattle.std.proofs.lemmas.Bool.{false≢true}
use Rattle.std.proofs.lemmas.List.Folds.{list_any-append}
use Rattle.entry_codec.specs.declared.kinds.FileKind.{FileKind}
use Rattle.entry_codec.specs.declared.kinds.FileKind.TheVariants.{Physical, Logical}
use Rattle.record_fmt.specs.declared.formats.Format.{Format}
use Rattle.dds_source.specs.declared.faults.DdsFault.{DdsFault}
use Rattle.dds_source.specs.declared.specifications.Source.{Source}
use Rattle.dds_source.specs.Reading.{source_of}
use Rattle.dds_physical.specs.declared.physical_files.PhysicalSpec.{PhysicalSpec}
use Rattle.dds_physical.specs.Physical.{physical_of}
use Rattle.dds_physical.specs.References.{refers_to}
use Rattle.logical_model.specs.Bases.{FileSpec}
use Rattle.journal_model.specs.Catalogue.{CatalogFile}
use Rattle.lawful_states.proofs.NameLemmas.{same_name-equal}
use Rattle.library_model.specs.Named.{Named, named, same_name}
use Rattle.library_steps.specs.CreatePhysicalFile.{described_by}
use Rattle.library_steps.specs.State.{FileState, physical_in}
use Rattle.named_bases.specs.Sources.{described_files, format_named, if_physical, spec_beside, with_described}
use Rattle.restart_laws.proofs.ReferenceLemmas.{physical-stays}
use Rattle.described_journals.specs.Files.{described_upon, with_file}
use Rattle.described_journals.specs.Needed.{if_records, is_wanted, needed, source_if, with_source}
use Rattle.described_journals.proofs.FileLemmas.{described-alike, described-other, upon-all}
use Rattle.described_journals.proofs.NamedLemmas.{names-only, or-right}

-- ---- one source

module _ (source : Source) (a b : List ℕ → Option Format) (same : (name : List ℕ) → refers_to name source ≡ true → a name ≡ b name) where
  if-same : (r s : Result PhysicalSpec DdsFault) → physical_of a source ≡ r → physical_of b source ≡ s → if_physical r ≡ if_physical s
  if-same (Ok spec) s left right =
      let there : physical_of b source ≡ Ok spec =
      physical-stays (λ (name : List ℕ). refers_to name source ≡ true) a b (λ name format p e. sym (same name p) ∙ e) source spec (names-only source) left in
      ap if_physical (sym there ∙ right)
  if-same (Err fault) (Ok spec) left right =
      let there : physical_of a source ≡ Ok spec =
      physical-stays (λ (name : List ℕ). refers_to name source ≡ true) b a (λ name format p e. same name p ∙ e) source spec (names-only source) right in
      absurd (let both : Err fault ≡ Ok spec = sym left ∙ there in cc)
  if-same (Err fault) (Err other) left right = refl

  -- where the files that it names are the same, it describes the same
  pub physical-same : if_physical (physical_of a source) ≡ if_physical (physical_of b source)
  physical-same = if-same (physical_of a source) (physical_of b source) refl refl

abbrev pub format_found : Option FileState → Option Format
format_found o = option_map (λ (spec : PhysicalSpec). spec.format) (option_and_then (λ (file : FileState). physical_in file.spec) o)

wanted-last : (name : List ℕ) (wanted : List Source) (source : Source) → refers_to name source ≡ true → is_wanted name (wanted ++ source ∷ []) ≡ true
wanted-last name [] source is = ap (λ (b : Bool). b || false) is
wanted-last name (first ∷ wanted) source is = or-right (refers_to name first) (is_wanted name (wanted ++ source ∷ [])) (wanted-last name wanted source is)

wanted-front : (name : List ℕ) (wanted more : List Source) → is_wanted name wanted ≡ true → is_wanted name (wanted ++ more) ≡ true
wanted-front name wanted more is = list_any-append (refers_to name) wanted more ∙ ap (λ (b : Bool). b || list_any (refers_to name) more) is

-- the same of the source of a text
beside-same : (a b : Named FileState) (text : List ℕ) (wanted : List Source) → ((name : List ℕ) → is_wanted name (with_source text wanted) ≡ true → named name a ≡ named name b)
    → spec_beside a Physical text ≡ spec_beside b Physical text
beside-same a b text wanted same = by (source_of text) same
  where
    by : (r : Result Source DdsFault) → ((name : List ℕ) → is_wanted name (wanted ++ source_if r) ≡ true → named name a ≡ named name b)
        → if_physical (described_by (format_named a) r) ≡ if_physical (described_by (format_named b) r)
    by (Ok source) each = physical-same source (format_named a) (format_named b) (λ name refers. ap format_found (each name (wanted-last name wanted source refers)))
    by (Err fault) each = refl

-- ---- files

pub none-some : {X : Type 0} {x : X} → None ≡ Some x → ⊥
none-some e = absurd cc

pub some-same : {X : Type 0} {a b : X} → Some a ≡ Some b → a ≡ b
some-same e = cc

-- the wanted names find the same
pub wanted-agree : (files : List CatalogFile) (wanted : List Source) (those : List CatalogFile) → needed files wanted ≡ Some those → (name : List ℕ) → is_wanted name wanted ≡ true
    → named name (described_upon [] those) ≡ named name (described_upon [] files)
wanted-agree [] wanted those is name wants = ap (λ (fs : List CatalogFile). named name (described_upon [] fs)) (sym (some-same is))
wanted-agree (file ∷ earlier) wanted those is name wants =
    elim (is_wanted file.name wanted) as (λ b. is_wanted file.name wanted ≡ b
    → (if b then if_records file.kind file (needed earlier (with_source file.source wanted)) else needed earlier wanted) ≡ Some those
    → named name (described_upon [] those) ≡ named name (with_file file (described_upon [] earlier))) [
      | true ↦ λ own h. taken file.kind refl h (λ fs e n w. wanted-agree earlier (with_source file.source wanted) fs e n w)
      | false ↦ λ own h. wanted-agree earlier wanted those h name wants
          ∙ sym (described-other file (spec_beside (described_upon [] earlier) file.kind file.source) (described_upon [] earlier) name (other own (same_name name file.name) refl))
    ] refl is
  where
    other : is_wanted file.name wanted ≡ false → (b : Bool) → same_name name file.name ≡ b → b ≡ false
    other own true same = absurd (false≢true (sym (subst (λ (n : List ℕ). is_wanted n wanted ≡ false) (sym (same_name-equal name file.name same)) own) ∙ wants))
    other own false same = refl

    behind : (fs : List CatalogFile) → file.kind ≡ Physical
        → ((n : List ℕ) → is_wanted n (with_source file.source wanted) ≡ true → named n (described_upon [] fs) ≡ named n (described_upon [] earlier))
        → named name (described_upon [] (file ∷ fs)) ≡ named name (with_file file (described_upon [] earlier))
    behind fs kind each =
        let spec : spec_beside (described_upon [] fs) file.kind file.source ≡ spec_beside (described_upon [] earlier) file.kind file.source =
        subst (λ (k : FileKind). spec_beside (described_upon [] fs) k file.source ≡ spec_beside (described_upon [] earlier) k file.source) (sym kind)
        (beside-same (described_upon [] fs) (described_upon [] earlier) file.source wanted each) in
        ap (λ (o : Option FileSpec). named name (with_described file o (described_upon [] fs))) spec
        ∙ described-alike file (spec_beside (described_upon [] earlier) file.kind file.source) (described_upon [] fs) (described_upon [] earlier) name
        (each name (wanted-front name wanted (source_if (source_of file.source)) wants))

    more : (o : Option (List CatalogFile)) → needed earlier (with_source file.source wanted) ≡ o → file.kind ≡ Physical → option_map (λ (fs : List CatalogFile). file ∷ fs) o ≡ Some those
        → ((fs : List CatalogFile) → needed earlier (with_source file.source wanted) ≡ Some fs → (n : List ℕ) → is_wanted n (with_source file.source wanted) ≡ true
        → named n (described_upon [] fs) ≡ named n (described_upon [] earlier))
        → named name (described_upon [] those) ≡ named name (with_file file (described_upon [] earlier))
    more None h kind e before = absurd (none-some e)
    more (Some fs) h kind e before = ap (λ (l : List CatalogFile). named name (described_upon [] l)) (sym (some-same e)) ∙ behind fs kind (before fs h)

    taken : (kind : FileKind) → file.kind ≡ kind → if_records kind file (needed earlier (with_source file.source wanted)) ≡ Some those
        → ((fs : List CatalogFile) → needed earlier (with_source file.source wanted) ≡ Some fs → (n : List ℕ) → is_wanted n (with_source file.source wanted) ≡ true
        → named n (described_upon [] fs) ≡ named n (described_upon [] earlier))
        → named name (described_upon [] those) ≡ named name (with_file file (described_upon [] earlier))
    taken Physical kind h before = more (needed earlier (with_source file.source wanted)) refl kind h before
    taken Logical kind h before = absurd (none-some h)

-- so the source describes the same beside those files and beside all
pub beside-needed : (files : List CatalogFile) (source : Source) (those : List CatalogFile) → Some those ≡ needed (reverse files) (source ∷ [])
    → if_physical (physical_of (format_named (described_upon [] those)) source) ≡ if_physical (physical_of (format_named (described_files files)) source)
beside-needed files source those is =
    physical-same source (format_named (described_upon [] those)) (format_named (described_files files))
    (λ name refers. ap format_found (wanted-agree (reverse files) (source ∷ []) those (sym is) name (wanted-last name [] source refers)
    ∙ ap (λ (all : Named FileState). named name all) (upon-all files)))
