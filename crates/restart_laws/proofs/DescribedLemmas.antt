-- What do the files of a journal describe, one after the other? Each under its own name, beside those before it, which stay as they are.
use Rattle.std.proofs.Common.{◌≡◌, ◌⊎◌, inl, inr, ℕ, false, Option, Some, None, Result, Ok, Err, List, [], ◌∷◌, ◌++◌, refl, sym, ◌∙◌, ap, subst}
use Rattle.std.specs.List.{AllByRecursion, IsDistinct, find}
use Rattle.std.specs.Map.{keys_of}
use Rattle.std.specs.Str.{bytes_eq}
use Rattle.entry_codec.specs.declared.kinds.FileKind.{FileKind}
use Rattle.entry_codec.specs.declared.kinds.FileKind.TheVariants.{Physical, Logical}
use Rattle.dds_source.specs.declared.faults.DdsFault.{DdsFault}
use Rattle.dds_source.specs.declared.specifications.Source.{Source}
use Rattle.dds_source.specs.Reading.{source_of}
use Rattle.dds_physical.specs.declared.physical_files.PhysicalSpec.{PhysicalSpec}
use Rattle.dds_physical.specs.Physical.{physical_of}
use Rattle.dds_logical.specs.declared.views.LogicalSpec.{LogicalSpec}
use Rattle.dds_logical.specs.Logical.{logical_of}
use Rattle.logical_model.specs.Bases.{FileSpec, PhysicalFile, LogicalFile}
use Rattle.journal_model.specs.Catalogue.{CatalogFile, is_named}
use Rattle.lawful_states.proofs.NameLemmas.{named-append, same_name-self, same_name-symm, some-equal}
use Rattle.library_model.specs.Named.{Named, named, same_name}
use Rattle.lawful_states.specs.CreateLogicalFile.{logical_by}
use Rattle.lawful_states.specs.CreatePhysicalFile.{described_by}
use Rattle.lawful_states.specs.State.{FileState}
use Rattle.lawful_states.proofs.BaseLemmas.{named-before}
use Rattle.restart_model.specs.Sources.{described_behind, format_named, if_logical, if_physical, spec_beside, spec_named, with_described}
use Rattle.restart_laws.proofs.CatalogueLemmas.{AreNamesApart, Differs}

-- ---- files of a list

abbrev pub Among : {X : Type 0} → X → List X → Type 0
Among x [] = ⊥
Among x (y ∷ ys) = (y ≡ x) ⊎ Among x ys

pub each-among : {X : Type 0} (P : X → Type 0) (x : X) (xs : List X) → AllByRecursion P xs → Among x xs → P x
each-among P x [] all among = absurd among
each-among P x (y ∷ ys) all (inl same) = subst P same all.0
each-among P x (y ∷ ys) all (inr among) = each-among P x ys all.1 among

-- where no two have one name, each is found by its own
pub find-among : (file : CatalogFile) (files : List CatalogFile) → AreNamesApart files → Among file files → find (is_named file.name) files ≡ Some file
find-among file [] apart among = absurd among
find-among file (other ∷ files) apart (inl same) = rw (ap (λ (f : CatalogFile). bytes_eq f.name file.name) same ∙ same_name-self file.name) (ap (λ (f : CatalogFile). Some f) same)
find-among file (other ∷ files) apart (inr among) =
    rw (same_name-symm other.name file.name ∙ each-among (Differs other.name) file files apart.0 among) (find-among file files apart.1 among)

-- ---- what stands before stays

abbrev pub described_state : CatalogFile → FileSpec → FileState
described_state file spec = record { source = file.source; spec = spec; members = [] }

pub with-keeps : (file : CatalogFile) (o : Option FileSpec) (before : Named FileState) (name : List ℕ) (found : FileState) → named name before ≡ Some found
    → named name (with_described file o before) ≡ Some found
with-keeps file None before name found is = is
with-keeps file (Some spec) before name found is = named-before name before (file.name, described_state file spec) found is

pub behind-keeps : (files : List CatalogFile) (before : Named FileState) (name : List ℕ) (found : FileState) → named name before ≡ Some found
    → named name (described_behind before files) ≡ Some found
behind-keeps [] before name found is = is
behind-keeps (file ∷ files) before name found is =
    behind-keeps files (with_described file (spec_beside before file.kind file.source) before) name found
    (with-keeps file (spec_beside before file.kind file.source) before name found is)

-- ---- what is found was described beside what stood before it

pub record IsMade (files : List CatalogFile) (all : Named FileState) (name : List ℕ) (file : FileState) : Type 0 where
  pub from : CatalogFile
  pub among : Among from files
  pub called : from.name ≡ name
  pub source : file.source ≡ from.source
  pub before : Named FileState
  pub described : spec_beside before from.kind from.source ≡ Some file.spec
  pub kept : (other : List ℕ) (found : FileState) → named other before ≡ Some found → named other all ≡ Some found

with-finds : (from : CatalogFile) (o : Option FileSpec) (before : Named FileState) (name : List ℕ) (file : FileState) → named name (with_described from o before) ≡ Some file
    → (named name before ≡ Some file) ⊎ ((name ≡ from.name) × (spec : FileSpec) × (o ≡ Some spec) × (described_state from spec ≡ file))
with-finds from None before name file found = inl found
with-finds from (Some spec) before name file found =
    elim (named-append name from.name before (described_state from spec) file found) [
      | inl was ↦ inl was
      | inr is ↦ inr (is.0, spec, refl, is.1)
    ]

pub described-from : (files : List CatalogFile) (before : Named FileState) (name : List ℕ) (file : FileState) → named name (described_behind before files) ≡ Some file
    → (named name before ≡ Some file) ⊎ IsMade files (described_behind before files) name file
described-from [] before name file found = inl found
described-from (from ∷ files) before name file found = by (described-from files (with_described from (spec_beside before from.kind from.source) before) name file found)
  where
    at : (named name before ≡ Some file) ⊎ ((name ≡ from.name) × (spec : FileSpec) × (spec_beside before from.kind from.source ≡ Some spec) × (described_state from spec ≡ file))
        → (named name before ≡ Some file) ⊎ IsMade (from ∷ files) (described_behind before (from ∷ files)) name file
    at (inl was) = inl was
    at (inr is) = inr (record {
      from = from;
      among = inl refl;
      called = sym is.0;
      source = ap (λ (f : FileState). f.source) (sym is.3);
      before = before;
      described = is.2 ∙ ap (λ (f : FileState). Some f.spec) is.3;
      kept = λ other thing h. behind-keeps files (with_described from (spec_beside before from.kind from.source) before) other thing
          (with-keeps from (spec_beside before from.kind from.source) before other thing h);
    })

    by : (named name (with_described from (spec_beside before from.kind from.source) before) ≡ Some file)
        ⊎ IsMade files (described_behind (with_described from (spec_beside before from.kind from.source) before) files) name file
        → (named name before ≡ Some file) ⊎ IsMade (from ∷ files) (described_behind before (from ∷ files)) name file
    by (inl here) = at (with-finds from (spec_beside before from.kind from.source) before name file here)
    by (inr made) = inr (record {
      from = made.from;
      among = inr made.among;
      called = made.called;
      source = made.source;
      before = made.before;
      described = made.described;
      kept = made.kept;
    })

-- ---- no two have one name

keys-push : (P : List ℕ → Type 0) (before : Named FileState) (name : List ℕ) (file : FileState) → AllByRecursion P (keys_of before) → P name → AllByRecursion P (keys_of (before ++ (name, file) ∷ []))
keys-push P [] name file all new = (new, tt)
keys-push P (entry ∷ before) name file all new = (all.0, keys-push P before name file all.1 new)

distinct-push : (before : Named FileState) (name : List ℕ) (file : FileState) → IsDistinct same_name (keys_of before) → AllByRecursion (λ n. same_name n name ≡ false) (keys_of before)
    → IsDistinct same_name (keys_of (before ++ (name, file) ∷ []))
unfolding IsDistinct
distinct-push [] name file distinct others = (tt, tt)
distinct-push (entry ∷ before) name file distinct others =
    (keys-push (λ n. same_name entry.0 n ≡ false) before name file distinct.0 others.0, distinct-push before name file distinct.1 others.1)

-- none of these has the name of the file
abbrev pub IsNew : Named FileState → CatalogFile → Type 0
IsNew before file = AllByRecursion (λ n. same_name n file.name ≡ false) (keys_of before)

with-distinct : (file : CatalogFile) (o : Option FileSpec) (before : Named FileState) → IsDistinct same_name (keys_of before) → IsNew before file
    → IsDistinct same_name (keys_of (with_described file o before))
with-distinct file None before distinct new = distinct
with-distinct file (Some spec) before distinct new = distinct-push before file.name (described_state file spec) distinct new

with-new : (file : CatalogFile) (o : Option FileSpec) (before : Named FileState) (files : List CatalogFile) → AllByRecursion (IsNew before) files → AllByRecursion (Differs file.name) files
    → AllByRecursion (IsNew (with_described file o before)) files
with-new file o before [] new others = tt
with-new file o before (next ∷ files) new others = (by o, with-new file o before files new.1 others.1)
  where
    by : (o : Option FileSpec) → IsNew (with_described file o before) next
    by None = new.0
    by (Some spec) = keys-push (λ n. same_name n next.name ≡ false) before file.name (described_state file spec) new.0 (same_name-symm file.name next.name ∙ others.0)

pub behind-distinct : (files : List CatalogFile) (before : Named FileState) → IsDistinct same_name (keys_of before) → AreNamesApart files → AllByRecursion (IsNew before) files
    → IsDistinct same_name (keys_of (described_behind before files))
behind-distinct [] before distinct apart new = distinct
behind-distinct (file ∷ files) before distinct apart new =
    behind-distinct files (with_described file (spec_beside before file.kind file.source) before)
    (with-distinct file (spec_beside before file.kind file.source) before distinct new.0) apart.1
    (with-new file (spec_beside before file.kind file.source) before files new.1 apart.0)

pub none-distinct : IsDistinct same_name []
unfolding IsDistinct
none-distinct = tt

pub none-new : (files : List CatalogFile) → AllByRecursion (IsNew []) files
none-new [] = tt
none-new (file ∷ files) = (tt, none-new files)

-- ---- what a source describes, by its kind

pub record IsPhysicalBy (before : Named FileState) (text : List ℕ) (spec : FileSpec) : Type 0 where
  pub source : Source
  pub read : source_of text ≡ Ok source
  pub its : PhysicalSpec
  pub gives : physical_of (format_named before) source ≡ Ok its
  pub is : PhysicalFile its ≡ spec

pub record IsLogicalBy (before : Named FileState) (text : List ℕ) (spec : FileSpec) : Type 0 where
  pub source : Source
  pub read : source_of text ≡ Ok source
  pub its : LogicalSpec
  pub gives : logical_of (spec_named before) source ≡ Ok its
  pub is : LogicalFile its ≡ spec

abbrev pub IsBy : Named FileState → FileKind → List ℕ → FileSpec → Type 0
IsBy before kind text spec = ((kind ≡ Physical) × IsPhysicalBy before text spec) ⊎ ((kind ≡ Logical) × IsLogicalBy before text spec)

pub physical-by : (before : Named FileState) (text : List ℕ) (spec : FileSpec) → spec_beside before Physical text ≡ Some spec → IsPhysicalBy before text spec
physical-by before text spec h = by (source_of text) refl h
  where
    given : (source : Source) (r : Result PhysicalSpec DdsFault) → source_of text ≡ Ok source → physical_of (format_named before) source ≡ r → if_physical r ≡ Some spec
        → IsPhysicalBy before text spec
    given source (Ok its) read gives e = record { source = source; read = read; its = its; gives = gives; is = some-equal e }
    given source (Err fault) read gives e = absurd cc

    by : (r : Result Source DdsFault) → source_of text ≡ r → if_physical (described_by (format_named before) r) ≡ Some spec → IsPhysicalBy before text spec
    by (Ok source) read e = given source (physical_of (format_named before) source) read refl e
    by (Err fault) read e = absurd cc

logical-by : (before : Named FileState) (text : List ℕ) (spec : FileSpec) → spec_beside before Logical text ≡ Some spec → IsLogicalBy before text spec
logical-by before text spec h = by (source_of text) refl h
  where
    given : (source : Source) (r : Result LogicalSpec DdsFault) → source_of text ≡ Ok source → logical_of (spec_named before) source ≡ r → if_logical r ≡ Some spec
        → IsLogicalBy before text spec
    given source (Ok its) read gives e = record { source = source; read = read; its = its; gives = gives; is = some-equal e }
    given source (Err fault) read gives e = absurd cc

    by : (r : Result Source DdsFault) → source_of text ≡ r → if_logical (logical_by (spec_named before) r) ≡ Some spec → IsLogicalBy before text spec
    by (Ok source) read e = given source (logical_of (spec_named before) source) read refl e
    by (Err fault) read e = absurd cc

pub kind-by : (before : Named FileState) (kind : FileKind) (text : List ℕ) (spec : FileSpec) → spec_beside before kind text ≡ Some spec → IsBy before kind text spec
kind-by before Physical text spec h = inl (refl, physical-by before text spec h)
kind-by before Logical text spec h = inr (refl, logical-by before text spec h)
