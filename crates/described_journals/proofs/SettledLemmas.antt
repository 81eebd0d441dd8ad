-- Files that describe the same beside any files: a source that names no others describes the same wherever they are there.
use Rattle.std.proofs.Common.{◌≡◌, ℕ, ◌||◌, cond, Bool, true, false, Option, Some, None, option_to_list, Result, Ok, List, [], ◌∷◌, ◌++◌, refl, sym, ◌∙◌, ap, subst}
use Rattle.std.specs.Prelude.{is_some}
use Rattle.std.specs.List.{AllByRecursion, cons_option, find, list_any}
use Rattle.std.specs.Option.{option_map}
use Rattle.std.specs.Str.{bytes_eq}
use Rattle.std.proofs.lemmas.Bool.{false≢true}
use Rattle.std.proofs.lemmas.List.Folds.{list_any-append}
use Rattle.entry_codec.specs.declared.kinds.FileKind.{FileKind}
use Rattle.entry_codec.specs.declared.kinds.FileKind.TheVariants.{Physical}
use Rattle.dds_source.specs.declared.faults.DdsFault.{DdsFault}
use Rattle.dds_source.specs.declared.specifications.Source.{Source}
use Rattle.dds_source.specs.Reading.{source_of}
use Rattle.dds_physical.specs.declared.physical_files.PhysicalSpec.{PhysicalSpec}
use Rattle.dds_physical.specs.Physical.{physical_of}
use Rattle.logical_model.specs.Bases.{FileSpec, PhysicalFile}
use Rattle.journal_model.specs.Catalogue.{CatalogFile, is_named}
use Rattle.lawful_states.proofs.NameLemmas.{same_name-equal, same_name-symm}
use Rattle.library_model.specs.Named.{Named, named, same_name}
use Rattle.library_steps.specs.CreatePhysicalFile.{described_by}
use Rattle.library_steps.specs.State.{FileState}
use Rattle.named_bases.specs.Sources.{described_behind, described_files, format_named, if_physical, names_by, spec_beside, with_described}
use Rattle.named_bases.proofs.ReferLemmas.{refers-named}
use Rattle.restart_laws.proofs.DescribedLemmas.{behind-keeps}
use Rattle.described_journals.specs.declared.settled.NamedFile.{NamedFile}
use Rattle.described_journals.specs.Kept.{AreSettled, Describes, IsAlone, IsSettled, IsThere, has_named}
use Rattle.described_journals.proofs.AgreeLemmas.{format_found, none-some, physical-same, some-same}
use Rattle.described_journals.proofs.FileLemmas.{described-other, named-last, or-else}
use Rattle.described_journals.proofs.NamedLemmas.{or-right}

-- ---- the names that were taken

all-last : {X : Type 0} (P : X → Type 0) (xs : List X) (x : X) → AllByRecursion P xs → P x → AllByRecursion P (xs ++ x ∷ [])
all-last P [] x all its = (its, tt)
all-last P (y ∷ ys) x all its = (all.0, all-last P ys x all.1 its)

pub settled-none : (files : List CatalogFile) (others : List NamedFile) → AreSettled files [] others others
settled-none files others = record { settled = λ all. all; each = λ name any. absurd (false≢true any); kept = λ name has. has }

-- one name, or none, and then those
pub settled-front : (files : List CatalogFile) (o : Option (List ℕ)) (names : List (List ℕ)) (old now new : List NamedFile)
    → AreSettled files (option_to_list o) old now → AreSettled files names now new → AreSettled files (option_to_list o ++ names) old new
settled-front files None names old now new front back =
    record { settled = λ all. back.settled (front.settled all); each = back.each; kept = λ name has. back.kept name (front.kept name has) }
settled-front files (Some one) names old now new front back = record {
  settled = λ all. back.settled (front.settled all);
  each = λ name any. by name (bytes_eq name one) refl any;
  kept = λ name has. back.kept name (front.kept name has);
}
  where
    by : (name : List ℕ) (b : Bool) → bytes_eq name one ≡ b → (b || list_any (bytes_eq name) names) ≡ true → has_named name new ≡ true
    by name true is any = back.kept name (front.each name (ap (λ (x : Bool). x || false) is))
    by name false is any = back.each name any

pub settled-line : (files : List CatalogFile) (o : Option (List ℕ)) (names : List (List ℕ)) (old now new : List NamedFile)
    → AreSettled files (option_to_list o) old now → AreSettled files names now new → AreSettled files (cons_option o names) old new
settled-line files None names old now new front back = settled-front files None names old now new front back
settled-line files (Some one) names old now new front back = settled-front files (Some one) names old now new front back

-- a file of this name was taken before
pub settled-there : (files : List CatalogFile) (name : List ℕ) (others : List NamedFile) → has_named name others ≡ true → AreSettled files (name ∷ []) others others
settled-there files name others has = record { settled = λ all. all; each = λ other any. by other (bytes_eq other name) refl any; kept = λ other is. is }
  where
    by : (other : List ℕ) (b : Bool) → bytes_eq other name ≡ b → (b || false) ≡ true → has_named other others ≡ true
    by other true same any = subst (λ (n : List ℕ). has_named n others ≡ true) (sym (same_name-equal other name same)) has
    by other false same any = absurd (false≢true any)

-- it is taken now
pub settled-more : (files : List CatalogFile) (one : NamedFile) (others more : List NamedFile) → more ≡ others ++ one ∷ [] → IsSettled files one
    → AreSettled files (one.name ∷ []) others more
settled-more files one others more is its = record {
  settled = λ all. subst (λ (fs : List NamedFile). AllByRecursion (IsSettled files) fs) (sym is) (all-last (IsSettled files) others one all its);
  each = λ name any. ap (λ (fs : List NamedFile). has_named name fs) is ∙ behind name ∙ or-right (has_named name others) (has_named name (one ∷ [])) any;
  kept = λ name has. ap (λ (fs : List NamedFile). has_named name fs) is ∙ behind name ∙ ap (λ (b : Bool). b || has_named name (one ∷ [])) has;
}
  where
    behind : (name : List ℕ) → has_named name (others ++ one ∷ []) ≡ (has_named name others || has_named name (one ∷ []))
    behind name = list_any-append (λ (other : NamedFile). bytes_eq name other.name) others (one ∷ [])

abbrev named_file : (name source : List ℕ) → NamedFile
named_file name source = record { name = name; source = source }

pub settled-file : (files : List CatalogFile) (name source : List ℕ) (file : CatalogFile) (others more : List NamedFile) → more ≡ others ++ named_file name source ∷ []
    → find (is_named name) files ≡ Some file → (file.kind ≡ Physical) × IsAlone file.source → source ≡ file.source → AreSettled files (name ∷ []) others more
settled-file files name source file others more is first stays same =
    settled-more files (named_file name source) others more is
    (record { there = record { file = file; first = first; physical = stays.0; same = sym same }; alone = subst (λ (text : List ℕ). IsAlone text) (sym same) stays.1 })

-- ---- what the names find

abbrev state_alone : (source : List ℕ) → PhysicalSpec → FileState
state_alone source spec = record { source = source; spec = PhysicalFile spec; members = [] }

module _ (name : List ℕ) (file : CatalogFile) (spec : PhysicalSpec) (physical : file.kind ≡ Physical)
    (alone : (before : Named FileState) → spec_beside before Physical file.source ≡ Some (PhysicalFile spec)) where
  its-own : (before : Named FileState) → named name before ≡ None → is_named name file ≡ true
      → named name (with_described file (spec_beside before file.kind file.source) before) ≡ Some (state_alone file.source spec)
  its-own before none same =
      ap (λ (o : Option FileSpec). named name (with_described file o before)) (ap (λ (k : FileKind). spec_beside before k file.source) physical ∙ alone before)
      ∙ named-last before name (file.name, state_alone file.source spec)
      ∙ ap (λ (o : Option FileState). or-else o (cond (same_name name file.name) (Some (state_alone file.source spec)) None)) none
      ∙ ap (λ (b : Bool). cond b (Some (state_alone file.source spec)) None) (same_name-symm name file.name ∙ same)

  first-there : (first : CatalogFile) (files : List CatalogFile) (before : Named FileState) → named name before ≡ None → is_named name first ≡ true → first ≡ file
      → named name (described_behind before (first ∷ files)) ≡ Some (state_alone file.source spec)
  first-there first files before none same is =
      subst (λ (f : CatalogFile). named name (described_behind before (f ∷ files)) ≡ Some (state_alone file.source spec)) (sym is)
      (behind-keeps files (with_described file (spec_beside before file.kind file.source) before) name (state_alone file.source spec)
      (its-own before none (ap (is_named name) (sym is) ∙ same)))

  first-found : (files : List CatalogFile) (before : Named FileState) → named name before ≡ None → find (is_named name) files ≡ Some file
      → named name (described_behind before files) ≡ Some (state_alone file.source spec)
  first-found [] before none found = absurd (none-some found)
  first-found (first ∷ files) before none found =
      elim (is_named name first) as (λ b. is_named name first ≡ b → cond b (Some first) (find (is_named name) files) ≡ Some file
      → named name (described_behind before (first ∷ files)) ≡ Some (state_alone file.source spec)) [
        | true ↦ λ same is. first-there first files before none same (some-same is)
        | false ↦ λ other is. first-found files (with_described first (spec_beside before first.kind first.source) before)
            (described-other first (spec_beside before first.kind first.source) before name (same_name-symm name first.name ∙ other) ∙ none) is
      ] refl found

there-found : (files : List CatalogFile) (one : NamedFile) (there : IsThere files one) (alone : IsAlone one.source)
    → named one.name (described_files files) ≡ Some (state_alone one.source alone.spec)
there-found files one there alone =
    first-found one.name there.file alone.spec there.physical (λ before. ap (spec_beside before Physical) there.same ∙ alone.beside before) files [] refl there.first
    ∙ ap (λ (source : List ℕ). Some (state_alone source alone.spec)) there.same

-- a name of theirs finds the same wherever they are there
names-same : (files later : List CatalogFile) (others : List NamedFile) → AllByRecursion (IsSettled files) others → AllByRecursion (IsThere later) others
    → (name : List ℕ) → has_named name others ≡ true → named name (described_files later) ≡ named name (described_files files)
names-same files later [] settled there name has = absurd (false≢true has)
names-same files later (one ∷ others) settled there name has =
    elim (bytes_eq name one.name) as (λ b. bytes_eq name one.name ≡ b → (b || has_named name others) ≡ true
    → named name (described_files later) ≡ named name (described_files files)) [
      | true ↦ λ same any. subst (λ (n : List ℕ). named n (described_files later) ≡ named n (described_files files)) (sym (same_name-equal name one.name same))
          (there-found later one there.0 settled.0.alone ∙ sym (there-found files one settled.0.there settled.0.alone))
      | false ↦ λ other any. names-same files later others settled.1 there.1 name any
    ] refl has

-- ---- what the source describes

module _ (source : Source) (text : List ℕ) (read : source_of text ≡ Ok source) where
  pub beside-any : (files : Named FileState) → spec_beside files Physical text ≡ if_physical (physical_of (format_named files) source)
  beside-any files = ap (λ (r : Result Source DdsFault). if_physical (described_by (format_named files) r)) read

  -- each file that it names is settled
  pub settled-describes : (files : List CatalogFile) (others : List NamedFile) (spec : PhysicalSpec) → AreSettled files (names_by Physical source) [] others
      → spec_beside (described_files files) Physical text ≡ Some (PhysicalFile spec) → Describes text others spec
  settled-describes files others spec settled is = record {
    beside = λ later there.
        beside-any (described_files later)
        ∙ physical-same source (format_named (described_files later)) (format_named (described_files files))
        (λ name refers. ap format_found (names-same files later others (settled.settled tt) there name (settled.each name (sym (refers-named name source) ∙ refers))))
        ∙ sym (beside-any (described_files files)) ∙ is;
  }

  -- it names none
  pub alone-describes : (o : Option PhysicalSpec) → names_by Physical source ≡ [] → option_map PhysicalFile o ≡ if_physical (physical_of (format_named []) source) → is_some o ≡ true
      → IsAlone text
  alone-describes None none is some = absurd (false≢true some)
  alone-describes (Some spec) none is some = record {
    spec = spec;
    beside = λ files.
        beside-any files
        ∙ physical-same source (format_named files) (format_named [])
        (λ name refers. absurd (false≢true (sym (refers-named name source ∙ ap (λ (names : List (List ℕ)). list_any (bytes_eq name) names) none) ∙ refers)))
        ∙ sym is;
  }
