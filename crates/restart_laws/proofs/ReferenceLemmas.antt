-- What a physical file's source describes doesn't change where the files that it names stay.
use Rattle.std.proofs.Common.{◌≡◌, ℕ, if◌then◌else◌, Bool, true, false, Option, Some, None, IfSome, Result, Ok, Err, List, [], ◌∷◌, ◌++◌, refl, sym, ◌∙◌, ap, codes}
use Rattle.std.specs.List.{AllByRecursion}
use Rattle.field_types.specs.declared.kinds.FieldType.{FieldType}
use Rattle.record_fmt.specs.declared.formats.Field.{Field}
use Rattle.record_fmt.specs.declared.formats.Format.{Format}
use Rattle.dds_source.specs.declared.arguments.Argument.{Argument}
use Rattle.dds_source.specs.declared.faults.DdsFault.{DdsFault}
use Rattle.dds_source.specs.declared.faults.DdsCause.TheVariants.{UnknownReference}
use Rattle.dds_source.specs.declared.keywords.Keyword.{Keyword}
use Rattle.dds_source.specs.declared.specifications.Source.{Source}
use Rattle.dds_source.specs.declared.specifications.Specification.{Specification}
use Rattle.dds_source.specs.declared.specifications.SpecificationKind.{SpecificationKind}
use Rattle.dds_source.specs.declared.specifications.SpecificationKind.TheVariants as kinds
use Rattle.dds_source.specs.Entries.{when}
use Rattle.dds_source.specs.Faults.{first_after}
use Rattle.dds_physical.specs.declared.physical_files.PhysicalSpec.{PhysicalSpec}
use Rattle.dds_physical.specs.Attributes.{attributes}
use Rattle.dds_physical.specs.Draft.{nothing}
use Rattle.dds_physical.specs.KeywordRules.{argument_name, is_special}
use Rattle.dds_physical.specs.Keywords.{arguments_of, first_named}
use Rattle.dds_physical.specs.Lines.{described, described_of, line_faults, line_faults_of, lines_described, lines_faults, or_those, type_faults, unless_faulty, with_field}
use Rattle.dds_physical.specs.Names.{name_of}
use Rattle.dds_physical.specs.Physical.{draft_of, faults_of, finished, physical_of, specification, specification_unless}
use Rattle.dds_physical.specs.Places.{error_list, fault_of_keyword}
use Rattle.dds_physical.specs.References.{file_of, file_of_keyword, found_or, is_file_missing, is_format_missing, is_missing, names_more, own_type, reference_faults, reference_file, reference_type, referenced, referenced_by, type_in_file, type_in_format, typed, typed_by}
use Rattle.dds_physical.specs.WholeFile.{file_faults, reference_file_faults, whole_faults}
use Rattle.dds_physical.proofs.FaultLemmas.{nothing_noted}
use Rattle.library_kept.proofs.DefaultLemmas.{none-left, none-right, not-said}
use Rattle.library_kept.proofs.FieldLemmas.{unless-ok}
use Rattle.restart_model.specs.Sources.{file_in_keyword, file_of_line, second_name}

found-ok : (o : Option FieldType) (fault : DdsFault) (t : FieldType) → found_or o fault ≡ Ok t → o ≡ Some t
found-ok None fault t e = absurd cc
found-ok (Some u) fault t e = let same : u ≡ t = cc in ap (λ (x : FieldType). Some x) same

found-so : (o : Option FieldType) (fault : DdsFault) (t : FieldType) → o ≡ Some t → found_or o fault ≡ Ok t
found-so o fault t e = ap (λ (x : Option FieldType). found_or x fault) e

-- ---- other faults in their place

in-the-middle : (xs ys ws zs vs ts : List DdsFault) → ws ≡ ys → vs ≡ zs → xs ++ ys ++ zs ++ ts ≡ [] → xs ++ ws ++ vs ++ ts ≡ []
in-the-middle xs ys ws zs vs ts one other none = (λ i. xs ++ one i ++ other i ++ ts) ∙ none

at-the-end : (xs ys zs : List DdsFault) → zs ≡ ys → xs ++ ys ≡ [] → xs ++ zs ≡ []
at-the-end xs ys zs same none = (λ i. xs ++ same i) ∙ none

all-none : (xs ys zs : List DdsFault) → xs ≡ [] → ys ≡ [] → zs ≡ [] → xs ++ ys ++ zs ≡ []
all-none xs ys zs a b c = λ i. a i ++ b i ++ c i

-- all that the source names is so
pub record NamesOnly (P : List ℕ → Type 0) (source : Source) : Type 0 where
  pub file : IfSome (reference_file source.file) P
  pub lines : AllByRecursion (λ (s : Specification). IfSome (file_of_line s) P) source.specifications

-- what the names that matter find stays
module _ (P : List ℕ → Type 0) (formats others : List ℕ → Option Format)
    (stay : (name : List ℕ) (format : Format) → P name → formats name ≡ Some format → others name ≡ Some format) where
  type-stays : (file field : Option (List ℕ)) (t : FieldType) → IfSome file P → type_in_file formats file field ≡ Some t → type_in_file others file field ≡ Some t
  type-stays None field t p e = absurd cc
  type-stays (Some file) None t p e = absurd cc
  type-stays (Some file) (Some field) t p e = by (formats file) refl e
    where
      by : (o : Option Format) → formats file ≡ o → type_in_format field o ≡ Some t → type_in_format field (others file) ≡ Some t
      by None is h = absurd cc
      by (Some format) is h = ap (type_in_format field) (stay file format p is) ∙ h

  reference-stays : (file : Option (List ℕ)) (own : List Field) (args : List Argument) (t : FieldType) → IfSome file P → IfSome (second_name args) P
      → reference_type formats file own args ≡ Some t → reference_type others file own args ≡ Some t
  reference-stays file own [] t p q e = absurd cc
  reference-stays file own (a ∷ []) t p q e = type-stays file (argument_name a) t p e
  reference-stays file own (a ∷ b ∷ []) t p q e =
      elim (is_special (codes "*SRC") b) as (λ c. (if c then own_type (argument_name a) own else type_in_file formats (argument_name b) (argument_name a)) ≡ Some t
      → (if c then own_type (argument_name a) own else type_in_file others (argument_name b) (argument_name a)) ≡ Some t) [
        | true ↦ λ h. h
        | false ↦ λ h. type-stays (argument_name b) (argument_name a) t q h
      ] e
  reference-stays file own (a ∷ b ∷ c ∷ more) t p q e = absurd cc

  -- ---- a line

  module _ (file : Option (List ℕ)) (p : IfSome file P) where
    by-keyword : (own : List Field) (s : Specification) (o : Option Keyword) (t : FieldType) → IfSome (file_in_keyword o) P → referenced_by formats file own s o ≡ Ok t
        → referenced_by others file own s o ≡ Ok t
    by-keyword own s None t q e =
        found-so (type_in_file others file (name_of s.name)) _ t (type-stays file (name_of s.name) t p (found-ok (type_in_file formats file (name_of s.name)) _ t e))
    by-keyword own s (Some k) t q e =
        found-so (reference_type others file own (arguments_of k)) _ t
        (reference-stays file own (arguments_of k) t p q (found-ok (reference_type formats file own (arguments_of k)) _ t e))

    referenced-stays : (own : List Field) (s : Specification) (t : FieldType) → IfSome (file_of_line s) P → referenced formats file own s ≡ Ok t → referenced others file own s ≡ Ok t
    referenced-stays own s t q e = by-keyword own s (first_named (codes "REFFLD") s.keywords) t q e

    typed-stays : (own : List Field) (s : Specification) (t : FieldType) → IfSome (file_of_line s) P → typed formats file own s ≡ Ok t → typed others file own s ≡ Ok t
    typed-stays own s t q e =
        elim s.columns.reference as (λ b. (if b then typed_by s (referenced formats file own s) else attributes s None) ≡ Ok t
        → (if b then typed_by s (referenced others file own s) else attributes s None) ≡ Ok t) [
          | true ↦ λ h. by (referenced formats file own s) refl h
          | false ↦ λ h. h
        ] e
      where
        by : (r : Result FieldType DdsFault) → referenced formats file own s ≡ r → typed_by s r ≡ Ok t → typed_by s (referenced others file own s) ≡ Ok t
        by (Ok u) is h = ap (typed_by s) (referenced-stays own s u q is) ∙ h
        by (Err fault) is h = absurd cc

    -- what is named for nothing but has to be there
    faults-stay : (own : List Field) (s : Specification) → IfSome (file_of_line s) P → reference_faults formats file own s ≡ []
        → reference_faults others file own s ≡ reference_faults formats file own s
    faults-stay own s q none =
        elim (names_more s) as (λ b. (if b then error_list (referenced formats file own s) else []) ≡ []
        → (if b then error_list (referenced others file own s) else []) ≡ (if b then error_list (referenced formats file own s) else [])) [
          | true ↦ λ h. by (referenced formats file own s) refl h
          | false ↦ λ h. refl
        ] none
      where
        by : (r : Result FieldType DdsFault) → referenced formats file own s ≡ r → error_list r ≡ [] → error_list (referenced others file own s) ≡ error_list (referenced formats file own s)
        by (Ok t) is h = ap error_list (referenced-stays own s t q is ∙ sym is)
        by (Err fault) is h = absurd cc

    type-same : (own : List Field) (s : Specification) → IfSome (file_of_line s) P → type_faults (typed formats file own s) s.keywords ≡ [] → typed others file own s ≡ typed formats file own s
    type-same own s q none = by (typed formats file own s) refl none
      where
        by : (r : Result FieldType DdsFault) → typed formats file own s ≡ r → type_faults r s.keywords ≡ [] → typed others file own s ≡ typed formats file own s
        by (Ok t) is h = typed-stays own s t q is ∙ sym is
        by (Err fault) is h = absurd cc

    line-same : (d : _) (s : Specification) (kind : SpecificationKind) → IfSome (file_of_line s) P → line_faults_of formats file d s kind ≡ []
        → (line_faults_of others file d s kind ≡ []) × (described_of others file d s kind ≡ described_of formats file d s kind)
    line-same d s kinds.Record q none = (none, refl)
    line-same d s kinds.Field q none =
        let others_said = none-right _ (reference_faults formats file d.fields s) (none-left _ (type_faults (typed formats file d.fields s) s.keywords) (none-left _ _ none)) in
        let type_said = none-right _ (type_faults (typed formats file d.fields s) s.keywords) (none-left _ _ none) in
        let refs = faults-stay d.fields s q others_said in
        let its = type-same d.fields s q type_said in (
          in-the-middle _ (reference_faults formats file d.fields s) (reference_faults others file d.fields s) (type_faults (typed formats file d.fields s) s.keywords)
              (type_faults (typed others file d.fields s) s.keywords) _ refs (ap (λ (r : Result FieldType DdsFault). type_faults r s.keywords) its) none,
          (λ i. with_field d (name_of s.name) (its i) s.keywords),
        )
    line-same d s kinds.Key q none = (none, refl)
    line-same d s kinds.Select q none = (none, refl)
    line-same d s kinds.Omit q none = (none, refl)
    line-same d s kinds.And q none = (none, refl)
    line-same d s kinds.Join q none = (none, refl)

    one-line : (d : _) (s : Specification) → IfSome (file_of_line s) P → line_faults formats file d s ≡ []
        → (line_faults others file d s ≡ []) × (described others file d s ≡ described formats file d s)
    unfolding line_faults described
    one-line d s q none = line-same d s s.kind q none

    -- ---- lines

    both-none : (fs gs : List DdsFault) → or_those fs gs ≡ [] → (fs ≡ []) × (gs ≡ [])
    both-none [] gs e = (refl, e)
    both-none (f ∷ fs) gs e = absurd cc

    lines-same : (ss : List Specification) (d : _) → AllByRecursion (λ (s : Specification). IfSome (file_of_line s) P) ss → lines_faults formats file d ss ≡ []
        → (lines_faults others file d ss ≡ []) × (lines_described others file d ss ≡ lines_described formats file d ss)
    lines-same [] d qs none = (refl, refl)
    lines-same (s ∷ ss) d qs none =
        let parts = both-none (line_faults formats file d s) (lines_faults formats file (described formats file d s) ss) none in
        let line = one-line d s qs.0 parts.0 in
        let rest = lines-same ss (described formats file d s) qs.1 parts.1 in (
          (λ i. or_those (line.0 i) (lines_faults others file (line.1 i) ss)) ∙ rest.0,
          (λ i. unless_faulty (line.0 i) (line.1 i) (lines_described others file (line.1 i) ss)) ∙ rest.1
              ∙ sym (ap (λ (fs : List DdsFault). unless_faulty fs (described formats file d s) (lines_described formats file (described formats file d s) ss)) parts.0),
        )

  -- ---- REF

  format-stays : (file : List ℕ) (args : List Argument) → P file → is_format_missing args (formats file) ≡ false → is_format_missing args (others file) ≡ false
  format-stays file args p h = by (formats file) refl h
    where
      none : (args : List Argument) → is_format_missing args None ≡ true
      none [] = refl
      none (a ∷ []) = refl
      none (a ∷ b ∷ more) = refl

      by : (o : Option Format) → formats file ≡ o → is_format_missing args o ≡ false → is_format_missing args (others file) ≡ false
      by None is e = absurd (let missing : is_format_missing args None ≡ true = none args in cc)
      by (Some format) is e = ap (is_format_missing args) (stay file format p is) ∙ e

  missing-stays : (args : List Argument) (file : Option (List ℕ)) → IfSome file P → is_missing formats args file ≡ false → is_missing others args file ≡ false
  missing-stays args None p h = absurd cc
  missing-stays args (Some file) p h = format-stays file args p h

  file-stays : (o : Option Keyword) → IfSome (file_of_keyword o) P → reference_file_faults formats o ≡ [] → reference_file_faults others o ≡ reference_file_faults formats o
  file-stays None p none = refl
  file-stays (Some k) p none =
      let there : is_file_missing formats (arguments_of k) ≡ false = not-said (is_file_missing formats (arguments_of k)) _ none in
      ap (λ (b : Bool). when b (fault_of_keyword UnknownReference k)) (missing-stays (arguments_of k) (file_of (arguments_of k)) p there ∙ sym there)

  -- ---- the whole

  faults-parts : (source : Source) → faults_of formats source ≡ []
      → (lines_faults formats (reference_file source.file) nothing source.specifications ≡ []) × (file_faults formats source.file source.specifications ≡ [])
  unfolding faults_of
  faults-parts source none = (
    none-left (lines_faults formats (reference_file source.file) nothing source.specifications) _ (none-left _ (whole_faults source.last_line source.specifications (draft_of formats source)) none),
    none-right _ (file_faults formats source.file source.specifications) (none-left _ (whole_faults source.last_line source.specifications (draft_of formats source)) none),
  )

  draft-same : (source : Source) → NamesOnly P source → faults_of formats source ≡ [] → draft_of others source ≡ draft_of formats source
  unfolding draft_of
  draft-same source only none = (lines-same (reference_file source.file) only.file source.specifications nothing only.lines (faults-parts source none).0).1

  faults-same : (source : Source) → NamesOnly P source → faults_of formats source ≡ [] → faults_of others source ≡ []
  unfolding faults_of
  faults-same source only none =
      let parts = faults-parts source none in
      let lines = (lines-same (reference_file source.file) only.file source.specifications nothing only.lines parts.0).0 in
      let refs = file-stays (first_named (codes "REF") source.file) only.file
      (none-right _ (reference_file_faults formats (first_named (codes "REF") source.file)) parts.1) in
      let files = at-the-end _ (reference_file_faults formats (first_named (codes "REF") source.file)) (reference_file_faults others (first_named (codes "REF") source.file)) refs parts.1 in
      let whole = none-right _ (whole_faults source.last_line source.specifications (draft_of formats source)) none in
      all-none (lines_faults others (reference_file source.file) nothing source.specifications) (file_faults others source.file source.specifications)
      (whole_faults source.last_line source.specifications (draft_of others source)) lines files
      (ap (whole_faults source.last_line source.specifications) (draft-same source only none) ∙ whole)

  pub physical-stays : (source : Source) (spec : PhysicalSpec) → NamesOnly P source → physical_of formats source ≡ Ok spec → physical_of others source ≡ Ok spec
  unfolding physical_of specification
  physical-stays source spec only h =
      let good = unless-ok (specification formats source) spec (first_after None (faults_of formats source)) h in
      let none = nothing_noted None (faults_of formats source) good.0 in
      let clear = faults-same source only none in
      let draft = draft-same source only none in
      (λ i. specification_unless (finished (draft i) source.file) (first_after None (clear i))) ∙ ap (λ (s : PhysicalSpec). Ok s) good.1
