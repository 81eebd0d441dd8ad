-- What a source names.
use Rattle.std.proofs.Common.{◌≡◌, ℕ, ◌||◌, ◌&&◌, if◌then◌else◌, Bool, true, false, Option, Some, None, IfSome, option_to_list, List, [], ◌∷◌, ◌++◌, refl, ◌∙◌, ap, codes}
use Rattle.std.specs.List.{AllByRecursion, before_first, cons_option, filter_map, list_any}
use Rattle.std.specs.Str.{bytes_eq}
use Rattle.std.proofs.lemmas.Cmp.{nat_list_eq_equiv}
use Rattle.dds_source.specs.declared.arguments.Argument.{Argument}
use Rattle.dds_source.specs.declared.keywords.Keyword.{Keyword}
use Rattle.dds_source.specs.declared.specifications.Source.{Source}
use Rattle.dds_source.specs.declared.specifications.Specification.{Specification}
use Rattle.dds_source.specs.Reading.{is_record}
use Rattle.dds_physical.specs.Keywords.{arguments_of, first_named}
use Rattle.dds_physical.specs.References.{any_refers_to, file_of_keyword, is_named, keyword_refers_to, line_refers_to, place_is, reference_file, refers_to}
use Rattle.dds_logical.specs.FormatLines.{FormatLines, formats_in, is_join_file}
use Rattle.dds_logical.specs.Logical.{base_name}
use Rattle.entry_codec.specs.declared.kinds.FileKind.TheVariants.{Physical}
use Rattle.named_bases.specs.Sources.{base_files, file_in_keyword, file_of_line, names_by, second_name}
use Rattle.restart_laws.proofs.ReferenceLemmas.{NamesOnly}
use Rattle.described_journals.specs.Named.{first_joined, named_argument, named_base}

-- ---- a logical file's source

pub any_cons : (name : List ℕ) (o : Option (List ℕ)) (rest : List (List ℕ)) → list_any (bytes_eq name) (cons_option o rest) ≡ (named_argument name o || list_any (bytes_eq name) rest)
any_cons name None rest = refl
any_cons name (Some other) rest = refl

pub files-named : (fs : List FormatLines) → base_files fs ≡ (if is_join_file fs then first_joined fs else filter_map base_name fs)
files-named [] = refl
files-named (f ∷ fs) = refl

-- a line that begins no format names nothing
pub base_step : (name : List ℕ) (s : Specification) (ss : List Specification)
    → list_any (bytes_eq name) (filter_map base_name (formats_in (s ∷ ss))) ≡ ((is_record s.kind && named_base name s.keywords) || list_any (bytes_eq name) (filter_map base_name (formats_in ss)))
base_step name s ss =
    elim (is_record s.kind) as (λ b. list_any (bytes_eq name)
    (filter_map base_name (if b then record { head = s; body = before_first (λ (other : Specification). is_record other.kind) ss } ∷ formats_in ss else formats_in ss))
    ≡ ((b && named_base name s.keywords) || list_any (bytes_eq name) (filter_map base_name (formats_in ss)))) [
      | true ↦ any_cons name (file_of_keyword (first_named (codes "PFILE") s.keywords)) (filter_map base_name (formats_in ss))
      | false ↦ refl
    ]

-- ---- a physical file's source

or-left : (a b : Bool) → a ≡ true → (a || b) ≡ true
or-left a b is = ap (λ (x : Bool). x || b) is

pub or-right : (a b : Bool) → b ≡ true → (a || b) ≡ true
or-right true b is = refl
or-right false b is = is

own-name : (name : List ℕ) (o : Option (List ℕ)) → o ≡ Some name → is_named name o ≡ true
own-name name o is = ap (is_named name) is ∙ nat_list_eq_equiv.refl name

place-named : (name : List ℕ) (args : List Argument) → place_is name args ≡ is_named name (second_name args)
place-named name [] = refl
place-named name (a ∷ []) = refl
place-named name (a ∷ b ∷ []) = refl
place-named name (a ∷ b ∷ c ∷ more) = refl

keyword-named : (name : List ℕ) (o : Option Keyword) → keyword_refers_to name o ≡ is_named name (file_in_keyword o)
keyword-named name None = refl
keyword-named name (Some k) = place-named name (arguments_of k)

line-named : (P : List ℕ → Type 0) (s : Specification) → ((name : List ℕ) → line_refers_to name s ≡ true → P name) → IfSome (file_of_line s) P
line-named P s each = by (file_of_line s) refl
  where
    by : (o : Option (List ℕ)) → file_of_line s ≡ o → IfSome o P
    by None is = tt
    by (Some name) is = each name (keyword-named name (first_named (codes "REFFLD") s.keywords) ∙ own-name name (file_of_line s) is)

lines-named : (P : List ℕ → Type 0) (ss : List Specification) → ((name : List ℕ) → any_refers_to name ss ≡ true → P name)
    → AllByRecursion (λ (s : Specification). IfSome (file_of_line s) P) ss
lines-named P [] each = tt
lines-named P (s ∷ ss) each = (
  line-named P s (λ name is. each name (or-left (line_refers_to name s) (any_refers_to name ss) is)),
  lines-named P ss (λ name is. each name (or-right (line_refers_to name s) (any_refers_to name ss) is)),
)

file-named : (P : List ℕ → Type 0) (source : Source) → ((name : List ℕ) → refers_to name source ≡ true → P name) → IfSome (reference_file source.file) P
file-named P source each = by (reference_file source.file) refl
  where
    by : (o : Option (List ℕ)) → reference_file source.file ≡ o → IfSome o P
    by None is = tt
    by (Some name) is = each name (or-left (is_named name (reference_file source.file)) (any_refers_to name source.specifications) (own-name name (reference_file source.file) is))

-- it names only files that it refers to
pub names-only : (source : Source) → NamesOnly (λ (name : List ℕ). refers_to name source ≡ true) source
names-only source = record {
  file = file-named (λ (name : List ℕ). refers_to name source ≡ true) source (λ name is. is);
  lines = lines-named (λ (name : List ℕ). refers_to name source ≡ true) source.specifications
      (λ name is. or-right (is_named name (reference_file source.file)) (any_refers_to name source.specifications) is);
}

-- it names none
pub none-named : (source : Source) → reference_file source.file ≡ None → filter_map file_of_line source.specifications ≡ [] → names_by Physical source ≡ []
none-named source file lines = λ i. option_to_list (file i) ++ lines i
