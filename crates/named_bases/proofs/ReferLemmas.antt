-- A physical file's source refers to those files that REF and REFFLD name.
use Rattle.std.proofs.Common.{◌≡◌, ℕ, ◌||◌, nat_eq, Bool, true, false, Option, Some, None, option_to_list, List, [], ◌∷◌, refl, sym, ◌∙◌, ap, codes}
use Rattle.std.specs.List.{cons_option, filter_map, list_any}
use Rattle.std.specs.Str.{bytes_eq}
use Rattle.std.proofs.lemmas.Cmp.{nat_list_eq_equiv}
use Rattle.std.proofs.lemmas.List.Folds.{list_any-append}
use lib.Pointwise.{pointwise}
use Rattle.entry_codec.specs.declared.kinds.FileKind.TheVariants.{Physical}
use Rattle.dds_source.specs.declared.arguments.Argument.{Argument}
use Rattle.dds_source.specs.declared.keywords.Keyword.{Keyword}
use Rattle.dds_source.specs.declared.specifications.Source.{Source}
use Rattle.dds_source.specs.declared.specifications.Specification.{Specification}
use Rattle.dds_physical.specs.Keywords.{arguments_of, first_named}
use Rattle.dds_physical.specs.References.{any_refers_to, is_named, keyword_refers_to, place_is, reference_file, refers_to}
use Rattle.restart_model.specs.Sources.{file_in_keyword, file_of_line, names_by, second_name}

or-nothing : (b : Bool) → b ≡ (b || false)
or-nothing true = refl
or-nothing false = refl

module _ (name : List ℕ) where
  turned : (other : List ℕ) → pointwise nat_eq other name ≡ bytes_eq name other
  turned other = nat_list_eq_equiv.symm other name

  one-name : (o : Option (List ℕ)) → is_named name o ≡ list_any (bytes_eq name) (option_to_list o)
  one-name None = refl
  one-name (Some other) = turned other ∙ or-nothing (bytes_eq name other)

  place-named : (args : List Argument) → place_is name args ≡ is_named name (second_name args)
  place-named [] = refl
  place-named (a ∷ []) = refl
  place-named (a ∷ b ∷ []) = refl
  place-named (a ∷ b ∷ c ∷ more) = refl

  keyword-named : (o : Option Keyword) → keyword_refers_to name o ≡ is_named name (file_in_keyword o)
  keyword-named None = refl
  keyword-named (Some k) = place-named (arguments_of k)

  one-more : (o : Option (List ℕ)) (names : List (List ℕ)) → (is_named name o || list_any (bytes_eq name) names) ≡ list_any (bytes_eq name) (cons_option o names)
  one-more None names = refl
  one-more (Some other) names = ap (λ (b : Bool). b || list_any (bytes_eq name) names) (turned other)

  lines-named : (ss : List Specification) → any_refers_to name ss ≡ list_any (bytes_eq name) (filter_map file_of_line ss)
  lines-named [] = refl
  lines-named (s ∷ ss) =
      (λ i. keyword-named (first_named (codes "REFFLD") s.keywords) i || lines-named ss i) ∙ one-more (file_of_line s) (filter_map file_of_line ss)

  pub refers-named : (source : Source) → refers_to name source ≡ list_any (bytes_eq name) (names_by Physical source)
  refers-named source =
      (λ i. one-name (reference_file source.file) i || lines-named source.specifications i)
      ∙ sym (list_any-append (bytes_eq name) (option_to_list (reference_file source.file)) (filter_map file_of_line source.specifications))
