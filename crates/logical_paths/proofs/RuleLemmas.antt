-- What select and omit lines compare are fields of the format or of its base file.
use Rattle.std.proofs.Common.{◌≡◌, ℕ, true, Contains, cond, nat_eq, codes, Option, Some, None, IfSome, List, [], ◌∷◌}
use Rattle.std.specs.List.{AllByRecursion, filter_map}
use Rattle.std.proofs.lemmas.Bool.{cond_both}
use lib.Pointwise.{pointwise}
use Rattle.field_types.specs.declared.values.Value.{Value}
use Rattle.file_model.below.record_fmt.specs.declared.formats.Field.{Field}
use Rattle.file_model.specs.Layout.{lies_from}
use Rattle.file_model.specs.declared.rules.Choice.{Choice}
use Rattle.file_model.specs.declared.rules.Choice.TheVariants.{Select, Omit}
use Rattle.file_model.specs.declared.rules.Relation.{Relation}
use Rattle.file_model.specs.declared.rules.Test.{Test}
use Rattle.file_model.specs.declared.rules.Test.TheVariants as tests
use Rattle.file_model.specs.declared.views.ViewField.{ViewField}
use Rattle.dds_source.specs.declared.arguments.Argument.{Argument}
use Rattle.dds_source.specs.declared.keywords.Keyword.{Keyword}
use Rattle.dds_source.specs.declared.specifications.Specification.{Specification}
use Rattle.dds_source.specs.declared.specifications.SpecificationKind.{SpecificationKind}
use Rattle.dds_source.specs.declared.specifications.SpecificationKind.TheVariants as kinds
use Rattle.dds_physical.specs.Defaults.{literal_value}
use Rattle.dds_physical.specs.Keywords.{has_name, arguments_of}
use Rattle.dds_physical.specs.KeywordRules.{argument_name}
use Rattle.dds_physical.specs.Names.{name_of, field_named}
use Rattle.dds_logical.specs.Fields.{mapping_of}
use Rattle.dds_logical.specs.KeywordArguments.{relation_of, is_compare_keyword}
use Rattle.dds_logical.specs.Selections.{shown_field, field_itself, or_else, field_to_test, tested_field, compared_field, compared_with, comparison_said, range_between, test_said, conditions_on}
use Rattle.dds_logical.specs.Selections.{conditions_said, further_lines, has_all, statement_of, statement_begun, statements_said, rules_said}
use Rattle.logical_laws.proofs.ListLemmas.{each-append, always-flat}
use Rattle.logical_paths.specs.Steps.{shown_of}
use Rattle.logical_paths.specs.KeyedViews.{IsShownOf, IsTestOver, IsConditionOver, IsStatementOver, AreRulesOver}
use Rattle.logical_paths.proofs.OriginLemmas.{each-cons, field-there, own-shown}

-- ---- the field of a name

module _ (base : List Field) where
  shown-named : (name : List ℕ) (named : List _) → AllByRecursion (IsShownOf base) (shown_of (mapping_of named)) → IfSome (shown_field name named) (IsShownOf base)
  shown-named name [] all = tt
  shown-named name (f ∷ fs) all =
      cond_both (pointwise nat_eq f.name name) (Some f.shown.field) (shown_field name fs) (λ (o : Option ViewField). IfSome o (IsShownOf base)) (λ _. all.0) (λ _. shown-named name fs all.1)

  itself-shown : lies_from 0 base ≡ true → (o : Option Field) → IfSome o (Contains base) → IfSome (field_itself o) (IsShownOf base)
  itself-shown lies None there = tt
  itself-shown lies (Some f) there = own-shown base lies f there

  either-shown : (o other : Option ViewField) → IfSome o (IsShownOf base) → IfSome other (IsShownOf base) → IfSome (or_else o other) (IsShownOf base)
  either-shown None other first second = second
  either-shown (Some f) other first second = first

  pub find-shown : lies_from 0 base ≡ true → (named : List _) → AllByRecursion (IsShownOf base) (shown_of (mapping_of named)) → (name : List ℕ)
      → IfSome (field_to_test named base name) (IsShownOf base)
  find-shown lies named all name =
      either-shown (shown_field name named) (field_itself (field_named name base)) (shown-named name named all) (itself-shown lies (field_named name base) (field-there name base))

-- ---- what lines say

module _ (base : List Field) (find : List ℕ → Option ViewField) (finds : (name : List ℕ) → IfSome (find name) (IsShownOf base)) where
  tested-shown : (name : Option (List ℕ)) → IfSome (tested_field find name) (IsShownOf base)
  tested-shown None = tt
  tested-shown (Some name) = finds name

  compared-over : (relation : Relation) (o : Option ViewField) → IfSome o (IsShownOf base) → IfSome (compared_field relation o) (IsTestOver base)
  compared-over relation None here = tt
  compared-over relation (Some f) here = here

  with-over : (relation : Option Relation) (literal : Option Value) (name : Option (List ℕ)) → IfSome (compared_with find relation literal name) (IsTestOver base)
  with-over None literal name = tt
  with-over (Some relation) (Some literal) name = tt
  with-over (Some relation) None name = compared-over relation (tested_field find name) (tested-shown name)

  comparison-over : (args : List Argument) → IfSome (comparison_said find args) (IsTestOver base)
  comparison-over [] = tt
  comparison-over (a ∷ []) = tt
  comparison-over (a ∷ b ∷ []) = with-over (relation_of a) (literal_value b) (argument_name b)
  comparison-over (a ∷ b ∷ c ∷ more) = tt

  range-over : (values : List Value) → IfSome (range_between values) (IsTestOver base)
  range-over [] = tt
  range-over (low ∷ []) = tt
  range-over (low ∷ high ∷ []) = tt
  range-over (low ∷ high ∷ v ∷ more) = tt

  test-over : (k : Keyword) → IfSome (test_said find k) (IsTestOver base)
  test-over k =
      let values : List Value = filter_map literal_value (arguments_of k) in
      let P : Option Test → Type 0 = λ o. IfSome o (IsTestOver base) in
      cond_both (is_compare_keyword k) (comparison_said find (arguments_of k))
      (cond (has_name (codes "RANGE") k) (range_between values) (cond (has_name (codes "VALUES") k) (Some (tests.Values values)) None)) P (λ _. comparison-over (arguments_of k))
      (λ _. cond_both (has_name (codes "RANGE") k) (range_between values) (cond (has_name (codes "VALUES") k) (Some (tests.Values values)) None) P (λ _. range-over values)
      (λ _. cond_both (has_name (codes "VALUES") k) (Some (tests.Values values)) None P (λ _. tt) (λ _. tt)))

  each-test : (ks : List Keyword) → AllByRecursion (IsTestOver base) (filter_map (test_said find) ks)
  each-test [] = tt
  each-test (k ∷ ks) = each-cons (IsTestOver base) (test_said find k) (filter_map (test_said find) ks) (test-over k) (each-test ks)

  conditions-over : (o : Option ViewField) (ts : List Test) → IfSome o (IsShownOf base) → AllByRecursion (IsTestOver base) ts → AllByRecursion (IsConditionOver base) (conditions_on o ts)
  conditions-over None ts here all = tt
  conditions-over (Some f) [] here all = tt
  conditions-over (Some f) (t ∷ ts) here all = (record { field = here; test = all.0 }, conditions-over (Some f) ts here all.1)

  line-over : (s : Specification) → AllByRecursion (IsConditionOver base) (conditions_said find s)
  line-over s = conditions-over (tested_field find (name_of s.name)) (filter_map (test_said find) s.keywords) (tested-shown (name_of s.name)) (each-test s.keywords)

  statement-over : (choice : Choice) (ss : List Specification) → IsStatementOver base (statement_of find choice ss)
  statement-over choice ss = always-flat (IsConditionOver base) (conditions_said find) line-over ss

  chosen-over : (choice : Choice) (s : Specification) (ss : List Specification)
      → AllByRecursion (IsStatementOver base) (cond (has_all s) [] (statement_of find choice (s ∷ further_lines ss) ∷ []))
  chosen-over choice s ss =
      cond_both (has_all s) [] (statement_of find choice (s ∷ further_lines ss) ∷ []) (AllByRecursion (IsStatementOver base)) (λ _. tt) (λ _. (statement-over choice (s ∷ further_lines ss), tt))

  begun-over : (kind : SpecificationKind) (s : Specification) (ss : List Specification) → AllByRecursion (IsStatementOver base) (statement_begun find kind s ss)
  begun-over kinds.Record s ss = tt
  begun-over kinds.Field s ss = tt
  begun-over kinds.Key s ss = tt
  begun-over kinds.Select s ss = chosen-over Select s ss
  begun-over kinds.Omit s ss = chosen-over Omit s ss
  begun-over kinds.And s ss = tt
  begun-over kinds.Join s ss = tt

  statements-over : (ss : List Specification) → AllByRecursion (IsStatementOver base) (statements_said find ss)
  statements-over [] = tt
  statements-over (s ∷ ss) = each-append (IsStatementOver base) (statement_begun find s.kind s ss) (statements_said find ss) (begun-over s.kind s ss) (statements-over ss)

  pub rules-over : (ss : List Specification) → AreRulesOver base (rules_said find ss)
  rules-over ss = statements-over ss
