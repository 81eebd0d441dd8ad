-- Statements and their conditions, line by line.
use Rattle.std.proofs.Common.{◌≡◌, ◌∙◌, ap, sym, refl, ℕ, Bool, true, false, not, List, [], ◌∷◌, ◌++◌, Option, Some, None, inl, inr, if◌then◌else◌}
use Rattle.std.specs.List.{cons_option}
use Rattle.std.specs.Option.{option_to_list}
use Rattle.std.proofs.lemmas.Bool.{cases_Bool}
use Rattle.dds_physical.below.dds_source.specs.declared.specifications.Specification.{Specification}
use Rattle.dds_physical.below.dds_source.specs.declared.specifications.SpecificationKind.{SpecificationKind}
use Rattle.dds_physical.below.dds_source.specs.declared.specifications.SpecificationKind.TheVariants as kinds
use Rattle.dds_physical.specs.Reading.{is_condition}
use Rattle.file_model.specs.declared.views.ViewField.{ViewField}
use Rattle.file_model.specs.declared.rules.Test.{Test}
use Rattle.file_model.specs.declared.rules.Statement.{Statement}
use Rattle.dds_logical.specs.declared.format_lines.LineKind.TheVariants as line_kinds
use Rattle.dds_logical.specs.Selections.{conditions_on, has_all, choice_of, statement_begun, statements_said}
use Rattle.dds_logical.specs.Judged.{is_of, lines_of}
use Rattle.dds_logical.specs.Tested.{statement_with}

pub begun_is : (find : List ℕ → Option ViewField) (kind : SpecificationKind) (s : Specification) (ss : List Specification) → statement_with find (choice_of kind) s ss ≡ statement_begun find kind s ss
begun_is find kinds.Record s ss = refl
begun_is find kinds.Field s ss = refl
begun_is find kinds.Key s ss = refl
begun_is find kinds.Select s ss = refl
begun_is find kinds.Omit s ss = refl
begun_is find kinds.And s ss = refl
begun_is find kinds.Join s ss = refl

begins_none : (find : List ℕ → Option ViewField) (kind : SpecificationKind) (s : Specification) (ss : List Specification) → is_condition kind ≡ false → statement_begun find kind s ss ≡ []
begins_none find kinds.Record s ss h = refl
begins_none find kinds.Field s ss h = refl
begins_none find kinds.Key s ss h = refl
begins_none find kinds.Select s ss h = absurd cc
begins_none find kinds.Omit s ss h = absurd cc
begins_none find kinds.And s ss h = refl
begins_none find kinds.Join s ss h = refl

pub statements_more : (find : List ℕ → Option ViewField) (s : Specification) (ss : List Specification)
    → statement_begun find s.kind s (lines_of line_kinds.Selection ss) ++ statements_said find (lines_of line_kinds.Selection ss) ≡ statements_said find (lines_of line_kinds.Selection (s ∷ ss))
statements_more find s ss = elim (cases_Bool (is_condition s.kind)) [
  | inl h ↦ rw h refl
  | inr h ↦ rw h (ap (λ (xs : List Statement). xs ++ statements_said find (lines_of line_kinds.Selection ss)) (begins_none find s.kind s (lines_of line_kinds.Selection ss) h))
]
