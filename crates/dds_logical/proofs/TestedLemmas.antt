-- The fields that are tested, and the lines of a selection.
use Rattle.std.proofs.Common.{◌+◌, suc, cond, flat_map, subst, arith, ◌≡◌, ◌∙◌, ap, sym, refl, ℕ, Bool, true, false, not, ◌&&◌, ◌||◌, ◌==◌, List, [], ◌∷◌, ◌++◌, map, length, take, Option, Some, None, is_some, is_none, nat_eq, if◌then◌else◌, inl, inr}
use Rattle.std.specs.List.{list_any, before_first, prefix_len, filter_map, cons_option}
use Rattle.std.specs.Option.{option_to_list}
use Rattle.std.proofs.Common.{IfSome, All}
use Rattle.std.proofs.lemmas.List.Elements.{All-head, All-tail}
use Rattle.record_fmt.specs.FieldTypes.{IsFieldType, width}
use Rattle.record_fmt.specs.Layout.{IsLaidOut, lies_from}
use Rattle.record_fmt.proofs.LayoutLemmas.{lies-parts}
use Rattle.dds_logical.specs.Named.{IsShown}
use Rattle.dds_physical.below.dds_source.specs.declared.keywords.Keyword.{Keyword}
use Rattle.dds_physical.specs.Names.{name_of}
use Rattle.file_model.specs.declared.rules.Test.{Test}
use lib.Pointwise.{pointwise}
use Rattle.std.proofs.lemmas.Bool.{cases_Bool, ne_eqb, and_parts}
use Rattle.field_types.specs.declared.kinds.FieldType.{FieldType}
use Rattle.record_fmt.specs.declared.formats.Field.{Field}
use Rattle.dds_physical.below.dds_source.specs.declared.faults.DdsFault.{DdsFault}
use Rattle.dds_physical.below.dds_source.specs.declared.specifications.Specification.{Specification}
use Rattle.dds_physical.below.dds_source.specs.declared.specifications.SpecificationKind.{SpecificationKind}
use Rattle.dds_physical.below.dds_source.specs.declared.specifications.SpecificationKind.TheVariants as kinds
use Rattle.dds_physical.specs.Reading.{is_selection, is_condition}
use Rattle.dds_physical.specs.Names.{field_named}
use Rattle.file_model.specs.declared.views.ViewField.{ViewField}
use Rattle.dds_logical.specs.declared.named_fields.NamedField.{NamedField}
use Rattle.dds_logical.specs.declared.format_lines.LineKind.TheVariants as line_kinds
use Rattle.dds_logical.specs.Selections.{field_to_test, tested_field, test_said, conditions_on, conditions_said, shown_field, field_itself, or_else, is_further, further_lines, is_other_kind, selection_lines_faults}
use Rattle.dds_logical.specs.Judged.{is_of, lines_of, first_line}
use Rattle.dds_logical.specs.JudgedKeys.{named_of}
use Rattle.dds_logical.specs.Tested.{ends_further, condition_of, conditions_of, conditions_at, further_conditions, type_of_field, view_of_named, is_other_type, is_further_line, selection_at}

pub shown_is : (name : List ℕ) (fs : List NamedField) → shown_field name fs ≡ view_of_named (named_of name fs)
shown_is name [] = refl
shown_is name (f ∷ fs) = elim (cases_Bool (pointwise nat_eq f.name name)) [ inl h ↦ rw h refl | inr h ↦ rw h (shown_is name fs) ]

pub no_type_is : (o : Option ViewField) → is_none (type_of_field o) ≡ is_none o
no_type_is None = refl
no_type_is (Some f) = refl

pub other_type_is : (t : FieldType) (o : Option ViewField) → is_other_type t (type_of_field o) ≡ is_other_kind t o
other_type_is t None = refl
other_type_is t (Some f) = refl

-- ---- lines of a selection

selects_too : (kind : SpecificationKind) → is_condition kind ≡ false → is_selection kind ≡ false
selects_too kinds.Record h = refl
selects_too kinds.Field h = refl
selects_too kinds.Key h = refl
selects_too kinds.Select h = h
selects_too kinds.Omit h = h
selects_too kinds.And h = refl
selects_too kinds.Join h = refl

pub selection_among : (ss : List Specification) → list_any (λ s. is_selection s.kind) (lines_of line_kinds.Selection ss) ≡ list_any (λ s. is_selection s.kind) ss
selection_among [] = refl
selection_among (s ∷ ss) = elim (cases_Bool (is_condition s.kind)) [
  | inl h ↦ rw h (ap (λ (b : Bool). is_selection s.kind || b) (selection_among ss))
  | inr h ↦ rw h (rw (selects_too s.kind h) (selection_among ss))
]

one_more : (n : ℕ) → 1 + n ≡ suc n
one_more n = omega arith

further_more : (s : Specification) (ss : List Specification) → is_further s.kind ≡ true → further_lines (s ∷ ss) ≡ s ∷ further_lines ss
further_more s ss h =
    ap (λ (b : Bool). take (cond (not (not b)) (1 + prefix_len (λ t. not (not (is_further t.kind))) ss) 0) (s ∷ ss)) h
    ∙ ap (λ (n : ℕ). take n (s ∷ ss)) (one_more (prefix_len (λ t. not (not (is_further t.kind))) ss))

further_none : (s : Specification) (ss : List Specification) → is_further s.kind ≡ false → further_lines (s ∷ ss) ≡ []
further_none s ss h = ap (λ (b : Bool). take (cond (not (not b)) (1 + prefix_len (λ t. not (not (is_further t.kind))) ss) 0) (s ∷ ss)) h

pub further_next : (ss : List Specification) → not (length (further_lines ss) == 0) ≡ is_further_line (first_line ss)
further_next [] = refl
further_next (s ∷ ss) = elim (cases_Bool (is_further s.kind)) [
  | inl h ↦ ap (λ (ts : List Specification). not (length ts == 0)) (further_more s ss h) ∙ ap not (ne_eqb (suc (length (further_lines ss))) 0 (λ e. absurd (omega (arith, e)))) ∙ sym h
  | inr h ↦ ap (λ (ts : List Specification). not (length ts == 0)) (further_none s ss h) ∙ sym h
]

-- ---- the conditions of a statement

pub conditions_more : (find : List ℕ → Option ViewField) (s : Specification) (k : Keyword) (ks : List Keyword) → condition_of find s k ++ conditions_of find s ks ≡ conditions_of find s (k ∷ ks)
unfolding condition_of
conditions_more find s k ks = conditions_cons (tested_field find (name_of s.name)) (test_said find k) (filter_map (test_said find) ks)
  where
    conditions_cons : (o : Option ViewField) (t : Option Test) (ts : List Test) → conditions_on o (option_to_list t) ++ conditions_on o ts ≡ conditions_on o (cons_option t ts)
    conditions_cons None t ts = refl
    conditions_cons (Some f) None ts = refl
    conditions_cons (Some f) (Some t) ts = refl

-- a select or an omit ends the further conditions
pub further_stop : (find : List ℕ → Option ViewField) (s : Specification) (ss : List Specification) → ends_further s ≡ true → further_conditions find (s ∷ ss) ≡ []
unfolding ends_further
further_stop find s ss h =
    let both = and_parts (is_of line_kinds.Selection s.kind) (not (is_further s.kind)) h in
    ap (λ (b : Bool). flat_map (conditions_said find) (further_lines (cond b (s ∷ lines_of line_kinds.Selection ss) (lines_of line_kinds.Selection ss)))) both.0
    ∙ ap (flat_map (conditions_said find)) (further_none s (lines_of line_kinds.Selection ss) (not_true (is_further s.kind) both.1))
  where
    not_true : (b : Bool) → not b ≡ true → b ≡ false
    not_true true h = absurd cc
    not_true false h = refl

-- another line is a further condition, or none of the selection
pub further_goes : (find : List ℕ → Option ViewField) (s : Specification) (ss : List Specification) → ends_further s ≡ false
    → conditions_at find s ++ further_conditions find ss ≡ further_conditions find (s ∷ ss)
unfolding ends_further conditions_at
further_goes find s ss h = elim (cases_Bool (is_of line_kinds.Selection s.kind)) [
  | inl of ↦ let further : is_further s.kind ≡ true = not_not (is_further s.kind) (subst (λ (b : Bool). (b && not (is_further s.kind)) ≡ false) of h) in
      ap (λ (b : Bool). cond b (conditions_said find s) [] ++ further_conditions find ss) of
      ∙ sym (ap (λ (b : Bool). flat_map (conditions_said find) (further_lines (cond b (s ∷ lines_of line_kinds.Selection ss) (lines_of line_kinds.Selection ss)))) of
      ∙ ap (flat_map (conditions_said find)) (further_more s (lines_of line_kinds.Selection ss) further))
  | inr of ↦ ap (λ (b : Bool). cond b (conditions_said find s) [] ++ further_conditions find ss) of
      ∙ sym (ap (λ (b : Bool). flat_map (conditions_said find) (further_lines (cond b (s ∷ lines_of line_kinds.Selection ss) (lines_of line_kinds.Selection ss)))) of)
]
  where
    not_not : (b : Bool) → (true && not b) ≡ false → b ≡ true
    not_not true h = refl
    not_not false h = absurd cc

pub selection_more : (find : List ℕ → Option ViewField) (s : Specification) (ss : List Specification)
    → selection_at find s ss ++ selection_lines_faults find (lines_of line_kinds.Selection ss) ≡ selection_lines_faults find (lines_of line_kinds.Selection (s ∷ ss))
unfolding selection_at
selection_more find s ss = elim (cases_Bool (is_condition s.kind)) [ inl h ↦ rw h refl | inr h ↦ rw h refl ]

-- ---- types

or_allowed : (name : List ℕ) (fs : List NamedField) (other : Option ViewField) → All IsShown fs → IfSome (type_of_field other) IsFieldType → IfSome (type_of_field (or_else (shown_field name fs) other)) IsFieldType
or_allowed name [] other shown allowed = allowed
or_allowed name (f ∷ fs) other shown allowed =
    one_allowed (pointwise nat_eq f.name name) f fs other (All-head IsShown f fs shown) (or_allowed name fs other (All-tail IsShown f fs shown) allowed)
  where
    one_allowed : (b : Bool) (f : NamedField) (fs : List NamedField) (other : Option ViewField) → IsShown f → IfSome (type_of_field (or_else (shown_field name fs) other)) IsFieldType
        → IfSome (type_of_field (or_else (if b then Some f.shown.field else shown_field name fs) other)) IsFieldType
    one_allowed true f fs other here more = here
    one_allowed false f fs other here more = more

base_allowed : (start : ℕ) (name : List ℕ) (fs : List Field) → lies_from start fs ≡ true → IfSome (type_of_field (field_itself (field_named name fs))) IsFieldType
base_allowed start name [] lies = tt
base_allowed start name (f ∷ fs) lies =
    let parts = lies-parts start f fs lies in
    one_allowed (pointwise nat_eq f.name name) f fs parts.1 (base_allowed (start + width f.ty) name fs parts.2)
  where
    one_allowed : (b : Bool) (f : Field) (fs : List Field) → IsFieldType f.ty → IfSome (type_of_field (field_itself (field_named name fs))) IsFieldType
        → IfSome (type_of_field (field_itself (if b then Some f else field_named name fs))) IsFieldType
    one_allowed true f fs here more = here
    one_allowed false f fs here more = more

pub type_allowed : (named : List NamedField) (base : List Field) (name : Option (List ℕ)) → All IsShown named → IsLaidOut base → IfSome (type_of_field (tested_field (field_to_test named base) name)) IsFieldType
type_allowed named base None shown laid = tt
type_allowed named base (Some name) shown laid = or_allowed name named (field_itself (field_named name base)) shown (base_allowed 0 name base laid.lies)
