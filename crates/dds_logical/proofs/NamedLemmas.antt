-- The fields of a format.
use Rattle.std.proofs.Common.{◌≡◌, ◌∙◌, ap, sym, refl, Bool, true, false, ◌||◌, inl, inr, List, [], ◌∷◌, ◌++◌, map, Option, Some, None, subst, cond}
use Rattle.std.specs.List.{list_any, filter_map, cons_option}
use Rattle.std.specs.Option.{option_to_list}
use Rattle.std.proofs.lemmas.Bool.{cases_Bool}
use Rattle.std.proofs.lemmas.List.{append_assoc, append-nil}
use Rattle.record_fmt.specs.declared.formats.Field.{Field}
use Rattle.dds_physical.below.dds_source.specs.declared.specifications.Specification.{Specification}
use Rattle.dds_logical.specs.declared.named_fields.NamedField.{NamedField}
use Rattle.dds_logical.specs.declared.format_lines.LineKind.TheVariants as line_kinds
use Rattle.dds_logical.specs.Fields.{field_of_line, field_as_it_is, named_fields}
use Rattle.dds_logical.specs.Judged.{is_of, lines_of}
use Rattle.dds_logical.specs.Named.{field_if}

pub cons_option_is : {X : Type 0} (o : Option X) (xs : List X) → option_to_list o ++ xs ≡ cons_option o xs
cons_option_is None xs = refl
cons_option_is (Some x) xs = refl

fields_if : (base : List Field) (ss : List Specification) → filter_map (field_if base) ss ≡ filter_map (field_of_line false base) (lines_of line_kinds.Field ss)
unfolding field_if
fields_if base [] = refl
fields_if base (s ∷ ss) = elim (cases_Bool (is_of line_kinds.Field s.kind))
    [ inl h ↦ rw h (ap (λ (fs : List NamedField). cons_option (field_of_line false base s) fs) (fields_if base ss)) | inr h ↦ rw h (fields_if base ss) ]

has_some : (ss : List Specification) → list_any (λ s. is_of line_kinds.Field s.kind) ss ≡ true → (t : Specification) × (ts : List Specification) × (lines_of line_kinds.Field ss ≡ t ∷ ts)
has_some [] h = absurd cc
has_some (s ∷ ss) h = elim (cases_Bool (is_of line_kinds.Field s.kind)) [
  | inl is ↦ (s, lines_of line_kinds.Field ss, rw is refl)
  | inr isnt ↦ let more = has_some ss (subst (λ (b : Bool). (b || list_any (λ t. is_of line_kinds.Field t.kind) ss) ≡ true) isnt h) in (more.0, more.1, ap (λ (b : Bool). cond b (s ∷ lines_of line_kinds.Field ss) (lines_of line_kinds.Field ss)) isnt ∙ more.2)
]

pub named_by_lines : (base : List Field) (ss : List Specification) → list_any (λ s. is_of line_kinds.Field s.kind) ss ≡ true
    → filter_map (field_if base) ss ≡ named_fields base (lines_of line_kinds.Field ss)
named_by_lines base ss h =
    let some = has_some ss h in
    fields_if base ss ∙ ap (λ (ts : List Specification). filter_map (field_of_line false base) ts) some.2 ∙ sym (ap (named_fields base) some.2)

has_none : (ss : List Specification) → list_any (λ s. is_of line_kinds.Field s.kind) ss ≡ false → lines_of line_kinds.Field ss ≡ []
has_none [] h = refl
has_none (s ∷ ss) h = elim (cases_Bool (is_of line_kinds.Field s.kind)) [
  | inl is ↦ absurd (let e : true ≡ false = subst (λ (b : Bool). (b || list_any (λ t. is_of line_kinds.Field t.kind) ss) ≡ false) is h in cc)
  | inr isnt ↦ rw isnt (has_none ss (subst (λ (b : Bool). (b || list_any (λ t. is_of line_kinds.Field t.kind) ss) ≡ false) isnt h))
]

pub named_as_they_are : (base : List Field) (ss : List Specification) → list_any (λ s. is_of line_kinds.Field s.kind) ss ≡ false
    → map field_as_it_is base ≡ named_fields base (lines_of line_kinds.Field ss)
named_as_they_are base ss h = sym (ap (named_fields base) (has_none ss h))
