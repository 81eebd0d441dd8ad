-- The key fields of a file, found among its fields, and lists joined.
use Rattle.std.proofs.Common.{◌≡◌, ◌+◌, ◌==◌, ℕ, true, false, List, [], ◌∷◌, ◌++◌, Option, Some, None, ap, sym, refl, ◌∙◌, inl, inr}
use Rattle.std.specs.Option.{option_map, option_to_list}
use Rattle.std.specs.List.{cons_option, find}
use Rattle.std.proofs.lemmas.Bool.{cases_Bool, eqb-true, eq-eqb}
use Rattle.std.proofs.lemmas.List.{append_assoc}
use Rattle.field_values.specs.FieldTypes.{width}
use Rattle.record_fmt.specs.declared.formats.Field.{Field}
use Rattle.record_fmt.specs.Layout.{lies_from, IsLaidOut}
use Rattle.record_fmt.proofs.LayoutLemmas.{lies-parts}
use Rattle.file_model.specs.declared.views.ViewField.{ViewField}
use Rattle.file_model.specs.declared.views.FieldSource.TheVariants.{Copied}
use Rattle.file_model.specs.FilePaths.{field_from, own_fields}

pub joined : {X : Type 0} (xs ys zs : List X) → xs ++ ys ++ zs ≡ xs ++ (ys ++ zs)
joined xs ys zs = append_assoc xs ys zs

pub cons_option_is : {X : Type 0} (o : Option X) (xs : List X) → option_to_list o ++ xs ≡ cons_option o xs
cons_option_is None xs = refl
cons_option_is (Some x) xs = refl

-- a field of a physical file, which shows itself
abbrev pub own_field : Field → ViewField
own_field f = record { ty = f.ty; source = Copied f.offset }

-- where a field begins at the byte that fields are counted from, the same byte begins it by its own place
same-test : (at start place : ℕ) → place ≡ start → (place == at) ≡ (start == at)
same-test at start place same = ap (λ n. n == at) same

-- the fields lie one behind another from there on: so the field that begins at a byte is the one whose place it is
found_from : (at start : ℕ) (fs : List Field) → lies_from start fs ≡ true → field_from at start (own_fields fs) ≡ option_map own_field (find (λ f. f.offset == at) fs)
found_from at start [] lies = refl
found_from at start (f ∷ fs) lies =
    let parts = lies-parts start f fs lies in
    let rest : field_from at (start + width f.ty) (own_fields fs) ≡ option_map own_field (find (λ g. g.offset == at) fs) = found_from at (start + width f.ty) fs parts.2 in
    elim (cases_Bool (start == at)) [
      | inl h ↦ rw h (rw (same-test at start f.offset parts.0 ∙ h) refl)
      | inr h ↦ rw h (rw (same-test at start f.offset parts.0 ∙ h) rest)
    ]

-- of a record's fields
pub field_found : (at : ℕ) (fs : List Field) → IsLaidOut fs → field_from at 0 (own_fields fs) ≡ option_map own_field (find (λ f. f.offset == at) fs)
field_found at fs laid = found_from at 0 fs laid.lies

-- what is found is shown
pub shown_as : (at : ℕ) (fs : List Field) (found other : Option Field) → IsLaidOut fs → found ≡ find (λ f. f.offset == at) fs → found ≡ other → option_map own_field other ≡ field_from at 0 (own_fields fs)
shown_as at fs found other laid is same = sym (field_found at fs laid ∙ ap (option_map own_field) (sym is ∙ same))
