-- Which field begins at a byte of a record, and that a value stands there.
use Rattle.std.proofs.Common.{◌≡◌, ℕ, zero, suc, ◌+◌, ◌<◌, ◌≤◌, true, false, ◌==◌, ◌⊎◌, inl, inr, Option, Some, None, is_some, List, [], ◌∷◌, length, take, drop, get_or, refl, sym, ◌∙◌}
use Rattle.std.proofs.Common.{ap, subst, arith}
use Rattle.std.specs.List.{Any, AllByRecursion}
use Rattle.std.proofs.lemmas.List.{drop-drop}
use Rattle.std.proofs.lemmas.List.Elements.{recursion_from_All}
use Rattle.std.proofs.lemmas.Bool.{cond-true, cond-false, eq-eqb, ne_eqb}
use Rattle.field_types.specs.declared.kinds.Kind.{Kind}
use Rattle.field_types.specs.declared.kinds.Kind.TheVariants.{Char, Zoned, Packed, Binary, Date, Time, Stamp}
use Rattle.field_types.specs.declared.kinds.FieldType.{FieldType}
use Rattle.field_types.specs.declared.values.Value.{Value}
use Rattle.field_values.specs.FieldTypes.{IsFieldType, is_allowed, width, width_of}
use Rattle.field_values.specs.FieldBytes.{held}
use Rattle.field_values.specs.FirstBad.{part}
use Rattle.record_fmt.specs.declared.formats.Field.{Field}
use Rattle.record_fmt.specs.Layout.{record_length, lies_from}
use Rattle.record_fmt.specs.Records.{both, fields_held, record_held}
use Rattle.record_fmt.proofs.LayoutLemmas.{lies-parts}
use Rattle.key_spec.specs.declared.KeyPart.{KeyPart}
use Rattle.key_spec.specs.declared.KeyPart.TheVariants.{Field as KeyField, Absent}
use Rattle.file_model.specs.declared.views.ViewField.{ViewField}
use Rattle.file_model.specs.declared.views.FieldSource.TheVariants.{Copied}
use Rattle.file_model.specs.FilePaths.{field_from, own_fields}
use Rattle.file_model.proofs.PathLemmas.{weaker}
use Rattle.dds_physical.specs.declared.physical_files.PhysicalSpec.{PhysicalSpec}
use Rattle.physical_paths.specs.KeyedFiles.{IsKeyed, IsFieldPart}

-- ---- some item of a list

abbrev pub AnyOf : {A : Type 0} → (A → Type 0) → List A → Type 0
AnyOf P [] = ⊥
AnyOf P (x ∷ xs) = P x ⊎ AnyOf P xs

at-place : {A : Type 0} (P : A → Type 0) (xs : List A) (k : ℕ) (x : A) → k < length xs → get_or xs k x ≡ x → P x → AnyOf P xs
at-place P [] k x low is holds = absurd (omega arith)
at-place P (y ∷ xs) zero x low is holds = inl (subst P (sym is) holds)
at-place P (y ∷ xs) (suc k) x low is holds = inr (at-place P xs k x (omega arith) is holds)

any-of : {A : Type 0} (P : A → Type 0) (xs : List A) → Any P xs → AnyOf P xs
any-of P xs any = at-place P xs any.0 any.1 any.2 any.3 any.4

pub of-any : {A : Type 0} (P : A → Type 0) (xs : List A) → AnyOf P xs → Any P xs
of-any P [] some = absurd some
of-any P (x ∷ xs) (inl here) = (0, x, omega arith, refl, here)
of-any P (x ∷ xs) (inr more) =
    let any = of-any P xs more in
    let low : any.0 < length xs = any.2 in
    (suc any.0, any.1, omega arith, any.3, any.4)

-- ---- positions of a key

abbrev pub IsThere : FieldType → ℕ → Field → Type 0
IsThere t offset f = (f.ty ≡ t) × (f.offset ≡ offset)

-- the position is one of these fields
abbrev pub IsPartOf : List Field → KeyPart → Type 0
IsPartOf fields (KeyField t offset descend absval) = AnyOf (IsThere t offset) fields
IsPartOf fields Absent = ⊥

part-of : (fields : List Field) (p : KeyPart) → IsFieldPart fields p → IsPartOf fields p
part-of fields (KeyField t offset descend absval) is = any-of (IsThere t offset) fields is
part-of fields Absent is = absurd is

pub of-part : (fields : List Field) (p : KeyPart) → IsPartOf fields p → IsFieldPart fields p
of-part fields (KeyField t offset descend absval) is = of-any (IsThere t offset) fields is
of-part fields Absent is = absurd is

pub parts-of : (spec : PhysicalSpec) → IsKeyed spec → AllByRecursion (IsPartOf spec.format.fields) spec.keys.parts
parts-of spec keyed =
    weaker (IsFieldPart spec.format.fields) (IsPartOf spec.format.fields) (part-of spec.format.fields) spec.keys.parts
    (recursion_from_All (IsFieldPart spec.format.fields) spec.keys.parts keyed.parts)

-- ---- where a field lies

-- each field has a byte
width_of-some : (kind : Kind) (n d : ℕ) → is_allowed kind n d ≡ true → 1 ≤ width_of kind n
width_of-some Char n d allowed = grind arith
width_of-some Zoned n d allowed = grind arith
width_of-some Packed n d allowed = grind arith
width_of-some Binary n d allowed = grind arith
width_of-some Date n d allowed = grind arith
width_of-some Time n d allowed = grind arith
width_of-some Stamp n d allowed = grind arith

pub width-some : (t : FieldType) → IsFieldType t → 1 ≤ width t
width-some t allowed = width_of-some t.kind t.length t.decimals allowed

-- a field that shows itself
abbrev pub copied_at : FieldType → ℕ → ViewField
copied_at t offset = record { ty = t; source = Copied offset }

-- among fields from this byte on, one of this type is that which begins at this offset, and a value stands there where one stands in each
pub record LiesIn (start : ℕ) (fields : List Field) (t : FieldType) (offset : ℕ) : Type 0 where
  pub allowed : IsFieldType t
  pub behind : start ≤ offset
  pub within : offset + width t ≤ start + record_length fields
  pub found : field_from offset start (own_fields fields) ≡ Some (copied_at t offset)
  pub value : (image : List ℕ) → is_some (fields_held fields (drop start image)) ≡ true → is_some (held t (part offset (width t) image)) ≡ true

both-first : (v : Option Value) (more : Option (List Value)) → is_some (both v more) ≡ true → is_some v ≡ true
both-first None more some = some
both-first (Some v) more some = refl

both-rest : (v : Option Value) (more : Option (List Value)) → is_some (both v more) ≡ true → is_some more ≡ true
both-rest None more some = absurd cc
both-rest (Some v) None some = some
both-rest (Some v) (Some vs) some = refl

first-lies : (start : ℕ) (f : Field) (fs : List Field) → lies_from start (f ∷ fs) ≡ true → LiesIn start (f ∷ fs) f.ty f.offset
first-lies start f fs lies =
    let parts = lies-parts start f fs lies in
    let place : f.offset ≡ start = parts.0 in
    record {
      allowed = parts.1;
      behind = omega (arith, place);
      within = omega (arith, place);
      found = cond-true (start == f.offset) (Some (copied_at f.ty f.offset)) (field_from f.offset (start + width f.ty) (own_fields fs)) (eq-eqb start f.offset (sym place));
      value = λ image some.
          ap (λ (n : ℕ). is_some (held f.ty (part n (width f.ty) image))) place
          ∙ both-first (held f.ty (take (width f.ty) (drop start image))) (fields_held fs (drop (width f.ty) (drop start image))) some;
    }

later-lies : (start : ℕ) (f : Field) (fs : List Field) (t : FieldType) (offset : ℕ) → lies_from start (f ∷ fs) ≡ true → LiesIn (start + width f.ty) fs t offset → LiesIn start (f ∷ fs) t offset
later-lies start f fs t offset lies rest =
    let parts = lies-parts start f fs lies in
    let some : 1 ≤ width f.ty = width-some f.ty parts.1 in
    let behind : start + width f.ty ≤ offset = rest.behind in
    let within : offset + width t ≤ start + width f.ty + record_length fs = rest.within in
    let other : (start == offset) ≡ false = ne_eqb start offset (λ same. absurd (omega (arith, same, some, behind))) in
    record {
      allowed = rest.allowed;
      behind = omega (arith, some, behind);
      within = omega (arith, within);
      found = cond-false (start == offset) (Some (copied_at f.ty f.offset)) (field_from offset (start + width f.ty) (own_fields fs)) other ∙ rest.found;
      value = λ image there.
          rest.value image (subst (λ (bytes : List ℕ). is_some (fields_held fs bytes) ≡ true) (drop-drop (width f.ty) start image)
          (both-rest (held f.ty (take (width f.ty) (drop start image))) (fields_held fs (drop (width f.ty) (drop start image))) there));
    }

pub lies-in : (start : ℕ) (fields : List Field) (t : FieldType) (offset : ℕ) → lies_from start fields ≡ true → AnyOf (IsThere t offset) fields → LiesIn start fields t offset
lies-in start [] t offset lies there = absurd there
lies-in start (f ∷ fs) t offset lies (inl here) =
    subst (λ (n : ℕ). LiesIn start (f ∷ fs) t n) here.1 (subst (λ (u : FieldType). LiesIn start (f ∷ fs) u f.offset) here.0 (first-lies start f fs lies))
lies-in start (f ∷ fs) t offset lies (inr more) =
    later-lies start f fs t offset lies (lies-in (start + width f.ty) fs t offset (lies-parts start f fs lies).2 more)

pub fields-there : (fields : List Field) (image : List ℕ) → is_some (record_held fields image) ≡ true → is_some (fields_held fields image) ≡ true
unfolding record_held
fields-there fields image some = some
