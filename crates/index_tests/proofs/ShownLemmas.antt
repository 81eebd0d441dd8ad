-- The paths of the member can be asked about each of its records.
use Rattle.std.proofs.Common.{◌≡◌, ℕ, ◌+◌, ◌-◌, ◌≤◌, Bool, true, false, is_some, List, [], ◌∷◌, ◌++◌, length, take, drop, refl, sym, ◌∙◌, ap, subst, arith, length-append}
use Rattle.std.specs.Prelude.{All}
use Rattle.std.specs.List.{AllByRecursion}
use Rattle.std.proofs.lemmas.List.{length-take-le, length-drop}
use Rattle.std.proofs.lemmas.List.Elements.{All-nil, All-cons, All-from_recursion}
use Rattle.std.proofs.Math.Seq.{take-append_seam, drop-append_seam}
use Rattle.field_types.specs.declared.kinds.FieldType.{FieldType}
use Rattle.field_values.specs.FieldTypes.{width}
use Rattle.field_values.specs.FieldBytes.{held}
use Rattle.field_values.specs.FirstBad.{part}
use Rattle.key_spec.specs.declared.KeyPart.{KeyPart}
use Rattle.key_spec.specs.declared.KeyPart.TheVariants.{Field}
use Rattle.file_model.specs.declared.views.ViewField.{ViewField}
use Rattle.file_model.specs.declared.views.FieldSource.TheVariants.{Copied}
use Rattle.file_model.specs.declared.paths.PathFormat.{PathFormat}
use Rattle.file_model.specs.declared.rules.Rules.{Rules}
use Rattle.key_order.specs.KeyFields.{HasField, HasPosition}
use Rattle.view_rules.specs.Shown.{HasShown}
use Rattle.path_entrants.specs.Formats.{IsAskable}
use Rattle.index_tests.specs.MemberRecords.{IsRecord, HasRecords, HaveRecords, format_by, name, amount}

-- ---- a field of a record, as a path shows it

part-long : (offset n : ℕ) (image : List ℕ) → offset + n ≤ length image → length (part offset n image) ≡ n
part-long offset n image within =
    let behind : length (drop offset image) ≡ length image - offset = length-drop offset image in
    length-take-le n (drop offset image) (omega (arith, within, behind))

part-there : (front piece rest : List ℕ) (at n : ℕ) → at ≡ length front → length piece ≡ n → part at n (front ++ (piece ++ rest)) ≡ piece
part-there front piece rest at n place long =
    ap (λ (k : ℕ). part k n (front ++ (piece ++ rest))) place
    ∙ ap (λ (k : ℕ). part (length front) k (front ++ (piece ++ rest))) (sym long)
    ∙ ap (take (length piece)) (drop-append_seam front (piece ++ rest))
    ∙ take-append_seam piece rest

part-within : (front piece rest : List ℕ) (at n : ℕ) → at ≡ length front → length piece ≡ n → at + n ≤ length (front ++ (piece ++ rest))
part-within front piece rest at n place long =
    let whole : length (front ++ (piece ++ rest)) ≡ length front + length (piece ++ rest) = length-append front (piece ++ rest) in
    let more : length (piece ++ rest) ≡ length piece + length rest = length-append piece rest in
    omega (arith, whole, more, place, long)

-- a field stands behind those that are shown before it
field-shown : (t : FieldType) (offset at : ℕ) (front rest image : List ℕ) → HasField t offset image → at ≡ length front → HasField t at (front ++ (part offset (width t) image ++ rest))
field-shown t offset at front rest image has place =
    let long : length (part offset (width t) image) ≡ width t = part-long offset (width t) image has.within in
    record {
      allowed = has.allowed;
      within = part-within front (part offset (width t) image) rest at (width t) place long;
      there = ap (λ (bytes : List ℕ). is_some (held t bytes)) (part-there front (part offset (width t) image) rest at (width t) place long) ∙ has.there;
    }

abbrev copied : FieldType → ℕ → ViewField
copied t offset = record { ty = t; source = Copied offset }

has-shown : (t : FieldType) (offset : ℕ) (image : List ℕ) → HasField t offset image → HasShown image (copied t offset)
has-shown t offset image has = record { allowed = has.allowed; source = has.within }

-- ---- a path by one field

one-asked : (t : FieldType) (offset : ℕ) (descend absval : Bool) (image : List ℕ) → HasField t offset image → IsAskable (format_by (copied t offset ∷ []) (Field t 0 descend absval ∷ [])) image
one-asked t offset descend absval image has = record {
  compared = tt;
  shown = (has-shown t offset image has, tt);
  few = omega arith;
  key = All-cons (λ (p : KeyPart). HasPosition p (part offset (width t) image ++ [])) (Field t 0 descend absval) []
      (field-shown t offset 0 [] [] image has refl) (All-nil (λ (p : KeyPart). HasPosition p (part offset (width t) image ++ [])));
}

pub one-records : (t : FieldType) (offset : ℕ) (descend absval : Bool) (fields : List ViewField) (key : List KeyPart) → fields ≡ copied t offset ∷ [] → key ≡ Field t 0 descend absval ∷ []
    → ((image : List ℕ) → IsRecord image → HasField t offset image) → HasRecords (format_by fields key)
one-records t offset descend absval fields key shown by has =
    subst (λ (fs : List ViewField). HasRecords (format_by fs key)) (sym shown)
    (subst (λ (ps : List KeyPart). HasRecords (format_by (copied t offset ∷ []) ps)) (sym by)
    (record { member = refl; asked = λ image is. one-asked t offset descend absval image (has image is) }))

-- ---- the path by name and amount

name-asked : (image : List ℕ) → IsRecord image → IsAskable (format_by (copied name 0 ∷ copied amount 2 ∷ []) (Field name 0 false false ∷ Field amount 2 true false ∷ [])) image
name-asked image is =
    let front : List ℕ = part 0 2 image in
    let behind : List ℕ = part 2 2 image in
    let long : length front ≡ 2 = part-long 0 2 image is.has_name.within in
    let first : HasField name 0 (front ++ (behind ++ [])) = field-shown name 0 0 [] (behind ++ []) image is.has_name refl in
    let second : HasField amount 2 (front ++ (behind ++ [])) = field-shown amount 2 2 front [] image is.has_amount (sym long) in
    record {
      compared = tt;
      shown = (has-shown name 0 image is.has_name, (has-shown amount 2 image is.has_amount, tt));
      few = omega arith;
      key = All-from_recursion (λ (p : KeyPart). HasPosition p (front ++ (behind ++ []))) (Field name 0 false false ∷ Field amount 2 true false ∷ []) (first, (second, tt));
    }

pub name-records : (fields : List ViewField) (key : List KeyPart) → fields ≡ copied name 0 ∷ copied amount 2 ∷ [] → key ≡ Field name 0 false false ∷ Field amount 2 true false ∷ []
    → HasRecords (format_by fields key)
name-records fields key shown by =
    subst (λ (fs : List ViewField). HasRecords (format_by fs key)) (sym shown)
    (subst (λ (ps : List KeyPart). HasRecords (format_by (copied name 0 ∷ copied amount 2 ∷ []) ps)) (sym by)
    (record { member = refl; asked = name-asked }))

-- the format with the rules as they were built
abbrev pub with_rules : List ViewField → List KeyPart → Rules → PathFormat
with_rules fields key rules = record { member = 1; rules = rules; fields = fields; key = key }

pub only-format : (formats : List PathFormat) (format : PathFormat) → formats ≡ format ∷ [] → HasRecords format → HaveRecords formats
only-format formats format is has = subst HaveRecords (sym is) has

-- ---- lists that were built

pub pushed-one : {A : Type 0} (a x : A) (none one : List A) → none ≡ [] → one ≡ none ++ x ∷ [] → x ≡ a → one ≡ a ∷ []
pushed-one {A = A} a x none one empty is same = is ∙ ap (λ (xs : List A). xs ++ x ∷ []) empty ∙ ap (λ (y : A). y ∷ []) same

pub pushed-two : {A : Type 0} (a b x y : A) (none one two : List A) → none ≡ [] → one ≡ none ++ x ∷ [] → two ≡ one ++ y ∷ [] → x ≡ a → y ≡ b → two ≡ a ∷ b ∷ []
pushed-two {A = A} a b x y none one two empty first second same also =
    second
    ∙ ap (λ (xs : List A). xs ++ y ∷ []) (pushed-one a x none one empty first same)
    ∙ ap (λ (z : A). a ∷ z ∷ []) also
