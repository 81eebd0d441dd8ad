-- The positions of a key, where its fields alone stand one behind another.
use Rattle.std.proofs.Common.{◌≡◌, ℕ, suc, ◌+◌, ◌≤◌, true, Option, Some, is_some, List, [], ◌∷◌, ◌++◌, length, take, drop, refl, sym, ◌∙◌, ap, subst, arith, length-append, append_assoc}
use Rattle.std.specs.List.{AllByRecursion, cons_option}
use Rattle.std.proofs.lemmas.List.Elements.{All-from_recursion}
use Rattle.std.proofs.Math.Seq.{take-append_seam, drop-append_seam}
use Rattle.field_types.specs.declared.kinds.FieldType.{FieldType}
use Rattle.field_values.specs.FieldTypes.{IsFieldType, width}
use Rattle.field_values.specs.FieldBytes.{held}
use Rattle.field_values.specs.FirstBad.{part}
use Rattle.file_model.below.record_fmt.specs.declared.formats.Field.{Field}
use Rattle.key_spec.specs.declared.KeyPart.{KeyPart}
use Rattle.key_spec.specs.declared.KeyPart.TheVariants.{Field as KeyField, Absent}
use Rattle.access_path.specs.KeyFields.{HasField, HasPosition, HasKey, IsPosition, ArePositions, Matches}
use Rattle.file_model.specs.declared.views.ViewField.{ViewField}
use Rattle.file_model.specs.FilePaths.{field_of_part, key_fields, key_parts}
use Rattle.file_model.specs.Joins.{parts_from, total_width, sequence_field, sequence_part}
use Rattle.file_model.specs.Views.{field_image, view_of}
use Rattle.logical_paths.specs.KeyedViews.{IsShownOf, IsPartAt, IsPartOver}
use Rattle.logical_paths.proofs.ShownLemmas.{ShowsValue}

-- ---- bytes between others

piece-there : (front piece rest : List ℕ) (at n : ℕ) → at ≡ length front → length piece ≡ n → part at n ((front ++ piece) ++ rest) ≡ piece
piece-there front piece rest at n place long =
    ap (λ (k : ℕ). part k n ((front ++ piece) ++ rest)) place
    ∙ ap (λ (k : ℕ). part (length front) k ((front ++ piece) ++ rest)) (sym long)
    ∙ ap (take (length piece)) (ap (drop (length front)) (append_assoc front piece rest) ∙ drop-append_seam front (piece ++ rest))
    ∙ take-append_seam piece rest

piece-within : (front piece rest : List ℕ) (at n : ℕ) → at ≡ length front → length piece ≡ n → at + n ≤ length ((front ++ piece) ++ rest)
piece-within front piece rest at n place long =
    let whole : length ((front ++ piece) ++ rest) ≡ length (front ++ piece) + length rest = length-append (front ++ piece) rest in
    let first : length (front ++ piece) ≡ length front + length piece = length-append front piece in
    omega (arith, whole, first, place, long)

piece-behind : (front piece : List ℕ) (at n : ℕ) → at ≡ length front → length piece ≡ n → at + n ≡ length (front ++ piece)
piece-behind front piece at n place long = (let first : length (front ++ piece) ≡ length front + length piece = length-append front piece in omega (arith, first, place, long))

-- a field stands there with a value
field-stands : (t : FieldType) (front piece rest : List ℕ) (at : ℕ) → IsFieldType t → at ≡ length front → length piece ≡ width t → is_some (held t piece) ≡ true
    → HasField t at ((front ++ piece) ++ rest)
field-stands t front piece rest at allowed place long some = record {
  allowed = allowed;
  within = piece-within front piece rest at (width t) place long;
  there = ap (λ (bytes : List ℕ). is_some (held t bytes)) (piece-there front piece rest at (width t) place long) ∙ some;
}

-- ---- positions that are fields one behind another

-- the positions are these fields, from this byte on
abbrev pub AreBehind : ℕ → List KeyPart → List ViewField → Type 0
AreBehind at [] fields = Unit {0}
AreBehind at (Absent ∷ parts) fields = AreBehind at parts fields
AreBehind at (KeyField t offset descend absval ∷ parts) [] = ⊥
AreBehind at (KeyField t offset descend absval ∷ parts) (f ∷ fields) = (offset ≡ at) × (f.ty ≡ t) × AreBehind (at + width t) parts fields

module _ (image : List ℕ) where
  positions-stand : (parts : List KeyPart) (fields : List ViewField) (at : ℕ) → AreBehind at parts fields → AllByRecursion (ShowsValue image) fields → (front : List ℕ)
      → at ≡ length front → AllByRecursion (λ p. HasPosition p (front ++ view_of fields image)) parts
  positions-stand [] fields at behind all front place = tt
  positions-stand (Absent ∷ parts) fields at behind all front place = (tt, positions-stand parts fields at behind all front place)
  positions-stand (KeyField t offset descend absval ∷ parts) [] at behind all front place = absurd behind
  positions-stand (KeyField t offset descend absval ∷ parts) (f ∷ fields) at behind all front place =
      let piece : List ℕ = field_image image f in
      let rest : List ℕ = view_of fields image in
      let shows : ShowsValue image f = all.0 in
      let is : f.ty ≡ t = behind.1 in
      let allowed : IsFieldType t = subst IsFieldType is shows.shown.allowed in
      let long : length piece ≡ width t = shows.long ∙ ap width is in
      let value : is_some (held t piece) ≡ true = subst (λ (u : FieldType). is_some (held u piece) ≡ true) is shows.value in
      let whole : (front ++ piece) ++ rest ≡ front ++ view_of (f ∷ fields) image = append_assoc front piece rest in
      let first : HasField t offset ((front ++ piece) ++ rest) =
      subst (λ (n : ℕ). HasField t n ((front ++ piece) ++ rest)) (sym behind.0) (field-stands t front piece rest at allowed place long value) in
      let more : AllByRecursion (λ p. HasPosition p ((front ++ piece) ++ rest)) parts =
      positions-stand parts fields (at + width t) behind.2 all.1 (front ++ piece) (piece-behind front piece at (width t) place long) in
      subst (λ (bytes : List ℕ). AllByRecursion (λ p. HasPosition p bytes) (KeyField t offset descend absval ∷ parts)) whole (first, more)

  pub key-stands : (parts : List KeyPart) (fields : List ViewField) → AreBehind 0 parts fields → AllByRecursion (ShowsValue image) fields → HasKey parts (view_of fields image)
  key-stands parts fields behind all = All-from_recursion (λ p. HasPosition p (view_of fields image)) parts (positions-stand parts fields 0 behind all [] refl)

-- ---- the key fields of a format

module _ (base : List Field) (fields : List ViewField) where
  first-field : (p : KeyPart) (parts : List KeyPart) (f : ViewField) → field_of_part fields p ≡ Some f → f ∷ key_fields fields parts ≡ key_fields fields (p ∷ parts)
  first-field p parts f found = sym (ap (λ (o : Option ViewField). cons_option o (key_fields fields parts)) found)

  pub parts-behind : (parts : List KeyPart) (at : ℕ) → AllByRecursion (IsPartOver base fields) parts → AreBehind at (key_parts at parts) (key_fields fields parts)
  parts-behind [] at all = tt
  parts-behind (Absent ∷ parts) at all = parts-behind parts at all.1
  parts-behind (KeyField t offset descend absval ∷ parts) at all =
      let here : IsPartAt base fields t offset = all.0 in
      subst (λ (fs : List ViewField). AreBehind at (KeyField t at descend absval ∷ key_parts (at + width t) parts) fs)
      (first-field (KeyField t offset descend absval) parts here.field here.found) (refl, here.ty, parts-behind parts (at + width t) all.1)

  pub parts-shown : (parts : List KeyPart) → AllByRecursion (IsPartOver base fields) parts → AllByRecursion (IsShownOf base) (key_fields fields parts)
  parts-shown [] all = tt
  parts-shown (Absent ∷ parts) all = parts-shown parts all.1
  parts-shown (KeyField t offset descend absval ∷ parts) all =
      let here : IsPartAt base fields t offset = all.0 in
      subst (λ (fs : List ViewField). AllByRecursion (IsShownOf base) fs) (first-field (KeyField t offset descend absval) parts here.field here.found) (here.shown, parts-shown parts all.1)

  -- their types are those of data descriptions
  each-allowed : (parts : List KeyPart) (at : ℕ) → AllByRecursion (IsPartOver base fields) parts → AllByRecursion IsPosition (key_parts at parts)
  each-allowed [] at all = tt
  each-allowed (Absent ∷ parts) at all = (tt, each-allowed parts at all.1)
  each-allowed (KeyField t offset descend absval ∷ parts) at all =
      let here : IsPartAt base fields t offset = all.0 in
      (subst IsFieldType here.ty here.shown.allowed, each-allowed parts (at + width t) all.1)

  pub parts-allowed : (parts : List KeyPart) → AllByRecursion (IsPartOver base fields) parts → ArePositions (key_parts 0 parts)
  parts-allowed parts all = All-from_recursion IsPosition (key_parts 0 parts) (each-allowed parts 0 all)

pub parts-length : (parts : List KeyPart) (at : ℕ) → length (key_parts at parts) ≡ length parts
parts-length [] at = refl
parts-length (KeyField t offset descend absval ∷ parts) at = ap suc (parts-length parts (at + width t))
parts-length (Absent ∷ parts) at = ap suc (parts-length parts at)

-- positions match by their types and directions, wherever they are
pub parts-match : (parts others : List KeyPart) (at from : ℕ) → Matches parts others → Matches (key_parts at parts) (key_parts from others)
parts-match [] others at from match = tt
parts-match (KeyField t offset descend absval ∷ parts) [] at from match = tt
parts-match (Absent ∷ parts) [] at from match = tt
parts-match (KeyField t offset descend absval ∷ parts) (KeyField u place falls counted ∷ others) at from match = (match.0, parts-match parts others (at + width t) (from + width u) match.1)
parts-match (KeyField t offset descend absval ∷ parts) (Absent ∷ others) at from match = (tt, parts-match parts others (at + width t) from match.1)
parts-match (Absent ∷ parts) (KeyField u place falls counted ∷ others) at from match = (tt, parts-match parts others at (from + width u) match.1)
parts-match (Absent ∷ parts) (Absent ∷ others) at from match = (tt, parts-match parts others at from match.1)

-- ---- the key of a secondary file

sequence-behind : (at end : ℕ) (sequence : KeyPart) → end ≡ at → AreBehind at (sequence_part end sequence) (sequence_field sequence)
sequence-behind at end (KeyField t offset descend absval) is = (is, refl, tt)
sequence-behind at end Absent is = tt

pub secondary-behind : (fields : List ViewField) (at end : ℕ) (sequence : KeyPart) → end ≡ at + total_width fields
    → AreBehind at (parts_from at fields ++ sequence_part end sequence) (fields ++ sequence_field sequence)
secondary-behind [] at end sequence is = sequence-behind at end sequence (omega (arith, is))
secondary-behind (f ∷ fields) at end sequence is =
    (refl, refl, secondary-behind fields (at + width f.ty) end sequence (let whole : end ≡ at + (width f.ty + total_width fields) = is in omega (arith, whole)))

from-length : (fields : List ViewField) (at : ℕ) → length (parts_from at fields) ≡ length fields
from-length [] at = refl
from-length (f ∷ fields) at = ap suc (from-length fields (at + width f.ty))

sequence-length : (at : ℕ) (sequence : KeyPart) → length (sequence_part at sequence) ≤ 1
sequence-length at (KeyField t offset descend absval) = omega arith
sequence-length at Absent = omega arith

pub secondary-length : (fields : List ViewField) (at end : ℕ) (sequence : KeyPart) → length (parts_from at fields ++ sequence_part end sequence) ≤ length fields + 1
secondary-length fields at end sequence =
    let whole : length (parts_from at fields ++ sequence_part end sequence) ≡ length (parts_from at fields) + length (sequence_part end sequence) =
    length-append (parts_from at fields) (sequence_part end sequence) in
    let first : length (parts_from at fields) ≡ length fields = from-length fields at in
    let last : length (sequence_part end sequence) ≤ 1 = sequence-length end sequence in
    omega (arith, whole, first, last)
