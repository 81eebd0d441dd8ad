-- Which given values does a record show afterwards? (DDS for Physical and Logical Files: "CONCAT", "RENAME". That of two
-- values over one place the later one counts is our own.)
use Rattle.std.specs.Prelude.{◌≡◌, ℕ, ◌+◌, ◌≤◌, ◌⊎◌, List, [], ◌∷◌, ◌++◌, length, Option, Some, None, Ok}
use Rattle.std.specs.List.{AllByRecursion}
use Rattle.field_types.specs.declared.kinds.FieldType.{FieldType}
use Rattle.field_types.specs.declared.values.Value.{Value}
use Rattle.field_values.specs.FieldTypes.{width}
use Rattle.file_model.specs.declared.views.Piece.{Piece}
use Rattle.file_model.specs.declared.views.FieldSource.{FieldSource}
use Rattle.file_model.specs.declared.views.FieldSource.TheVariants.{Copied, Converted, Concatenated, Substring}
use Rattle.file_model.specs.declared.views.LogicalField.{LogicalField}
use Rattle.file_model.specs.Views.{base_image, old_or_default}
use Rattle.file_model.below.record_fmt.specs.declared.formats.Field.{Field}
use Rattle.view_rules.specs.Shown.{HasShown}
use Rattle.view_rules.specs.Stored.{IsStored}

abbrev pub place : ℕ → ℕ → Piece
place offset length = record { offset = offset; length = length }

-- the bytes of the record that a field stores
abbrev pub places_of : FieldType → FieldSource → List Piece
places_of t (Copied offset) = place offset (width t) ∷ []
places_of t (Converted from offset) = place offset (width from) ∷ []
places_of t (Concatenated pieces) = pieces
places_of t (Substring piece) = []

abbrev pub places : LogicalField → List Piece
places f = places_of f.field.ty f.field.source

-- a substring stores nothing
abbrev pub StoresValue : FieldSource → Type 0
StoresValue (Copied offset) = Unit {0}
StoresValue (Converted from offset) = Unit {0}
StoresValue (Concatenated pieces) = Unit {0}
StoresValue (Substring piece) = ⊥

abbrev pub AreApart : Piece → Piece → Type 0
AreApart p q = (p.offset + p.length ≤ q.offset) ⊎ (q.offset + q.length ≤ p.offset)

abbrev pub AreAllApart : List Piece → List Piece → Type 0
AreAllApart ps qs = AllByRecursion (λ p. AllByRecursion (AreApart p) qs) ps

-- no byte is named twice
abbrev pub EachApart : List Piece → Type 0
EachApart [] = Unit {0}
EachApart (p ∷ ps) = AllByRecursion (AreApart p) ps × EachApart ps

-- over these places no value is given for the later fields
abbrev pub AreKept : List Piece → List LogicalField → List (Option Value) → Type 0
AreKept ps [] given = Unit {0}
AreKept ps (g ∷ fields) [] = Unit {0}
AreKept ps (g ∷ fields) (None ∷ given) = AreKept ps fields given
AreKept ps (g ∷ fields) (Some v ∷ given) = AreAllApart ps (places g) × AreKept ps fields given

-- the record was made of given values, this one through this field among them, and nothing was given over it later
pub record IsGiven (base : List Field) (before after : List LogicalField) (f : LogicalField) (first rest : List (Option Value)) (v : Value) (old : Option (List ℕ)) (image : List ℕ)
    : Type 0 where
  pub number : length first ≡ length before
  pub fields : AllByRecursion (IsStored (length (old_or_default base old))) (before ++ f ∷ after)
  pub stores : StoresValue f.field.source
  pub once : EachApart (places f)
  pub last : AreKept (places f) after rest
  pub made : base_image base (before ++ f ∷ after) (first ++ Some v ∷ rest) old ≡ Ok image
  pub shown : HasShown image f.field
