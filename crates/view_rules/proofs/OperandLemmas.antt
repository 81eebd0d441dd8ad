-- The values that fields show.
use Rattle.std.proofs.Common.{◌≡◌, ℕ, ◌≤◌, Bool, true, false, cond, not, ◌&&◌, ◌==◌, nat_lt, max, Option, Some, None, is_some, List, length, refl, sym, ◌∙◌, ap, subst, arith}
use Rattle.std.specs.List.{flat_map}
use Rattle.std.proofs.lemmas.Bool.{eq-eqb, ltb-false}
use Rattle.field_types.specs.declared.kinds.Kind.{Kind}
use Rattle.field_types.specs.declared.kinds.Kind.TheVariants.{Char, Zoned, Packed, Binary, Date, Time, Stamp}
use Rattle.field_types.specs.declared.kinds.FieldType.{FieldType}
use Rattle.field_types.specs.declared.values.Dec.{Dec}
use Rattle.field_types.specs.declared.values.Value.{Value}
use Rattle.field_types.specs.declared.values.Value.TheVariants.{Chars, Number}
use Rattle.field_types.specs.declared.faults.ValueFault.{ValueFault}
use Rattle.field_types.specs.declared.faults.ValueFault.TheVariants.{WrongKind, TooWide, BadDate}
use Rattle.field_values.specs.FieldTypes.{width, is_numeric, is_moment_kind}
use Rattle.field_values.specs.FieldBytes.{held, held_as, written, filled, fault_of, number_fault}
use Rattle.field_values.specs.Moments.{is_moment}
use Rattle.file_model.specs.declared.views.FieldSource.{FieldSource}
use Rattle.file_model.specs.declared.views.FieldSource.TheVariants.{Concatenated}
use Rattle.file_model.specs.declared.views.Piece.{Piece}
use Rattle.file_model.specs.Views.{written_as, piece_of}
use Rattle.view_rules.specs.Shown.{IsTaken, HasSource, ArePieces}
use Rattle.view_rules.proofs.TextLemmas.{filled-length, pieces-length}

-- ---- texts

moment-there : (b : Bool) (image : List ℕ) → is_some (cond b (Some (Chars image)) None) ≡ true → cond b (Some (Chars image)) None ≡ Some (Chars image)
moment-there true image there = refl
moment-there false image there = cc

text-held_as : (k : Kind) (l d : ℕ) (image : List ℕ) → is_numeric k ≡ false → is_some (held_as k l d image) ≡ true → held_as k l d image ≡ Some (Chars image)
text-held_as Char l d image text there = refl
text-held_as Zoned l d image text there = cc
text-held_as Packed l d image text there = cc
text-held_as Binary l d image text there = cc
text-held_as Date l d image text there = moment-there (is_moment Date image) image there
text-held_as Time l d image text there = moment-there (is_moment Time image) image there
text-held_as Stamp l d image text there = moment-there (is_moment Stamp image) image there

long-there : (b : Bool) (o : Option Value) → is_some (cond b o None) ≡ true → (cond b o None ≡ o) × (is_some o ≡ true)
long-there true o there = (refl, there)
long-there false o there = cc

-- a text that stands in a field is its bytes
pub text-held : (t : FieldType) (image : List ℕ) → is_numeric t.kind ≡ false → is_some (held t image) ≡ true → held t image ≡ Some (Chars image)
unfolding held
text-held t image text there =
    let is = long-there (length image == width t) (held_as t.kind t.length t.decimals image) there in
    is.0 ∙ text-held_as t.kind t.length t.decimals image text is.1

-- a character field holds any text of its width
pub characters-held : (t : FieldType) (bytes : List ℕ) → t.kind ≡ Char → length bytes ≤ width t → held t (filled (width t) bytes) ≡ Some (Chars (filled (width t) bytes))
unfolding held
characters-held t bytes kind room =
    let long : length (filled (width t) bytes) ≡ max (width t) (length bytes) = filled-length (width t) bytes in
    let same : length (filled (width t) bytes) ≡ width t = omega (arith, long, room) in
    rw (eq-eqb (length (filled (width t) bytes)) (width t) same) (ap (λ (k : Kind). held_as k t.length t.decimals (filled (width t) bytes)) kind)

-- ---- values that fit

number-taken : (b : Bool) (o : Option ValueFault) → cond b o (Some WrongKind) ≡ None → b ≡ true
number-taken true o none = refl
number-taken false o none = cc

-- a number fits a field of numbers alone
pub number-numeric : (t : FieldType) (n : Dec) → fault_of t (Number n) ≡ None → is_numeric t.kind ≡ true
unfolding fault_of
number-numeric t n none = number-taken (is_numeric t.kind) (number_fault t.length t.decimals n) none

text-taken : (numeric wide moment : Bool) → cond numeric (Some WrongKind) (cond wide (Some TooWide) (cond moment (Some BadDate) None)) ≡ None → (numeric ≡ false) × (wide ≡ false)
text-taken true wide moment none = cc
text-taken false true moment none = cc
text-taken false false moment none = (refl, refl)

-- a text fits a field of texts alone, that is wide enough
pub text-fits : (t : FieldType) (text : List ℕ) → fault_of t (Chars text) ≡ None → (is_numeric t.kind ≡ false) × (length text ≤ width t)
unfolding fault_of
text-fits t text none =
    let is = text-taken (is_numeric t.kind) (nat_lt (width t) (length text)) (is_moment_kind t.kind && not (is_moment t.kind text)) none in
    (is.0, ltb-false (width t) (length text) is.1)

pub taken-there : (t : FieldType) (o : Option Value) → IsTaken t o → is_some o ≡ true
taken-there t None taken = absurd taken
taken-there t (Some v) taken = refl

pub written-text : (t : FieldType) (text : List ℕ) → written t (Chars text) ≡ filled (width t) text
unfolding written
written-text t text = refl

-- a text that fits is written in the whole width of its field
pub text-width : (t : FieldType) (v : Value) (text : List ℕ) → v ≡ Chars text → fault_of t v ≡ None → length (written t v) ≡ width t
text-width t v text is fits =
    let room : length text ≤ width t = (text-fits t text (subst (λ (w : Value). fault_of t w ≡ None) is fits)).1 in
    let long : length (filled (width t) text) ≡ max (width t) (length text) = filled-length (width t) text in
    let whole : length (written t v) ≡ length (filled (width t) text) = ap length (ap (written t) is ∙ written-text t text) in
    omega (arith, whole, long, room)

-- what is written of a text that stands in a field of another type
pub text-copied : (t from : FieldType) (bytes : List ℕ) → is_numeric from.kind ≡ false → IsTaken t (held from bytes) →
    (held from bytes ≡ Some (Chars bytes)) × (written_as t (held from bytes) ≡ filled (width t) bytes)
text-copied t from bytes text taken =
    let stands : held from bytes ≡ Some (Chars bytes) = text-held from bytes text (taken-there t (held from bytes) taken) in
    (stands, ap (written_as t) stands ∙ written-text t bytes)

-- what a field shows of it
pub text-shown : (t from : FieldType) (bytes : List ℕ) → is_numeric from.kind ≡ false → IsTaken t (held from bytes) →
    is_some (held t (written_as t (held from bytes))) ≡ true → (held t (written_as t (held from bytes)) ≡ Some (Chars (filled (width t) bytes))) × (length bytes ≤ width t)
text-shown t from bytes text taken there =
    let copied = text-copied t from bytes text taken in
    let is = text-fits t bytes (subst (λ (o : Option Value). IsTaken t o) copied.0 taken) in
    (ap (held t) copied.1 ∙ text-held t (filled (width t) bytes) is.0 (sym (ap (λ (w : List ℕ). is_some (held t w)) copied.1) ∙ there), is.1)

-- what a field shows of a number that stands in a field of another type fits a field of numbers
pub number-shown : (t from : FieldType) (bytes : List ℕ) (n : Dec) → held from bytes ≡ Some (Number n) → IsTaken t (held from bytes) → is_numeric t.kind ≡ true
number-shown t from bytes n stands taken = number-numeric t n (subst (λ (o : Option Value). IsTaken t o) stands taken)

-- ---- pieces

pub pieces-room : (t : FieldType) (source : FieldSource) (pieces : List Piece) (image : List ℕ) → source ≡ Concatenated pieces → HasSource t source image →
    length (flat_map (piece_of image) pieces) ≤ width t
pieces-room t source pieces image is has =
    let here : ArePieces t pieces image = subst (λ (s : FieldSource). HasSource t s image) is has in
    let long = pieces-length image pieces here.within in
    omega (arith, long, here.room)
