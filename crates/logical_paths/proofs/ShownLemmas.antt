-- A field of a view shows a value of each record of its base file.
use Rattle.std.proofs.Common.{◌≡◌, ℕ, zero, suc, ◌+◌, ◌<◌, ◌≤◌, Bool, true, false, cond, ◌==◌, inl, inr, Option, Some, None, is_some, List}
use Rattle.std.proofs.Common.{[], ◌∷◌, length, get_or, Contains, refl, sym, ap, subst, arith}
use Rattle.std.specs.List.{AllByRecursion, flat_map}
use Rattle.std.proofs.lemmas.Bool.{eqb-true}
use Rattle.field_types.specs.declared.kinds.Kind.{Kind}
use Rattle.field_types.specs.declared.kinds.Kind.TheVariants.{Char}
use Rattle.field_types.specs.declared.kinds.FieldType.{FieldType}
use Rattle.field_types.specs.declared.values.Value.{Value}
use Rattle.field_values.specs.FieldTypes.{IsFieldType, width, width_of}
use Rattle.field_values.specs.FieldBytes.{held, held_as, as_held, filled}
use Rattle.field_values.specs.FirstBad.{part}
use Rattle.logical_laws.proofs.WrittenLemmas.{stands-written}
use Rattle.file_model.below.record_fmt.specs.declared.formats.Field.{Field}
use Rattle.file_model.specs.Layout.{record_length, lies_from}
use Rattle.file_model.specs.declared.rules.Condition.{Condition}
use Rattle.file_model.specs.declared.rules.Rules.{Rules}
use Rattle.file_model.specs.declared.rules.Statement.{Statement}
use Rattle.file_model.specs.declared.rules.Test.{Test}
use Rattle.file_model.specs.declared.rules.Test.TheVariants as tests
use Rattle.file_model.specs.declared.views.FieldSource.{FieldSource}
use Rattle.file_model.specs.declared.views.FieldSource.TheVariants.{Copied, Converted, Concatenated, Substring}
use Rattle.file_model.specs.declared.views.Piece.{Piece}
use Rattle.file_model.specs.declared.views.ViewField.{ViewField}
use Rattle.file_model.specs.Views.{field_image, piece_of, pieces_length, shown, written_as}
use Rattle.file_model.proofs.PathLemmas.{weaker}
use Rattle.view_rules.specs.Shown.{IsWithin, IsTaken, HasSource, HasShown, HasValue, HasTested, HasCondition, HasCompared}
use Rattle.view_rules.proofs.OperandLemmas.{characters-held}
use Rattle.view_rules.proofs.TextLemmas.{piece-length, pieces-length}
use Rattle.logical_laws.specs.Mapped.{IsFieldAt, IsTextAt}
use Rattle.physical_paths.specs.KeyedFiles.{IsRecord}
use Rattle.physical_paths.proofs.FieldLemmas.{AnyOf, IsThere, LiesIn, lies-in, fields-there}
use Rattle.logical_paths.specs.KeyedViews.{Widens, IsTextPart, ShowsSource, IsShownOf, IsTestOver, IsConditionOver, IsStatementOver, AreRulesOver}

-- ---- fields of the base file

at-place : {A : Type 0} (P : A → Type 0) (xs : List A) (k : ℕ) (x : A) → k < length xs → get_or xs k x ≡ x → P x → AnyOf P xs
at-place P [] k x low is holds = absurd (omega arith)
at-place P (y ∷ xs) zero x low is holds = inl (subst P (sym is) holds)
at-place P (y ∷ xs) (suc k) x low is holds = inr (at-place P xs k x (omega arith) is holds)

pub among-lies : (base : List Field) (f : Field) → lies_from 0 base ≡ true → Contains base f → LiesIn 0 base f.ty f.offset
among-lies base f lies among = lies-in 0 base f.ty f.offset lies (at-place (IsThere f.ty f.offset) base among.0 f among.1 among.2 (refl, refl))

pub at-lies : (base : List Field) (t : FieldType) (offset : ℕ) → lies_from 0 base ≡ true → IsFieldAt base t offset → LiesIn 0 base t offset
at-lies base t offset lies at =
    subst (λ (n : ℕ). LiesIn 0 base t n) at.at (subst (λ (u : FieldType). LiesIn 0 base u at.field.offset) at.ty (among-lies base at.field lies at.among))

text-width : (t : FieldType) → t.kind ≡ Char → width t ≡ t.length
text-width t kind = ap (λ (k : Kind). width_of k t.length) kind

-- ---- values

wide : (b : Bool) (o : Option Value) → is_some (cond b o None) ≡ true → b ≡ true
wide true o there = refl
wide false o there = absurd cc

there-long : (t : FieldType) (bytes : List ℕ) → is_some (held t bytes) ≡ true → length bytes ≡ width t
unfolding held
there-long t bytes there = eqb-true (length bytes) (width t) (wide (length bytes == width t) (held_as t.kind t.length t.decimals bytes) there)

-- what is shown of a record is a value, in the width of the field
pub record ShowsValue (image : List ℕ) (f : ViewField) : Type 0 where
  pub shown : HasShown image f
  pub long : length (field_image image f) ≡ width f.ty
  pub value : is_some (held f.ty (field_image image f)) ≡ true

shows-value : (image : List ℕ) (f : ViewField) → IsFieldType f.ty → HasSource f.ty f.source image → is_some (held f.ty (field_image image f)) ≡ true → ShowsValue image f
shows-value image f allowed source there = record { shown = record { allowed = allowed; source = source }; long = there-long f.ty (field_image image f) there; value = there }

value-taken : (t from : FieldType) (bytes : List ℕ) (o : Option Value) → held from bytes ≡ o → is_some o ≡ true → Widens from t → IsTaken t o
value-taken t from bytes None is there widens = absurd cc
value-taken t from bytes (Some v) is there widens = widens bytes v is

taken-shown : (t : FieldType) (o : Option Value) → IsFieldType t → IsTaken t o → is_some (held t (written_as t o)) ≡ true
taken-shown t None allowed taken = absurd taken
taken-shown t (Some v) allowed taken = (let stands : held t (written_as t (Some v)) ≡ Some (as_held t v) = stands-written t v allowed taken in ap is_some stands)

text-there : (t : FieldType) (bytes : List ℕ) → t.kind ≡ Char → length bytes ≤ t.length → is_some (held t (filled (width t) bytes)) ≡ true
text-there t bytes kind room =
    let long : width t ≡ t.length = text-width t kind in
    ap is_some (characters-held t bytes kind (omega (arith, room, long)))

-- ---- records

module _ (base : List Field) (lies : lies_from 0 base ≡ true) (image : List ℕ) (is : IsRecord base image) where
  within-record : (n : ℕ) → n ≤ 0 + record_length base → n ≤ length image
  within-record n low = (let long : length image ≡ record_length base = is.long in omega (arith, long, low))

  text-within : (piece : Piece) → IsTextAt base piece → IsWithin image piece
  text-within piece text =
      let here = among-lies base text.field lies text.among in
      let low : text.field.offset + width text.field.ty ≤ 0 + record_length base = here.within in
      let wide : width text.field.ty ≡ text.field.ty.length = text-width text.field.ty text.kind in
      let long : text.field.ty.length ≡ piece.length = text.long in
      let at : text.field.offset ≡ piece.offset = text.at in
      within-record (piece.offset + piece.length) (omega (arith, low, wide, long, at))

  part-within : (t : FieldType) (piece : Piece) → IsTextPart base t piece → IsWithin image piece
  part-within t piece text =
      let here = among-lies base text.field lies text.among in
      let low : text.field.offset + width text.field.ty ≤ 0 + record_length base = here.within in
      let wide : width text.field.ty ≡ text.field.ty.length = text-width text.field.ty text.text in
      let inside : piece.offset + piece.length ≤ text.field.offset + text.field.ty.length = text.within in
      within-record (piece.offset + piece.length) (omega (arith, low, wide, inside))

  source-shown : (t : FieldType) (source : FieldSource) → IsFieldType t → ShowsSource base t source → HasSource t source image × (is_some (held t (shown t source image)) ≡ true)
  source-shown t (Copied offset) allowed at =
      let here = at-lies base t offset lies at in
      (within-record (offset + width t) here.within, here.value image (fields-there base image is.held))
  source-shown t (Converted from offset) allowed widened =
      let here = at-lies base from offset lies widened.field in
      let bytes : List ℕ = part offset (width from) image in
      let there : is_some (held from bytes) ≡ true = here.value image (fields-there base image is.held) in
      let taken : IsTaken t (held from bytes) = value-taken t from bytes (held from bytes) refl there widened.widens in
      (record { allowed = here.allowed; within = within-record (offset + width from) here.within; taken = taken }, taken-shown t (held from bytes) allowed taken)
  source-shown t (Concatenated pieces) allowed texts =
      let within : AllByRecursion (IsWithin image) pieces = weaker (IsTextAt base) (IsWithin image) text-within pieces texts.texts in
      let long : length (flat_map (piece_of image) pieces) ≡ pieces_length pieces = pieces-length image pieces within in
      let width-is : width t ≡ t.length = text-width t texts.kind in
      let room : pieces_length pieces ≤ t.length = texts.room in (
        record { characters = texts.kind; within = within; room = omega (arith, width-is, room) },
        text-there t (flat_map (piece_of image) pieces) texts.kind (omega (arith, long, room)),
      )
  source-shown t (Substring piece) allowed text =
      let within : IsWithin image piece = part-within t piece text in
      let long : length (piece_of image piece) ≡ piece.length = piece-length image piece within in
      let width-is : width t ≡ t.length = text-width t text.kind in
      let room : piece.length ≤ t.length = text.room in (
        record { characters = text.kind; within = within; room = omega (arith, width-is, room) },
        text-there t (piece_of image piece) text.kind (omega (arith, long, room)),
      )

  pub shown-value : (f : ViewField) → IsShownOf base f → ShowsValue image f
  shown-value f shown-of =
      let has = source-shown f.ty f.source shown-of.allowed shown-of.source in
      shows-value image f shown-of.allowed has.0 has.1

  has-value : (f : ViewField) → IsShownOf base f → HasValue image f
  has-value f shown-of = (let shows = shown-value f shown-of in record { shown = shows.shown; there = shows.value })

  tested : (test : Test) → IsTestOver base test → HasTested image test
  tested (tests.Literal relation literal) over = tt
  tested (tests.Field relation other) over = has-value other over
  tested (tests.Range low high) over = tt
  tested (tests.Values values) over = tt

  condition-there : (condition : Condition) → IsConditionOver base condition → HasCondition image condition
  condition-there condition over = record { field = has-value condition.field over.field; tested = tested condition.test over.test }

  pub rules-compared : (rules : Rules) → AreRulesOver base rules → HasCompared rules image
  rules-compared rules over =
      weaker (IsStatementOver base) (λ (statement : Statement). AllByRecursion (HasCondition image) statement.conditions)
      (λ statement all. weaker (IsConditionOver base) (HasCondition image) condition-there statement.conditions all) rules.statements over
