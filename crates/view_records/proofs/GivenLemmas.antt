-- Values that are given through a format make records of its base file.
use Rattle.std.proofs.Common.{Bor, ◌≡◌, ℕ, ◌+◌, ◌<◌, ◌≤◌, ◌==◌, nat_le, true, Option, Some, None, IfSome, Result, Ok, Err, Vec, List, [], ◌∷◌, length, refl, ap, subst, arith}
use Rattle.std.specs.Prelude.{IfOk}
use Rattle.std.specs.Global.{Global}
use Rattle.std.specs.List.{AllByRecursion}
use Rattle.std.specs.Option.{option_copied, ForSome}
use Rattle.std.proofs.lemmas.Bool.{and_parts, leb-true, le-leb}
use Rattle.field_types.specs.declared.kinds.Kind.{Kind}
use Rattle.field_types.specs.declared.kinds.Kind.TheVariants.{Char}
use Rattle.field_types.specs.declared.kinds.FieldType.{FieldType}
use Rattle.field_types.specs.declared.values.Value.{Value}
use Rattle.field_values.specs.FieldTypes.{IsFieldType, is_allowed, is_between, width, width_of}
use Rattle.record_fmt.specs.declared.formats.Field.{Field}
use Rattle.record_fmt.specs.declared.formats.PackFault.{PackFault}
use Rattle.record_fmt.specs.Layout.{record_length, lies_from, IsLaidOut}
use Rattle.record_fmt.specs.Records.{Packs}
use Rattle.file_model.specs.declared.views.FieldSource.{FieldSource}
use Rattle.file_model.specs.declared.views.FieldSource.TheVariants.{Copied, Converted, Concatenated, Substring}
use Rattle.file_model.specs.declared.views.LogicalField.{LogicalField}
use Rattle.file_model.specs.declared.views.Piece.{Piece}
use Rattle.file_model.specs.Views.{pieces_length, character, stored_type, base_image}
use Rattle.file_model.proofs.PathLemmas.{weaker}
use Rattle.logical_paths.specs.Stored.{EndsWithin, HasPlace, IsStored}
use Rattle.logical_model.below.dds_logical.specs.declared.views.View.{View}
use Rattle.logical_model.below.dds_logical.specs.declared.views.LogicalSpec.TheVariants.{Simple}
use Rattle.logical_paths.specs.Found.{HoldsRecord}
use Rattle.logical_paths.specs.Mapped.{IsTextAt, IsSourceMapped, IsFieldMapped}
use Rattle.logical_paths.proofs.GivenLemmas.{given-makes}
use Rattle.logical_paths.proofs.FieldLemmas.{width-some}
use Rattle.logical_paths.specs.Steps.{shown_of}
use Rattle.logical_paths.specs.KeyedViews.{ShowsSource, IsShownOf}
use Rattle.logical_paths.proofs.ShownLemmas.{among-lies, at-lies}
use Rattle.view_records.specs.Through.{AreFieldsOf, IsFormatOf, HasBytes, HaveBytes, IsWrittenThrough}

-- ---- the fields of a format

same-number : (at : ℕ) (fields : List Field) (mapping : List LogicalField) → AreFieldsOf at fields mapping → length mapping ≡ length fields
same-number at [] [] same = refl
same-number at [] (shown ∷ mapping) same = absurd same
same-number at (f ∷ fields) [] same = absurd same
same-number at (f ∷ fields) (shown ∷ mapping) same =
    let rest : length mapping ≡ length fields = same-number (at + width f.ty) fields mapping same.1 in
    omega (arith, rest)

pub few-fields : (view : View) → IsFormatOf view → IsLaidOut view.format.fields → length view.mapping < 65536
few-fields view format laid =
    let same : length view.mapping ≡ length view.format.fields = same-number 0 view.format.fields view.mapping format.fields in
    let few : length view.format.fields ≤ 1000 = laid.few in
    omega (arith, same, few)

-- ---- what is stored

text-width : (t : FieldType) → t.kind ≡ Char → width t ≡ t.length
text-width t kind = ap (λ (k : Kind). width_of k t.length) kind

-- a text that is no longer than one that may be, and has a character, may be
shorter-allowed : (n d most : ℕ) → is_allowed Char most d ≡ true → 1 ≤ n → n ≤ most → is_allowed Char n 0 ≡ true
shorter-allowed n d most allowed some low =
    let parts = and_parts (is_between 1 32766 most) (d == 0) allowed in
    let high : most ≤ 32766 = leb-true most 32766 (and_parts (nat_le 1 most) (nat_le most 32766) parts.0).1 in
    let first : nat_le 1 n ≡ true = le-leb 1 n some in
    let second : nat_le n 32766 ≡ true = le-leb n 32766 (omega (arith, low, high)) in
    rw (first, second) refl

text-allowed : (t : FieldType) (n : ℕ) → IsFieldType t → t.kind ≡ Char → 1 ≤ n → n ≤ t.length → IsFieldType (character n)
text-allowed t n allowed kind some low = shorter-allowed n t.decimals t.length (subst (λ (k : Kind). is_allowed k t.length t.decimals ≡ true) kind allowed) some low

module _ (base : List Field) (lies : lies_from 0 base ≡ true) where
  text-ends : (piece : Piece) → IsTextAt base piece → EndsWithin (record_length base) piece
  text-ends piece text =
      let here = among-lies base text.field lies text.among in
      let low : text.field.offset + width text.field.ty ≤ 0 + record_length base = here.within in
      let wide : width text.field.ty ≡ text.field.ty.length = text-width text.field.ty text.kind in
      let long : text.field.ty.length ≡ piece.length = text.long in
      let at : text.field.offset ≡ piece.offset = text.at in
      omega (arith, low, wide, long, at)

  text-some : (piece : Piece) → IsTextAt base piece → 1 ≤ piece.length
  text-some piece text =
      let some : 1 ≤ width text.field.ty = width-some text.field.ty (among-lies base text.field lies text.among).allowed in
      let wide : width text.field.ty ≡ text.field.ty.length = text-width text.field.ty text.kind in
      let long : text.field.ty.length ≡ piece.length = text.long in
      omega (arith, some, wide, long)

  pieces-some : (pieces : List Piece) → AllByRecursion (IsTextAt base) pieces → 1 ≤ length pieces → 1 ≤ pieces_length pieces
  pieces-some [] texts some = absurd (let none : 1 ≤ 0 = some in omega (arith, none))
  pieces-some (piece ∷ pieces) texts some = (let here : 1 ≤ piece.length = text-some piece texts.0 in omega (arith, here))

  source-stored : (t : FieldType) (source : FieldSource) → IsFieldType t → ShowsSource base t source → HasBytes source
      → IsFieldType (stored_type t source) × HasPlace (record_length base) t source
  source-stored t (Copied offset) allowed at bytes =
      let low : offset + width t ≤ 0 + record_length base = (at-lies base t offset lies at).within in
      (allowed, omega (arith, low))
  source-stored t (Converted from offset) allowed widened bytes =
      let here = at-lies base from offset lies widened.field in
      let low : offset + width from ≤ 0 + record_length base = here.within in
      (here.allowed, omega (arith, low))
  source-stored t (Concatenated pieces) allowed texts bytes = (
    text-allowed t (pieces_length pieces) allowed texts.kind (pieces-some pieces texts.texts bytes) texts.room,
    weaker (IsTextAt base) (EndsWithin (record_length base)) text-ends pieces texts.texts,
  )
  source-stored t (Substring piece) allowed text bytes = (text-allowed t piece.length allowed text.kind bytes text.room, tt)

  field-stored : (f : LogicalField) → IsShownOf base f.field → HasBytes f.field.source → IsStored (record_length base) f
  field-stored f shown bytes =
      let stored = source-stored f.field.ty f.field.source shown.allowed shown.source bytes in
      record { allowed = record { field = shown.allowed; stored = stored.0 }; place = stored.1 }

  pub fields-stored : (mapping : List LogicalField) → AllByRecursion (IsShownOf base) (shown_of mapping) → HaveBytes mapping → AllByRecursion (IsStored (record_length base)) mapping
  fields-stored [] shown bytes = tt
  fields-stored (f ∷ mapping) shown bytes = (field-stored f shown.0 bytes.0, fields-stored mapping shown.1 bytes.1)

-- ---- the record

-- what is shown of whole fields is stored in them
source-mapped : (base : List Field) (t : FieldType) (source : FieldSource) → ShowsSource base t source → IsSourceMapped base t source
source-mapped base t (Copied offset) at = at
source-mapped base t (Converted from offset) widened = widened.field
source-mapped base t (Concatenated pieces) texts = texts.texts
source-mapped base t (Substring piece) text = tt

fields-mapped : (base : List Field) (mapping : List LogicalField) → AllByRecursion (IsShownOf base) (shown_of mapping) → AllByRecursion (IsFieldMapped base) mapping
fields-mapped base [] shown = tt
fields-mapped base (f ∷ mapping) shown = (source-mapped base f.field.ty f.field.source shown.0.source, fields-mapped base mapping shown.1)

image-holds : (base : List Field) (view : View) (given : List (Option Value)) (old : Option (List ℕ)) (image : List ℕ) → IsWrittenThrough base view → IsLaidOut base
    → IfSome old (HoldsRecord base) → base_image base view.mapping given old ≡ Ok image → HoldsRecord base image
image-holds base view given old image written laid before is =
    given-makes (λ name. record { member = 0; fields = base }) (Simple view) 0 view.base given old image (fields-mapped base view.mapping written.fields) refl laid written.defaults before is

pub packed-holds : (base : List Field) (view : View) (given : List (Option Value)) (old : Option (List ℕ)) (result : Result (Vec ℕ Global) PackFault) → IsWrittenThrough base view → IsLaidOut base
    → IfSome old (HoldsRecord base) → Packs (base_image base view.mapping given old) result → IfOk result (λ image. HoldsRecord base image.items)
packed-holds base view given old (Ok image) written laid before packs = image-holds base view given old image.items written laid before packs
packed-holds base view given old (Err fault) written laid before packs = tt

-- ---- the old record

pub old-holds : (base : List Field) (old : Option (Bor (List ℕ))) → ForSome old (λ image. HoldsRecord base image.now) → IfSome (option_copied old) (HoldsRecord base)
old-holds base None holds = tt
old-holds base (Some image) holds = holds image refl
