-- Whether bytes are a record of these fields.
use Rattle.std.proofs.Common.{◌≡◌, ℕ, ◌+◌, ◌==◌, ◌&&◌, Bool, true, false, Option, Some, None, List, [], ◌∷◌, length, drop, refl, sym, ◌∙◌, ap, arith}
use Rattle.std.specs.Prelude.{is_none}
use Rattle.std.specs.Option.{is_some}
use Rattle.std.proofs.lemmas.Bool.{ne_eqb}
use Rattle.std.proofs.lemmas.Bool.Decides.{nat_tests}
use Rattle.std.proofs.lemmas.List.{take-append-drop}
use Rattle.field_values.specs.FirstBad.{TellsFirstBad}
use Rattle.record_fmt.specs.declared.formats.Field.{Field}
use Rattle.record_fmt.specs.Layout.{record_length}
use Rattle.record_fmt.specs.Records.{record_held}
use Rattle.named_bases.specs.Sources.{is_record_of}

-- no byte is bad exactly where the bytes pass
pub told-first : (test : List ℕ → Bool) (bytes : List ℕ) (place : Option ℕ) → TellsFirstBad test bytes place → is_none place ≡ test bytes
told-first test bytes None told = sym told
told-first test bytes (Some at) told = by (test bytes) refl
  where
    by : (b : Bool) → test bytes ≡ b → false ≡ test bytes
    by true is = absurd (told.bad (drop (at + 1) bytes) (ap test (take-append-drop (at + 1) bytes) ∙ is))
    by false is = sym is

pub record-is : (fields : List Field) (image : List ℕ) (b : Bool) → length image ≡ record_length fields → b ≡ is_some (record_held fields image) → b ≡ is_record_of fields image
record-is fields image b long is =
    let same : (length image == record_length fields) ≡ true = grind (arith, nat_tests, long) in
    is ∙ sym (ap (λ (x : Bool). x && is_some (record_held fields image)) same)

both-false : (x : Bool) → (x && false) ≡ false
both-false true = refl
both-false false = refl

-- without fields a record has no bytes
pub no-record : (image : List ℕ) → (length image == 0) ≡ is_record_of [] image
unfolding record_held
no-record [] = refl
no-record (b ∷ bs) =
    let some : (length (b ∷ bs) == 0) ≡ false = ne_eqb (length (b ∷ bs)) 0 (λ e. absurd (omega (arith, e))) in
    some ∙ sym (both-false (length (b ∷ bs) == 0))
