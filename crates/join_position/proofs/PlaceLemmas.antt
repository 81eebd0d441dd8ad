-- What is kept in bytes is a place from which the rows of a join file can be read.
use Rattle.std.proofs.Common.{◌≡◌, ℕ, ◌≤◌, ◌<◌, Option, Some, None, List, [], ◌∷◌, length, map, sym, ◌∙◌, ap, subst, arith}
use Rattle.std.specs.List.{AllByRecursion}
use Rattle.std.proofs.lemmas.List.Elements.{recursion_from_All}
use Rattle.key_spec.specs.declared.KeyPart.{KeyPart}
use Rattle.file_model.specs.declared.joins.Secondary.{Secondary}
use Rattle.file_model.specs.declared.joins.JoinSpec.{JoinSpec}
use Rattle.file_model.specs.declared.paths.PathFormat.{PathFormat}
use Rattle.file_model.specs.KeyOrder.{key_of, key_value}
use Rattle.file_model.specs.Positions.{KeyBound}
use Rattle.access_path.specs.KeptEntries.{entry_with}
use Rattle.access_path.specs.PathBytes.{parts_of}
use Rattle.access_path.specs.KeyBytes.{key_bytes}
use Rattle.open_position.specs.KeyValues.{values_in}
use Rattle.join_rows.specs.PositionBytes.{AreGiven}
use Rattle.join_rows.specs.declared.positions.MatchPlace.{MatchPlace}
use Rattle.join_rows.specs.declared.positions.MatchPlace.TheVariants as places
use Rattle.join_rows.specs.Places.{sequence_bytes}
use Rattle.join_rows.specs.Reading.{IsPlaceOf, ArePlacesOf}
use Rattle.join_rows.specs.Rows.{IsPlace, IsBound, parts_in}
use Rattle.open_position.specs.OpenStand.{AreGivenBytes}
use Rattle.join_position.specs.Kept.{MatchKept, IsThere, IsKeyOf, IsStandFor, ArePlaced, value_with, value_kept, value_placed, match_by, match_in, sequence_in, place_by}
use Rattle.join_position.proofs.BackLemmas.{image-back, given-known, sequence-back}

-- ---- lists

pub no-cons : {A B : Type 0} (x : A) (xs : List A) → [] ≡ x ∷ xs → B
no-cons {A = A} x xs h = absurd (let e : ◌≡◌ {A = List A} [] (x ∷ xs) = h in cc)

pub cons-no : {A B : Type 0} (x : A) (xs : List A) → x ∷ xs ≡ [] → B
cons-no {A = A} x xs h = absurd (let e : ◌≡◌ {A = List A} (x ∷ xs) [] = h in cc)

pub same-first : {A : Type 0} (x y : A) (xs ys : List A) → x ∷ xs ≡ y ∷ ys → x ≡ y
same-first {A = A} x y xs ys h = let e : ◌≡◌ {A = List A} (x ∷ xs) (y ∷ ys) = h in cc

pub same-rest : {A : Type 0} (x y : A) (xs ys : List A) → x ∷ xs ≡ y ∷ ys → xs ≡ ys
same-rest {A = A} x y xs ys h = let e : ◌≡◌ {A = List A} (x ∷ xs) (y ∷ ys) = h in cc

-- ---- the records of the secondary files

none-some : {B : Type 0} (p : List ℕ × ℕ) → None ≡ Some p → B
none-some p h = absurd (let e : ◌≡◌ {A = Option (List ℕ × ℕ)} None (Some p) = h in cc)

some-none : {B : Type 0} (p : List ℕ × ℕ) → Some p ≡ None → B
some-none p h = absurd (let e : ◌≡◌ {A = Option (List ℕ × ℕ)} (Some p) None = h in cc)

some-same : (p q : List ℕ × ℕ) → Some p ≡ Some q → p ≡ q
some-same p q h = let e : ◌≡◌ {A = Option (List ℕ × ℕ)} (Some p) (Some q) = h in cc

place-of : (file : Secondary) (part : KeyPart) (bytes : List ℕ) (number : Option ℕ) (p : MatchPlace) → file.sequence ≡ part → value_placed p ≡ value_with bytes number
    → IsThere part bytes number → IsPlaceOf file p (match_by part bytes number)
place-of file part bytes None places.Missing same value there = tt
place-of file part bytes (Some rrn) places.Missing same value there = none-some (bytes, rrn) value
place-of file part bytes None (places.Record sequence number) same value there = some-none (sequence.now, number) value
place-of file part bytes (Some rrn) (places.Record sequence number) same value there =
    let both : (sequence.now, number) ≡ (bytes, rrn) = some-same (sequence.now, number) (bytes, rrn) value in
    let image : List ℕ = there.held.0 in
    let back : sequence_in part bytes ≡ key_value part image = ap (sequence_in part) there.held.2 ∙ sequence-back part image there.held.1 in (
      ap (λ (w : List ℕ × ℕ). w.0) both ∙ there.held.2 ∙ ap (λ v. sequence_bytes part v) (sym back) ∙ ap (λ p. sequence_bytes p (sequence_in part bytes)) (sym same),
      ap (λ (w : List ℕ × ℕ). w.1) both,
      there.most,
      (record { image = image; bytes = there.held.1; value = subst (λ (p : KeyPart). sequence_in part bytes ≡ key_value p image) (sym same) back }, there.some),
    )

places-of : (files : List Secondary) (matches : List MatchKept) (places : List MatchPlace) → map (λ file. file.sequence) files ≡ map (λ m. m.part) matches
    → map value_placed places ≡ map value_kept matches → AllByRecursion (λ m. IsThere m.part m.bytes m.number) matches → ArePlacesOf files places (map match_in matches)
places-of [] [] [] same values there = tt
places-of [] [] (p ∷ places) same values there = cons-no (value_placed p) (map value_placed places) values
places-of [] (m ∷ matches) places same values there = no-cons m.part (map (λ m. m.part) matches) same
places-of (file ∷ files) [] places same values there = cons-no file.sequence (map (λ file. file.sequence) files) same
places-of (file ∷ files) (m ∷ matches) [] same values there = no-cons (value_kept m) (map value_kept matches) values
places-of (file ∷ files) (m ∷ matches) (p ∷ places) same values there = (
  place-of file m.part m.bytes m.number p (same-first file.sequence m.part (map (λ file. file.sequence) files) (map (λ m. m.part) matches) same)
      (same-first (value_placed p) (value_kept m) (map value_placed places) (map value_kept matches) values) there.0,
  places-of files matches places (same-rest file.sequence m.part (map (λ file. file.sequence) files) (map (λ m. m.part) matches) same)
      (same-rest (value_placed p) (value_kept m) (map value_placed places) (map value_kept matches) values) there.1,
)

-- ---- the place of the row, and of given values

module _ (spec : JoinSpec) (parts : List KeyPart) (matches : List MatchKept) (is : IsStandFor spec parts matches) where
  own : parts_of spec.primary.formats 0 ≡ parts
  own = ap (λ (fs : List PathFormat). parts_of fs 0) is.one.1 ∙ sym (ap parts_in is.one.1) ∙ is.parts_are

  pub at-on : (key : List ℕ) (rrn : ℕ) (places : List MatchPlace) → ArePlaced matches places → (1 ≤ rrn) × (rrn < 4294967295) × IsKeyOf parts key
      → IsPlace spec key rrn places (place_by parts key rrn matches)
  at-on key rrn places placed stands =
      let image : List ℕ = stands.2.held.0 in
      let values : values_in parts key ≡ key_of parts image = ap (values_in parts) stands.2.held.2 ∙ image-back parts image stands.2.held.1 in
      let few : length spec.primary.formats ≡ 1 = ap length is.one.1 in
      record {
        primary =
            ap (λ (k : List ℕ). entry_with 0 rrn k)
            (ap (λ (p : List KeyPart). key_bytes p (values_in parts key)) own ∙ ap (key_bytes parts) values ∙ sym stands.2.held.2);
        is_entry = record { format = omega (arith, few); key = (image, stands.2.held.1, values ∙ ap (λ (p : List KeyPart). key_of p image) (sym own)) };
        some = stands.0;
        most = stands.1;
        secondaries = places-of spec.secondaries matches places is.sequences placed.values (recursion_from_All (λ m. IsThere m.part m.bytes m.number) matches placed.there);
      }

  pub at-bound : (key : List ℕ) → AreGivenBytes parts key → IsBound spec key (KeyBound (values_in parts key))
  at-bound key given =
      subst (λ (p : List KeyPart). (key ≡ key_bytes p (values_in parts key)) × AreGiven p (values_in parts key)) (sym is.parts_are) (given-known parts key given)
