-- The steps in which values are put, and a text split over pieces.
use Rattle.std.proofs.Common.{◌≡◌, ℕ, zero, suc, ◌+◌, ◌-◌, ◌≤◌, min, Option, Some, None, Ok, Err, List, [], ◌∷◌, ◌++◌, length, take, drop, replicate, refl, sym, ◌∙◌, ap, subst, arith}
use Rattle.std.specs.List.{AllByRecursion}
use Rattle.std.proofs.lemmas.Bool.{eq-eqb}
use Rattle.std.proofs.lemmas.List.{drop_all, take_all, length-drop}
use Rattle.field_types.specs.declared.values.Value.{Value}
use Rattle.field_types.specs.declared.faults.ValueFault.{ValueFault}
use Rattle.field_types.specs.declared.faults.RecordFault.{RecordFault}
use Rattle.field_types.specs.declared.faults.RecordFault.TheVariants.{BadField}
use Rattle.field_values.specs.FieldBytes.{filled}
use Rattle.file_model.below.record_fmt.specs.declared.formats.Field.{Field}
use Rattle.file_model.specs.declared.views.Piece.{Piece}
use Rattle.file_model.specs.declared.views.LogicalField.{LogicalField}
use Rattle.file_model.specs.Views.{put_at, put_pieces, pieces_length, put_value, put_or_refused, put_given, refusal, base_image, old_or_default}
use Rattle.view_rules.specs.Stored.{EndsWithin, fault_before, first_refused, with_values}

-- ---- given values

pub fault-stays : (number : ℕ) (fields : List LogicalField) (given : List (Option Value)) (fault : RecordFault) → put_given number fields given (Err fault) ≡ Err fault
fault-stays number [] given fault = refl
fault-stays number (f ∷ fields) [] fault = refl
fault-stays number (f ∷ fields) (v ∷ given) fault = refl

-- the first refusal is what is answered
pub refused-given : (number : ℕ) (fields : List LogicalField) (given : List (Option Value)) (image : List ℕ) (fault : RecordFault) →
    first_refused number fields given ≡ Some fault → put_given number fields given (Ok image) ≡ Err fault
refused-given number [] given image fault e = cc
refused-given number (f ∷ fields) [] image fault e = cc
refused-given number (f ∷ fields) (None ∷ given) image fault e = refused-given (number + 1) fields given image fault e
refused-given number (f ∷ fields) (Some v ∷ given) image fault e = by (refusal f v) (refused-given (number + 1) fields given (put_value f.field.ty f.field.source v image) fault) e
  where
    by : (o : Option ValueFault) → (first_refused (number + 1) fields given ≡ Some fault → put_given (number + 1) fields given (Ok (put_value f.field.ty f.field.source v image)) ≡ Err fault)
        → fault_before number o (first_refused (number + 1) fields given) ≡ Some fault → put_given (number + 1) fields given (put_or_refused number f v image o) ≡ Err fault
    by (Some cause) rest e = fault-stays (number + 1) fields given (BadField number cause) ∙ ap Err (let same : BadField number cause ≡ fault = cc in same)
    by None rest e = rest e

-- without a refusal the values are in their places
pub accepted-given : (number : ℕ) (fields : List LogicalField) (given : List (Option Value)) (image : List ℕ) →
    first_refused number fields given ≡ None → put_given number fields given (Ok image) ≡ Ok (with_values fields given image)
accepted-given number [] given image e = refl
accepted-given number (f ∷ fields) [] image e = refl
accepted-given number (f ∷ fields) (None ∷ given) image e = accepted-given (number + 1) fields given image e
accepted-given number (f ∷ fields) (Some v ∷ given) image e = by (refusal f v) (accepted-given (number + 1) fields given (put_value f.field.ty f.field.source v image)) e
  where
    next : List ℕ
    next = put_value f.field.ty f.field.source v image

    by : (o : Option ValueFault) → (first_refused (number + 1) fields given ≡ None → put_given (number + 1) fields given (Ok next) ≡ Ok (with_values fields given next))
        → fault_before number o (first_refused (number + 1) fields given) ≡ None
        → put_given (number + 1) fields given (put_or_refused number f v image o) ≡ Ok (with_values fields given next)
    by (Some cause) rest e = cc
    by None rest e = rest e

counted : (base : List Field) (fields : List LogicalField) (given : List (Option Value)) (old : Option (List ℕ)) → length given ≡ length fields →
    base_image base fields given old ≡ put_given 1 fields given (Ok (old_or_default base old))
counted base fields given old same = rw (eq-eqb (length given) (length fields) same) refl

pub base-refused : (base : List Field) (fields : List LogicalField) (given : List (Option Value)) (old : Option (List ℕ)) (fault : RecordFault) → length given ≡ length fields →
    first_refused 1 fields given ≡ Some fault → base_image base fields given old ≡ Err fault
base-refused base fields given old fault same e = counted base fields given old same ∙ refused-given 1 fields given (old_or_default base old) fault e

pub base-accepted : (base : List Field) (fields : List LogicalField) (given : List (Option Value)) (old : Option (List ℕ)) → length given ≡ length fields →
    first_refused 1 fields given ≡ None → base_image base fields given old ≡ Ok (with_values fields given (old_or_default base old))
base-accepted base fields given old same e = counted base fields given old same ∙ accepted-given 1 fields given (old_or_default base old) e

-- ---- texts over pieces

filled-none : (w : ℕ) → filled w [] ≡ replicate w 0x40
filled-none w = let same : w - 0 ≡ w = omega arith in ap (λ (n : ℕ). replicate n 0x40) same

filled-more : (w x : ℕ) (xs : List ℕ) → filled (suc w) (x ∷ xs) ≡ x ∷ filled w xs
filled-more w x xs = let same : suc w - suc (length xs) ≡ w - length xs = omega arith in ap (λ (n : ℕ). x ∷ (xs ++ replicate n 0x40)) same

blank-more : (w : ℕ) → filled (suc w) [] ≡ 0x40 ∷ filled w []
blank-more w = filled-none (suc w) ∙ ap (λ (xs : List ℕ). 0x40 ∷ xs) (sym (filled-none w))

cut-front : (n l w : ℕ) (xs : List ℕ) → w ≡ n + l → take n (filled w xs) ≡ filled n (take n xs)
cut-front zero l w xs e = refl
cut-front (suc n) l w [] e =
    let wide : w ≡ suc (n + l) = omega arith in
    ap (λ (m : ℕ). take (suc n) (filled m [])) wide ∙ ap (take (suc n)) (blank-more (n + l)) ∙ ap (λ (xs : List ℕ). 0x40 ∷ xs) (cut-front n l (n + l) [] refl)
    ∙ ap (λ (xs : List ℕ). 0x40 ∷ filled n xs) (take_all n [] (omega arith)) ∙ sym (blank-more n)
cut-front (suc n) l w (x ∷ xs) e =
    let wide : w ≡ suc (n + l) = omega arith in
    ap (λ (m : ℕ). take (suc n) (filled m (x ∷ xs))) wide ∙ ap (take (suc n)) (filled-more (n + l) x xs) ∙ ap (λ (ys : List ℕ). x ∷ ys) (cut-front n l (n + l) xs refl)
    ∙ sym (filled-more n x (take n xs))

cut-back : (n l w : ℕ) (xs : List ℕ) → w ≡ n + l → drop n (filled w xs) ≡ filled l (drop n xs)
cut-back zero l w xs e = let same : w ≡ l = omega arith in ap (λ (m : ℕ). filled m xs) same
cut-back (suc n) l w [] e =
    let wide : w ≡ suc (n + l) = omega arith in
    ap (λ (m : ℕ). drop (suc n) (filled m [])) wide ∙ ap (drop (suc n)) (blank-more (n + l)) ∙ cut-back n l (n + l) [] refl
    ∙ ap (filled l) (drop_all n [] (omega arith))
cut-back (suc n) l w (x ∷ xs) e =
    let wide : w ≡ suc (n + l) = omega arith in
    ap (λ (m : ℕ). drop (suc n) (filled m (x ∷ xs))) wide ∙ ap (drop (suc n)) (filled-more (n + l) x xs) ∙ cut-back n l (n + l) xs refl

take-less : (n : ℕ) (xs : List ℕ) → take (min (length xs) n) xs ≡ take n xs
take-less n [] = take_all (min 0 n) [] (omega arith) ∙ sym (take_all n [] (omega arith))
take-less zero (x ∷ xs) = let none : min (suc (length xs)) 0 ≡ 0 = omega arith in ap (λ (m : ℕ). take m (x ∷ xs)) none
take-less (suc n) (x ∷ xs) =
    let one : min (suc (length xs)) (suc n) ≡ suc (min (length xs) n) = omega arith in
    ap (λ (m : ℕ). take m (x ∷ xs)) one ∙ ap (λ (ys : List ℕ). x ∷ ys) (take-less n xs)

drop-less : (n : ℕ) (xs : List ℕ) → drop (min (length xs) n) xs ≡ drop n xs
drop-less n [] = drop_all (min 0 n) [] (omega arith) ∙ sym (drop_all n [] (omega arith))
drop-less zero (x ∷ xs) = let none : min (suc (length xs)) 0 ≡ 0 = omega arith in ap (λ (m : ℕ). drop m (x ∷ xs)) none
drop-less (suc n) (x ∷ xs) =
    let one : min (suc (length xs)) (suc n) ≡ suc (min (length xs) n) = omega arith in
    ap (λ (m : ℕ). drop m (x ∷ xs)) one ∙ drop-less n xs

-- a text is cut at the end of a piece, and each part filled by itself
pub piece-step : (p : Piece) (pieces : List Piece) (text image front back new : List ℕ) →
    front ≡ take (min (length text) p.length) text → back ≡ drop (min (length text) p.length) text → new ≡ put_at p.offset (filled p.length front) image →
    put_pieces pieces (filled (pieces_length pieces) back) new ≡ put_pieces (p ∷ pieces) (filled (pieces_length (p ∷ pieces)) text) image
piece-step p pieces text image front back new first rest put =
    let head : filled p.length front ≡ take p.length (filled (pieces_length (p ∷ pieces)) text) =
    ap (filled p.length) (first ∙ take-less p.length text) ∙ sym (cut-front p.length (pieces_length pieces) (pieces_length (p ∷ pieces)) text refl) in
    let tail : filled (pieces_length pieces) back ≡ drop p.length (filled (pieces_length (p ∷ pieces)) text) =
    ap (filled (pieces_length pieces)) (rest ∙ drop-less p.length text) ∙ sym (cut-back p.length (pieces_length pieces) (pieces_length (p ∷ pieces)) text refl) in
    ap (λ (w : List ℕ). put_pieces pieces (filled (pieces_length pieces) back) w) (put ∙ ap (λ (w : List ℕ). put_at p.offset w image) head)
    ∙ ap (λ (w : List ℕ). put_pieces pieces w (put_at p.offset (take p.length (filled (pieces_length (p ∷ pieces)) text)) image)) tail

-- what is still to be put, so that all is as wanted in the end
pub record IsSplit (bytes : ℕ) (pieces : List Piece) (rest image wanted : List ℕ) : Type 0 where
  pub place : AllByRecursion (EndsWithin bytes) pieces
  pub room : length rest ≤ pieces_length pieces
  pub same : put_pieces pieces (filled (pieces_length pieces) rest) image ≡ wanted

pub split-turn : (bytes : ℕ) (pieces : List Piece) (p : Piece) (more : List Piece) (rest image wanted front back new : List ℕ) → pieces ≡ p ∷ more → IsSplit bytes pieces rest image wanted →
    front ≡ take (min (length rest) p.length) rest → back ≡ drop (min (length rest) p.length) rest → new ≡ put_at p.offset (filled p.length front) image → IsSplit bytes more back new wanted
split-turn bytes pieces p more rest image wanted front back new first is head tail put =
    let here : IsSplit bytes (p ∷ more) rest image wanted = subst (λ (ps : List Piece). IsSplit bytes ps rest image wanted) first is in
    let short : length back ≡ length rest - min (length rest) p.length = ap length tail ∙ length-drop (min (length rest) p.length) rest in
    record {
      place = here.place.1;
      room = omega (arith, short, here.room);
      same = piece-step p more rest image front back new head tail put ∙ here.same;
    }
