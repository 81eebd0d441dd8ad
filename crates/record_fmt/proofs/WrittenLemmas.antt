-- What is written for the fields of a record, one behind the other.
use Rattle.std.proofs.Common.{Bor, ◌≡◌, ℕ, suc, ◌+◌, ◌-◌, ◌<◌, ◌≤◌, Bool, true, false, Option, Some, None, is_some, option_map, Result, Ok, Err, is_ok, List, [], ◌∷◌, ◌++◌, length, take, drop, get_or, refl, sym, ◌∙◌, ap, subst, append_assoc, append-nil, add-one, arith}
use Rattle.std.specs.Option.{option_copied, ForSome}
use Rattle.std.specs.Result.{result_err}
use Rattle.std.proofs.lemmas.List.{drop_all, take_all, length-append, length-drop, drop-drop, take-append-drop}
use Rattle.std.proofs.lemmas.Bool.{eq-eqb, ne_eqb}
use Rattle.std.proofs.Math.Seq.{drop-cons, take-add, take-append_seam, drop-append_seam}
use Rattle.field_types.specs.declared.values.Value.{Value}
use Rattle.field_types.specs.declared.faults.ValueFault.{ValueFault}
use Rattle.field_types.specs.declared.faults.RecordFault.{RecordFault}
use Rattle.field_types.specs.declared.faults.RecordFault.TheVariants.{Count, BadField}
use Rattle.field_values.specs.FieldTypes.{width}
use Rattle.field_values.specs.FirstBad.{part}
use Rattle.record_fmt.specs.declared.formats.Field.{Field}
use Rattle.record_fmt.specs.declared.formats.PackFault.TheVariants.{Refused}
use Rattle.record_fmt.specs.Layout.{record_length}
use Rattle.record_fmt.specs.Records.{behind, field_before, given_before, fields_given, record_given}
use Rattle.record_fmt.specs.Choice.{chosen, refused_by, put_bytes, put_over, kept, StartsAs}
use Rattle.record_fmt.proofs.LayoutLemmas.{IsFieldOf, split-fields, record_length-more, field-offset, field-room}

behind-behind : (a b : List ℕ) (r : Result (List ℕ) RecordFault) → behind a (behind b r) ≡ behind (a ++ b) r
behind-behind a b (Ok bytes) = ap Ok (sym (append_assoc a b bytes))
behind-behind a b (Err fault) = refl

behind-none : (r : Result (List ℕ) RecordFault) → behind [] r ≡ r
behind-none (Ok bytes) = refl
behind-none (Err fault) = refl

result_err-behind : (a : List ℕ) (r : Result (List ℕ) RecordFault) → result_err (behind a r) ≡ result_err r
result_err-behind a (Ok bytes) = refl
result_err-behind a (Err fault) = refl

map-drop_none : (o : Option (List ℕ)) → option_map (drop 0) o ≡ o
map-drop_none None = refl
map-drop_none (Some bytes) = refl

map-drop_twice : (m n : ℕ) (o : Option (List ℕ)) → option_map (drop n) (option_map (drop m) o) ≡ option_map (drop (m + n)) o
map-drop_twice m n None = refl
map-drop_twice m n (Some bytes) = ap Some (drop-drop n m bytes)

some-mapped : (n : ℕ) (o : Option (List ℕ)) → is_some (option_map (drop n) o) ≡ is_some o
some-mapped n None = refl
some-mapped n (Some bytes) = refl

-- the bytes that a field keeps
abbrev pub old_part : Field → Option (List ℕ) → List ℕ
old_part f None = []
old_part f (Some bytes) = take (width f.ty) bytes

given_before-parts : (number : ℕ) (f : Field) (v : Option Value) (old : Option (List ℕ)) (rest : Result (List ℕ) RecordFault) →
    given_before number f v old rest ≡ field_before number (refused_by f (chosen f v (is_some old))) (put_bytes f (chosen f v (is_some old)) (old_part f old)) rest
given_before-parts number f (Some v) old rest = refl
given_before-parts number f None (Some bytes) rest = refl
given_before-parts number f None None rest = refl

-- what the fields from number i on make, counted from 0
abbrev pub goes_on : ℕ → List Field → List (Option Value) → Option (List ℕ) → Result (List ℕ) RecordFault
goes_on i fs vs old = fields_given (i + 1) (drop i fs) (drop i vs) (option_map (drop (record_length (take i fs))) old)

pub goes_on-start : (fs : List Field) (vs : List (Option Value)) (old : Option (List ℕ)) → goes_on 0 fs vs old ≡ fields_given 1 fs vs old
goes_on-start fs vs old = ap (λ (o : Option (List ℕ)). fields_given 1 fs vs o) (map-drop_none old)

-- the field of this number, and what is given for it
pub record IsGiven (fs : List Field) (vs : List (Option Value)) (i : ℕ) (f : Field) (v : Option Value) : Type 0 where
  pub within : i < length fs
  pub is : f ≡ get_or fs i f
  pub same : length vs ≡ length fs
  pub given : v ≡ get_or vs i None

goes_on-here : {fs : List Field} {vs : List (Option Value)} {i : ℕ} {f : Field} {v : Option Value} → IsGiven fs vs i f v → (old : Option (List ℕ)) →
    goes_on i fs vs old ≡ given_before (i + 1) f v (option_map (drop (record_length (take i fs))) old) (goes_on (i + 1) fs vs old)
goes_on-here {fs = fs} {vs = vs} {i = i} {f = f} {v = v} here old =
    let off = record_length (take i fs) in
    let first : drop i fs ≡ f ∷ drop (i + 1) fs = split-fields fs i f here.within here.is ∙ ap (λ (n : ℕ). f ∷ drop n fs) (sym (add-one i)) in
    let value : drop i vs ≡ v ∷ drop (i + 1) vs = drop-cons vs i None (let lt : i < length vs = omega (arith, here.same, here.within) in lt) ∙ ap (λ (w : Option Value). w ∷ drop (suc i) vs) (sym here.given) ∙ ap (λ (n : ℕ). v ∷ drop n vs) (sym (add-one i)) in
    let rest : option_map (drop (width f.ty)) (option_map (drop off) old) ≡ option_map (drop (record_length (take (i + 1) fs))) old =
    map-drop_twice off (width f.ty) old ∙ ap (λ (n : ℕ). option_map (drop n) old) (sym (record_length-more fs i f here.within here.is)) in
    ap (λ (gs : List Field). fields_given (i + 1) gs (drop i vs) (option_map (drop off) old)) first
    ∙ ap (λ (ws : List (Option Value)). fields_given (i + 1) (f ∷ drop (i + 1) fs) ws (option_map (drop off) old)) value
    ∙ ap (λ (o : Option (List ℕ)). given_before (i + 1) f v (option_map (drop off) old) (fields_given (i + 1 + 1) (drop (i + 1) fs) (drop (i + 1) vs) o)) rest

pub goes_on-parts : {fs : List Field} {vs : List (Option Value)} {i : ℕ} {f : Field} {v : Option Value} → IsGiven fs vs i f v → (old : Option (List ℕ)) →
    goes_on i fs vs old ≡ field_before (i + 1) (refused_by f (chosen f v (is_some old))) (put_bytes f (chosen f v (is_some old)) (old_part f (option_map (drop (record_length (take i fs))) old))) (goes_on (i + 1) fs vs old)
goes_on-parts {fs = fs} {vs = vs} {i = i} {f = f} {v = v} here old =
    let off = record_length (take i fs) in
    goes_on-here here old
    ∙ given_before-parts (i + 1) f v (option_map (drop off) old) (goes_on (i + 1) fs vs old)
    ∙ ap (λ (b : Bool). field_before (i + 1) (refused_by f (chosen f v b)) (put_bytes f (chosen f v b) (old_part f (option_map (drop off) old))) (goes_on (i + 1) fs vs old)) (some-mapped off old)

pub goes_on-end : (i : ℕ) (fs : List Field) (vs : List (Option Value)) (old : Option (List ℕ)) → length fs ≤ i → goes_on i fs vs old ≡ Ok []
goes_on-end i fs vs old le = ap (λ (gs : List Field). fields_given (i + 1) gs (drop i vs) (option_map (drop (record_length (take i fs))) old)) (drop_all i fs le)

-- the fault is that of the fields from this one on
pub refused-turn : {fs : List Field} {vs : List (Option Value)} {i : ℕ} {f : Field} {v : Option Value} → IsGiven fs vs i f v → (old : Option (List ℕ)) →
    refused_by f (chosen f v (is_some old)) ≡ None → result_err (goes_on i fs vs old) ≡ result_err (goes_on (i + 1) fs vs old)
refused-turn {fs = fs} {vs = vs} {i = i} {f = f} {v = v} here old none =
    let bytes = put_bytes f (chosen f v (is_some old)) (old_part f (option_map (drop (record_length (take i fs))) old)) in
    ap result_err (goes_on-parts here old ∙ ap (λ (o : Option ValueFault). field_before (i + 1) o bytes (goes_on (i + 1) fs vs old)) none)
    ∙ result_err-behind bytes (goes_on (i + 1) fs vs old)

pub refused-here : {fs : List Field} {vs : List (Option Value)} {i : ℕ} {f : Field} {v : Option Value} → IsGiven fs vs i f v → (old : Option (List ℕ)) (cause : ValueFault) →
    refused_by f (chosen f v (is_some old)) ≡ Some cause → goes_on i fs vs old ≡ Err (BadField (i + 1) cause)
refused-here {fs = fs} {vs = vs} {i = i} {f = f} {v = v} here old cause some =
    goes_on-parts here old
    ∙ ap (λ (o : Option ValueFault). field_before (i + 1) o (put_bytes f (chosen f v (is_some old)) (old_part f (option_map (drop (record_length (take i fs))) old))) (goes_on (i + 1) fs vs old)) some

-- the first i fields have their bytes, and the others those that were there
pub record IsFilled (fs : List Field) (vs : List (Option Value)) (keeps : Bool) (before image : List ℕ) (i : ℕ) : Type 0 where
  pub done : fields_given 1 fs vs (kept keeps before) ≡ behind (take (record_length (take i fs)) image) (goes_on i fs vs (kept keeps before))
  pub others : drop (record_length (take i fs)) image ≡ drop (record_length (take i fs)) before

pub IsFilled-start : (fs : List Field) (vs : List (Option Value)) (keeps : Bool) (before : List ℕ) → IsFilled fs vs keeps before before 0
IsFilled-start fs vs keeps before = record {
  done = sym (goes_on-start fs vs (kept keeps before)) ∙ sym (behind-none (goes_on 0 fs vs (kept keeps before)));
  others = refl;
}

some-kept : (keeps : Bool) (bytes : List ℕ) → is_some (kept keeps bytes) ≡ keeps
some-kept true bytes = refl
some-kept false bytes = refl

-- a field that keeps its bytes has those that were there
kept-part : (f : Field) (v : Option Value) (keeps : Bool) (n : ℕ) (before image : List ℕ) → drop n image ≡ drop n before →
    put_bytes f (chosen f v keeps) (old_part f (option_map (drop n) (kept keeps before))) ≡ put_bytes f (chosen f v keeps) (part n (width f.ty) image)
kept-part f (Some v) keeps n before image e = refl
kept-part f None true n before image e = ap (take (width f.ty)) (sym e)
kept-part f None false n before image e = refl

-- bytes put in place of as many
splice : (image new bytes : List ℕ) (n w : ℕ) → n + w ≤ length image → length new ≡ length image → new ≡ (take n image ++ bytes) ++ drop (n + w) image →
    (take (n + w) new ≡ take n image ++ bytes) × (drop (n + w) new ≡ drop (n + w) image)
splice image new bytes n w room long is =
    let front : List ℕ = take n image ++ bytes in
    let back : length (drop (n + w) image) ≡ length image - (n + w) = length-drop (n + w) image in
    let all : length front + length (drop (n + w) image) ≡ length image = sym (length-append front (drop (n + w) image)) ∙ sym (ap length is) ∙ long in
    let wide : length front ≡ n + w = omega (arith, back, all, room) in (
      ap (take (n + w)) is ∙ subst (λ (k : ℕ). take k (front ++ drop (n + w) image) ≡ front) wide (take-append_seam front (drop (n + w) image)),
      ap (drop (n + w)) is ∙ subst (λ (k : ℕ). drop k (front ++ drop (n + w) image) ≡ drop (n + w) image) wide (drop-append_seam front (drop (n + w) image)),
    )

pub IsFilled-turn : {fs : List Field} {vs : List (Option Value)} {keeps : Bool} {before image : List ℕ} {i : ℕ} {f : Field} {v : Option Value} →
    IsFieldOf fs i f image → IsGiven fs vs i f v → IsFilled fs vs keeps before image i → refused_by f (chosen f v keeps) ≡ None → (new : List ℕ) → length new ≡ length image →
    new ≡ put_over f (chosen f v keeps) image → IsFilled fs vs keeps before new (i + 1)
IsFilled-turn {fs = fs} {vs = vs} {keeps = keeps} {before = before} {image = image} {i = i} {f = f} {v = v} here given filled none new long is =
    let n = record_length (take i fs) in
    let w = width f.ty in
    let old : Option (List ℕ) = kept keeps before in
    let place : f.offset ≡ n = field-offset here in
    let bytes : List ℕ = put_bytes f (chosen f v keeps) (part n w image) in
    let end : record_length (take (i + 1) fs) ≡ n + w = record_length-more fs i f given.within given.is in
    let put : new ≡ (take n image ++ bytes) ++ drop (n + w) image = subst (λ (k : ℕ). new ≡ (take k image ++ put_bytes f (chosen f v keeps) (part k w image)) ++ drop (k + w) image) place is in
    let room : n + w ≤ length image = subst (λ (k : ℕ). k + w ≤ length image) place (field-room here) in
    let spliced = splice image new bytes n w room long put in
    let parts : goes_on i fs vs old ≡ field_before (i + 1) (refused_by f (chosen f v keeps)) (put_bytes f (chosen f v keeps) (old_part f (option_map (drop n) old))) (goes_on (i + 1) fs vs old) =
    subst (λ (b : Bool). goes_on i fs vs old ≡ field_before (i + 1) (refused_by f (chosen f v b)) (put_bytes f (chosen f v b) (old_part f (option_map (drop n) old))) (goes_on (i + 1) fs vs old)) (some-kept keeps before) (goes_on-parts given old) in
    let more : goes_on i fs vs old ≡ behind bytes (goes_on (i + 1) fs vs old) =
    parts ∙ ap (λ (o : Option ValueFault). field_before (i + 1) o (put_bytes f (chosen f v keeps) (old_part f (option_map (drop n) old))) (goes_on (i + 1) fs vs old)) none
    ∙ ap (λ (b : List ℕ). behind b (goes_on (i + 1) fs vs old)) (kept-part f v keeps n before image filled.others) in
    record {
      done = filled.done ∙ ap (behind (take n image)) more ∙ behind-behind (take n image) bytes (goes_on (i + 1) fs vs old)
          ∙ ap (λ (b : List ℕ). behind b (goes_on (i + 1) fs vs old)) (sym spliced.0)
          ∙ ap (λ (k : ℕ). behind (take k new) (goes_on (i + 1) fs vs old)) (sym end);
      others = ap (λ (k : ℕ). drop k new) end ∙ spliced.1 ∙ sym (drop-drop w n image) ∙ ap (drop w) filled.others ∙ drop-drop w n before ∙ ap (λ (k : ℕ). drop k before) (sym end);
    }

pub IsFilled-fault : {fs : List Field} {vs : List (Option Value)} {keeps : Bool} {before image : List ℕ} {i : ℕ} {f : Field} {v : Option Value} →
    IsGiven fs vs i f v → IsFilled fs vs keeps before image i → (cause : ValueFault) → refused_by f (chosen f v keeps) ≡ Some cause →
    fields_given 1 fs vs (kept keeps before) ≡ Err (BadField (i + 1) cause)
IsFilled-fault {fs = fs} {keeps = keeps} {before = before} {image = image} {i = i} {f = f} {v = v} given filled cause some =
    filled.done ∙ ap (behind (take (record_length (take i fs)) image))
    (refused-here given (kept keeps before) cause (subst (λ (b : Bool). refused_by f (chosen f v b) ≡ Some cause) (sym (some-kept keeps before)) some))

pub IsFilled-end : (fs : List Field) (vs : List (Option Value)) (keeps : Bool) (before image : List ℕ) (i : ℕ) → IsFilled fs vs keeps before image i → length fs ≤ i → length image ≡ record_length fs →
    fields_given 1 fs vs (kept keeps before) ≡ Ok image
IsFilled-end fs vs keeps before image i filled le long =
    filled.done
    ∙ ap (behind (take (record_length (take i fs)) image)) (goes_on-end i fs vs (kept keeps before) le)
    ∙ ap Ok (append-nil (take (record_length (take i fs)) image))
    ∙ ap (λ (gs : List Field). Ok (take (record_length gs) image)) (take_all i fs le)
    ∙ ap Ok (take_all (record_length fs) image (omega (arith, long)))

pub record_given-fields : (fs : List Field) (vs : List (Option Value)) (old : Option (List ℕ)) → length vs ≡ length fs → record_given fs vs old ≡ fields_given 1 fs vs old
unfolding record_given
record_given-fields fs vs old same = rw (eq-eqb (length vs) (length fs) same) refl

pub record_given-count : (fs : List Field) (vs : List (Option Value)) (old : Option (List ℕ)) → (length vs ≡ length fs → ⊥) → record_given fs vs old ≡ Err Count
unfolding record_given
record_given-count fs vs old other = rw (ne_eqb (length vs) (length fs) other) refl

pub kept-start : (old : Option (List ℕ)) (n : ℕ) (bytes : List ℕ) → StartsAs old n bytes → kept (is_some old) bytes ≡ old
kept-start None n bytes h = refl
kept-start (Some b) n bytes h = ap Some h

pub is_err : (r : Result (List ℕ) RecordFault) (fault : RecordFault) → result_err r ≡ Some fault → r ≡ Err fault
is_err (Ok bytes) fault h = cc
is_err (Err other) fault h = ap Err (let e : other ≡ fault = cc in e)

pub is_no_err : (r : Result (List ℕ) RecordFault) → result_err r ≡ None → is_ok r ≡ true
is_no_err (Ok bytes) h = refl
is_no_err (Err fault) h = cc

before-count : (number : ℕ) (o : Option ValueFault) (bytes : List ℕ) (rest : Result (List ℕ) RecordFault) → field_before number o bytes rest ≡ Err Count → rest ≡ Err Count
before-count number None bytes (Ok more) h = cc
before-count number None bytes (Err fault) h = h
before-count number (Some cause) bytes rest h = cc

-- where values and fields are equal in number, no fault is one of their number
pub no-count : (number : ℕ) (fs : List Field) (vs : List (Option Value)) (old : Option (List ℕ)) → fields_given number fs vs old ≡ Err Count → ⊥
no-count number [] vs old h = cc
no-count number (f ∷ fs) [] old h = cc
no-count number (f ∷ fs) (v ∷ vs) old h =
    no-count (number + 1) fs vs (option_map (drop (width f.ty)) old)
    (before-count number (refused_by f (chosen f v (is_some old))) (put_bytes f (chosen f v (is_some old)) (old_part f old)) (fields_given (number + 1) fs vs (option_map (drop (width f.ty)) old))
    (sym (given_before-parts number f v old (fields_given (number + 1) fs vs (option_map (drop (width f.ty)) old))) ∙ h))

pub some-copied : (o : Option (Bor (List ℕ))) → is_some (option_copied o) ≡ is_some o
some-copied None = refl
some-copied (Some bytes) = refl

-- a field that keeps its bytes changes nothing
pub parts-again : (n w : ℕ) (image : List ℕ) → image ≡ take n image ++ take w (drop n image) ++ drop (n + w) image
parts-again n w image = sym (take-append-drop (n + w) image) ∙ ap (λ (front : List ℕ). front ++ drop (n + w) image) (take-add n w image)

-- the whole of a list, written back
pub written-back : (n : ℕ) (new old : List ℕ) → length new ≡ n → length old ≡ n → take n (new ++ drop (length new) old) ≡ new
written-back n new old long same =
    let none : drop (length new) old ≡ [] = drop_all (length new) old (omega (arith, long, same)) in
    ap (λ (back : List ℕ). take n (new ++ back)) none ∙ ap (take n) (append-nil new) ∙ take_all n new (omega (arith, long))

-- an image begins as long as a record
pub StartsAs-length : (old : Option (Bor (List ℕ))) (n m : ℕ) (bytes : List ℕ) → StartsAs (option_copied old) n bytes → n ≡ m → ForSome old (λ image. length image.now ≡ m) → length bytes ≡ m
StartsAs-length None n m bytes h e long = h ∙ e
StartsAs-length (Some image) n m bytes h e long = ap length h ∙ long image refl

-- a fault other than that of their number
pub not-count : (r : Result (List ℕ) RecordFault) (fault : RecordFault) → Some fault ≡ result_err r → (r ≡ Err Count → ⊥) → Refused fault ≡ Refused Count → ⊥
not-count r fault told other e = other (is_err r Count (sym told ∙ ap Some (let same : fault ≡ Count = cc in same)))
