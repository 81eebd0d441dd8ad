-- What stands in the fields of a record, and where its bytes stop being the beginning of one.
use Rattle.std.proofs.Common.{◌≡◌, ℕ, zero, suc, ◌+◌, ◌<◌, ◌≤◌, ◌↔◌, Bool, true, false, ◌==◌, Option, Some, None, is_some, Result, Ok, Err, List, [], ◌∷◌, ◌++◌, length, take, drop, get_or, refl, sym, ◌∙◌, ap, subst, arith, inl, inr}
use Rattle.std.proofs.lemmas.List.{take-append-le, take-append-drop, take_all, drop_all, length-take-le, length-drop, take_more, drop-append-le, drop-drop}
use Rattle.std.proofs.lemmas.Bool.{eqb-true, cases_Bool, both_ways}
use Rattle.std.proofs.Math.Seq.{take-append_seam, drop-append_seam, take-add}
use Rattle.field_types.specs.declared.kinds.FieldType.{FieldType}
use Rattle.field_types.specs.declared.values.Value.{Value}
use Rattle.field_values.specs.declared.fields.ImageFault.{ImageFault}
use Rattle.field_values.specs.declared.fields.ImageFault.TheVariants.{BadImage, NoMemory}
use Rattle.field_values.specs.FieldTypes.{width}
use Rattle.field_values.specs.FieldBytes.{held, IsBadAt}
use Rattle.field_values.specs.FirstBad.{IsFirstBad, part}
use Rattle.field_values.proofs.FirstBadLemmas.{IsFirstBad-false}
use Rattle.field_values.proofs.FieldLemmas.{IsFirstBad-one}
use Rattle.field_values.proofs.MomentLemmas.{IsFirstBad-part}
use Rattle.record_fmt.specs.declared.formats.Field.{Field}
use Rattle.record_fmt.specs.Layout.{record_length, lies_from}
use Rattle.record_fmt.specs.Records.{both, fields_held, record_held, IsRecordBadAt}
use Rattle.record_fmt.proofs.LayoutLemmas.{IsFieldOf, field-offset, field-room, field-part, record_length-more, split-fields, lies-parts, lies-drop}
use Rattle.record_fmt.proofs.ExampleLemmas.{example-of}

-- values and those behind them
abbrev pub appended : Option (List Value) → Option (List Value) → Option (List Value)
appended None more = None
appended (Some vs) None = None
appended (Some vs) (Some ws) = Some (vs ++ ws)

appended-none : (o : Option (List Value)) → appended (Some []) o ≡ o
appended-none None = refl
appended-none (Some vs) = refl

both-appended : (v : Option Value) (o p : Option (List Value)) → both v (appended o p) ≡ appended (both v o) p
both-appended None o p = refl
both-appended (Some v) None p = refl
both-appended (Some v) (Some vs) None = refl
both-appended (Some v) (Some vs) (Some ws) = refl

appended-some : (o p : Option (List Value)) → is_some o ≡ true → is_some (appended o p) ≡ is_some p
appended-some None p h = cc
appended-some (Some vs) None h = refl
appended-some (Some vs) (Some ws) h = refl

both-some : (v : Option Value) (o : Option (List Value)) → is_some (both v o) ≡ true → is_some v ≡ true
both-some None o h = h
both-some (Some v) o h = refl

both-rest : (v : Option Value) (o : Option (List Value)) → is_some (both v o) ≡ true → is_some o ≡ true
both-rest None o h = cc
both-rest (Some v) None h = h
both-rest (Some v) (Some vs) h = refl

some-both : (v : Option Value) (o : Option (List Value)) → is_some v ≡ true → is_some o ≡ true → is_some (both v o) ≡ true
some-both None o h g = h
some-both (Some v) None h g = g
some-both (Some v) (Some vs) h g = refl

-- what stands in two runs of fields
pub fields_held-append : (fs gs : List Field) (xs ys : List ℕ) → length xs ≡ record_length fs → fields_held (fs ++ gs) (xs ++ ys) ≡ appended (fields_held fs xs) (fields_held gs ys)
fields_held-append [] gs [] ys long = sym (appended-none (fields_held gs ys))
fields_held-append [] gs (x ∷ xs) ys long = absurd (omega arith)
fields_held-append (f ∷ fs) gs xs ys long =
    let here : width f.ty ≤ length xs = omega arith in
    let left : length (drop (width f.ty) xs) ≡ record_length fs = length-drop (width f.ty) xs ∙ omega arith in
    rw (take-append-le (width f.ty) xs ys here, drop-append-le (width f.ty) xs ys here, fields_held-append fs gs (drop (width f.ty) xs) ys left)
    (both-appended (held f.ty (take (width f.ty) xs)) (fields_held fs (drop (width f.ty) xs)) (fields_held gs ys))

one-field : (f : Field) (bytes : List ℕ) → length bytes ≡ width f.ty → fields_held (f ∷ []) bytes ≡ both (held f.ty bytes) (Some [])
one-field f bytes long =
    let all : take (width f.ty) bytes ≡ bytes = take_all (width f.ty) bytes (omega arith) in
    let none : drop (width f.ty) bytes ≡ [] = drop_all (width f.ty) bytes (omega arith) in
    rw (all, none) refl

-- what stands in the first i fields
abbrev pub first_held : ℕ → List Field → List ℕ → Option (List Value)
first_held i fs image = fields_held (take i fs) (take (record_length (take i fs)) image)

first_held-more : {fs : List Field} {i : ℕ} {f : Field} {image : List ℕ} → IsFieldOf fs i f image → first_held (i + 1) fs image ≡ appended (first_held i fs image) (both (held f.ty (part f.offset (width f.ty) image)) (Some []))
first_held-more {fs = fs} {i = i} {f = f} {image = image} here =
    let split : take (i + 1) fs ≡ take i fs ++ f ∷ [] = take_more fs i f here.within ∙ ap (λ (g : Field). take i fs ++ g ∷ []) (sym here.is) in
    let place : f.offset ≡ record_length (take i fs) = field-offset here in
    let room : f.offset + width f.ty ≤ length image = field-room here in
    let end : record_length (take (i + 1) fs) ≡ f.offset + width f.ty = (let more = record_length-more fs i f here.within here.is in omega (arith, more)) in
    let front : length (take f.offset image) ≡ record_length (take i fs) = length-take-le f.offset image (omega arith) ∙ place in
    ap (λ (n : ℕ). fields_held (take (i + 1) fs) (take n image)) end
    ∙ ap (λ (gs : List Field). fields_held gs (take (f.offset + width f.ty) image)) split
    ∙ ap (λ (bytes : List ℕ). fields_held (take i fs ++ f ∷ []) bytes) (take-add f.offset (width f.ty) image)
    ∙ fields_held-append (take i fs) (f ∷ []) (take f.offset image) (part f.offset (width f.ty) image) front
    ∙ ap (λ (o : Option (List Value)). appended (fields_held (take i fs) (take f.offset image)) o) (one-field f (part f.offset (width f.ty) image) (field-part here))
    ∙ ap (λ (n : ℕ). appended (fields_held (take i fs) (take n image)) (both (held f.ty (part f.offset (width f.ty) image)) (Some []))) place

-- a value more of those that stand there
pub first_held-value : {fs : List Field} {i : ℕ} {f : Field} {image : List ℕ} {vs : List Value} {v : Value} → IsFieldOf fs i f image →
    first_held i fs image ≡ Some vs → held f.ty (part f.offset (width f.ty) image) ≡ Some v → first_held (i + 1) fs image ≡ Some (vs ++ v ∷ [])
first_held-value here before there = first_held-more here ∙ rw (before, there) refl

pub first_held-good : {fs : List Field} {i : ℕ} {f : Field} {image : List ℕ} → IsFieldOf fs i f image →
    is_some (first_held i fs image) ≡ true → is_some (held f.ty (part f.offset (width f.ty) image)) ≡ true → is_some (first_held (i + 1) fs image) ≡ true
first_held-good {fs = fs} {i = i} {f = f} {image = image} here before there =
    ap is_some (first_held-more here)
    ∙ appended-some (first_held i fs image) (both (held f.ty (part f.offset (width f.ty) image)) (Some [])) before
    ∙ some-both (held f.ty (part f.offset (width f.ty) image)) (Some []) there refl

pub first_held-all : (fs : List Field) (i : ℕ) (image : List ℕ) → length fs ≤ i → length image ≡ record_length fs → first_held i fs image ≡ record_held fs image
unfolding record_held
first_held-all fs i image le long =
    ap (λ (gs : List Field). fields_held gs (take (record_length gs) image)) (take_all i fs le)
    ∙ ap (λ (bytes : List ℕ). fields_held fs bytes) (take_all (record_length fs) image (omega arith))

-- where a value stands in each field, one stands in this one
held-at : (fs : List Field) (i : ℕ) (f : Field) (image : List ℕ) → i < length fs → f ≡ get_or fs i f → is_some (fields_held fs image) ≡ true → is_some (held f.ty (part (record_length (take i fs)) (width f.ty) image)) ≡ true
held-at [] i f image lt is h = absurd (omega arith)
held-at (g ∷ gs) zero f image lt is h =
    subst (λ (k : Field). is_some (held k.ty (take (width k.ty) image)) ≡ true) (sym is) (both-some (held g.ty (take (width g.ty) image)) (fields_held gs (drop (width g.ty) image)) h)
held-at (g ∷ gs) (suc i) f image lt is h =
    subst (λ (bytes : List ℕ). is_some (held f.ty (take (width f.ty) bytes)) ≡ true) (drop-drop (record_length (take i gs)) (width g.ty) image)
    (held-at gs i f (drop (width g.ty) image) (omega arith) is (both-rest (held g.ty (take (width g.ty) image)) (fields_held gs (drop (width g.ty) image)) h))

pub held-field : {fs : List Field} {i : ℕ} {f : Field} {image : List ℕ} → IsFieldOf fs i f image → is_some (record_held fs image) ≡ true → is_some (held f.ty (part f.offset (width f.ty) image)) ≡ true
unfolding record_held
held-field {fs = fs} {i = i} {f = f} {image = image} here h =
    subst (λ (n : ℕ). is_some (held f.ty (part n (width f.ty) image)) ≡ true) (sym (field-offset here)) (held-at fs i f image here.within here.is h)

-- an image of a field is as wide as the field
pub held-length : (t : FieldType) (bytes : List ℕ) → is_some (held t bytes) ≡ true → length bytes ≡ width t
unfolding held
held-length t bytes h =
    elim (cases_Bool (length bytes == width t)) [
      | inl same ↦ eqb-true (length bytes) (width t) same
      | inr other ↦ absurd (let none : false ≡ true = rw other at h in cc)
    ]

-- what stands in a field stands before what stands in the fields behind it
both-fields : (f : Field) (fs : List Field) (p rest : List ℕ) → is_some (held f.ty p) ≡ true → is_some (fields_held fs rest) ≡ true → is_some (fields_held (f ∷ fs) (p ++ rest)) ≡ true
both-fields f fs p rest h g =
    let long : length p ≡ width f.ty = held-length f.ty p h in
    let front : take (width f.ty) (p ++ rest) ≡ p = subst (λ (n : ℕ). take n (p ++ rest) ≡ p) long (take-append_seam p rest) in
    let back : drop (width f.ty) (p ++ rest) ≡ rest = subst (λ (n : ℕ). drop n (p ++ rest) ≡ rest) long (drop-append_seam p rest) in
    rw (front, back) (some-both (held f.ty p) (fields_held fs rest) h g)

-- some image stands in fields one behind the other
examples : (start : ℕ) (fs : List Field) → lies_from start fs ≡ true → (bytes : List ℕ) × (is_some (fields_held fs bytes) ≡ true)
examples start [] lies = ([], refl)
examples start (f ∷ fs) lies =
    let parts = lies-parts start f fs lies in
    let one : (bytes : List ℕ) × (is_some (held f.ty bytes) ≡ true) = example-of f.ty.kind f.ty.length f.ty.decimals parts.1 in
    let more : (bytes : List ℕ) × (is_some (fields_held fs bytes) ≡ true) = examples (start + width f.ty) fs parts.2 in
    (one.0 ++ more.0, both-fields f fs one.0 more.0 one.1 more.1)

-- behind good bytes a record goes on as the rest of its fields does
behind-good : {fs : List Field} {i : ℕ} {f : Field} {image : List ℕ} → IsFieldOf fs i f image → is_some (first_held i fs image) ≡ true →
    (w : List ℕ) → is_some (fields_held fs (take f.offset image ++ w)) ≡ is_some (fields_held (f ∷ drop (suc i) fs) w)
behind-good {fs = fs} {i = i} {f = f} {image = image} here good w =
    let split : fs ≡ take i fs ++ f ∷ drop (suc i) fs = sym (take-append-drop i fs) ∙ ap (λ (gs : List Field). take i fs ++ gs) (split-fields fs i f here.within here.is) in
    let room : f.offset + width f.ty ≤ length image = field-room here in
    let front : length (take f.offset image) ≡ record_length (take i fs) = length-take-le f.offset image (omega arith) ∙ field-offset here in
    let before : is_some (fields_held (take i fs) (take f.offset image)) ≡ true = subst (λ (n : ℕ). is_some (fields_held (take i fs) (take n image)) ≡ true) (sym (field-offset here)) good in
    ap (λ (gs : List Field). is_some (fields_held gs (take f.offset image ++ w))) split
    ∙ ap is_some (fields_held-append (take i fs) (f ∷ drop (suc i) fs) (take f.offset image) w front)
    ∙ appended-some (fields_held (take i fs) (take f.offset image)) (fields_held (f ∷ drop (suc i) fs) w) before

-- where a field's bytes go wrong the record's do
pub IsRecordBadAt-field : {fs : List Field} {i : ℕ} {f : Field} {image : List ℕ} → IsFieldOf fs i f image → is_some (first_held i fs image) ≡ true →
    (at : ℕ) → IsBadAt f.ty (part f.offset (width f.ty) image) at → IsRecordBadAt fs image (f.offset + at)
unfolding record_held
IsRecordBadAt-field {fs = fs} {i = i} {f = f} {image = image} here good at bad =
    let later : (other : ℕ) × (lies_from other (drop (suc i) fs) ≡ true) = lies-drop 0 fs (suc i) here.laid.lies in
    let rest : (bytes : List ℕ) × (is_some (fields_held (drop (suc i) fs) bytes) ≡ true) = examples later.0 (drop (suc i) fs) later.1 in
    IsFirstBad-part (λ bytes. is_some (fields_held fs bytes)) (λ bytes. is_some (held f.ty bytes)) f.offset (width f.ty) image (f.offset + at) (field-room here)
    (λ w e. both-some (held f.ty (take (width f.ty) w)) (fields_held (drop (suc i) fs) (drop (width f.ty) w)) (sym (behind-good here good w) ∙ e))
    (λ p e. (rest.0, behind-good here good (p ++ rest.0) ∙ both-fields f (drop (suc i) fs) p rest.0 e rest.1))
    (record { inner = at; place = refl; bad = bad })

-- the place that an answer names
place_of : {A : Type 0} → Result A ImageFault → ℕ
place_of (Ok v) = 0
place_of (Err NoMemory) = 0
place_of (Err (BadImage bad)) = bad.at

pub names-bad : {A : Type 0} (test : List ℕ → Bool) (image : List ℕ) (at : ℕ) → IsFirstBad test image at →
    (other : ℕ) → (◌≡◌ {A = Result A ImageFault} (Err (BadImage (record { at = at }))) (Err (BadImage (record { at = other })))) ↔ IsFirstBad test image other
unfolding place_of
names-bad test image at h other = (
  (λ e. subst (λ (k : ℕ). IsFirstBad test image k) (ap place_of e) h),
  (λ bad. ap (λ (k : ℕ). Err (BadImage (record { at = k }))) (IsFirstBad-one test image at other h bad)),
)

pub names-none : {A : Type 0} (test : List ℕ → Bool) (image : List ℕ) (r : Result A ImageFault) → test image ≡ true → ((other : ℕ) → r ≡ Err (BadImage (record { at = other })) → ⊥) →
    (other : ℕ) → (r ≡ Err (BadImage (record { at = other }))) ↔ IsFirstBad test image other
names-none test image r there none other = (
  (λ e. absurd (none other e)),
  (λ bad. absurd (let fails : test image ≡ false = IsFirstBad-false test image other bad in both_ways (test image) fails there)),
)
