-- What stands in a field, kind by kind, and what of a number's field follows from its faults.
use Rattle.std.proofs.Common.{◌≡◌, ℕ, ◌+◌, ◌*◌, ◌^◌, ◌<◌, ◌≤◌, ◌↔◌, Bool, true, false, cond, ◌&&◌, ◌==◌, nat_lt, IsTrue, Option, Some, None, is_some, option_map, Result, Ok, Err, inl, inr, ℤ, unsigned_abs, List, ◌++◌, length, take, drop, map, refl, sym, ◌∙◌, ap, subst, arith, append_assoc}
use Rattle.std.specs.List.{list_all}
use Rattle.std.proofs.lemmas.List.{take-append-drop, take-take}
use Rattle.std.proofs.lemmas.Bool.{and_parts, eqb-true, eq-eqb, cases_order, both_ways}
use Rattle.decimal_order.below.field_types.specs.declared.kinds.Kind.{Kind}
use Rattle.decimal_order.below.field_types.specs.declared.kinds.Kind.TheVariants.{Char, Zoned, Packed, Binary, Date, Time, Stamp}
use Rattle.decimal_order.below.field_types.specs.declared.kinds.FieldType.{FieldType}
use Rattle.decimal_order.below.field_types.specs.declared.values.Value.{Value}
use Rattle.decimal_order.below.field_types.specs.declared.values.Value.TheVariants.{Chars}
use Rattle.field_values.specs.declared.fields.ImageFault.{ImageFault}
use Rattle.field_values.specs.declared.fields.ImageFault.TheVariants.{BadImage, NoMemory}
use Rattle.field_values.specs.FieldTypes.{IsFieldType, is_allowed, is_numeric, width, width_of, packed_width, binary_width}
use Rattle.field_values.specs.Digits.{number_in, signed, is_minus, high_half, low_half, last_byte}
use Rattle.field_values.specs.Zoned.{is_zoned}
use Rattle.field_values.specs.Packed.{is_packed, is_spare_clear, packed_digits}
use Rattle.field_values.specs.Binary.{is_byte, binary_number, twos_complement}
use Rattle.field_values.specs.Moments.{is_date, is_time, is_timestamp}
use Rattle.field_values.specs.FirstBad.{IsFirstBad, TellsFirstBad}
use Rattle.field_values.specs.FieldBytes.{held, stands, IsBadAt, decimal}
use Rattle.field_values.proofs.FirstBadLemmas.{TellsFirstBad-same, IsFirstBad-false}
use Rattle.field_values.proofs.BinaryLemmas.{binary-room}
use Rattle.field_values.proofs.DateLemmas.{date-parts}
use Rattle.field_values.proofs.TimeLemmas.{time-parts}
use Rattle.field_values.proofs.StampLemmas.{timestamp-parts}

-- a type by its kind
abbrev pub field : Kind → ℕ → ℕ → FieldType
field kind length decimals = record { kind = kind; length = length; decimals = decimals }

some-mapped : {A B : Type 0} (a b : Bool) (f : A → B) (x : A) → (a && b) ≡ is_some (cond a (option_map f (cond b (Some x) None)) None)
some-mapped true true f x = refl
some-mapped true false f x = refl
some-mapped false b f x = refl

some-option : {A B : Type 0} (a : Bool) (f : A → B) (o : Option A) → (a && is_some o) ≡ is_some (cond a (option_map f o) None)
some-option true f None = refl
some-option true f (Some x) = refl
some-option false f o = refl

some-whole : {A : Type 0} (a b : Bool) (x : A) → (b ≡ true → a ≡ true) → b ≡ is_some (cond a (cond b (Some x) None) None)
some-whole true true x h = refl
some-whole true false x h = refl
some-whole false true x h = absurd (let e : false ≡ true = h refl in cc)
some-whole false false x h = refl

pub held-char : (n d : ℕ) (w : List ℕ) → length w ≡ n → is_some (held (field Char n d) w) ≡ true
unfolding held
held-char n d w long = rw (eq-eqb (length w) n long) refl

pub held-zoned : (n d : ℕ) (w : List ℕ) → ((length w == n) && is_zoned w) ≡ is_some (held (field Zoned n d) w)
unfolding held
held-zoned n d w = some-mapped (length w == n) (is_zoned w) (decimal d) (signed (is_minus (high_half (last_byte w))) (number_in 10 (map low_half w)))

pub held-packed : (n d : ℕ) (w : List ℕ) → ((length w == packed_width n) && (is_packed w && is_spare_clear n w)) ≡ is_some (held (field Packed n d) w)
unfolding held
held-packed n d w = some-mapped (length w == packed_width n) (is_packed w && is_spare_clear n w) (decimal d) (signed (is_minus (low_half (last_byte w))) (number_in 10 (packed_digits w)))

pub held-binary : (n d : ℕ) (w : List ℕ) → ((length w == binary_width n) && is_some (binary_number n w)) ≡ is_some (held (field Binary n d) w)
unfolding held
held-binary n d w = some-option (length w == binary_width n) (decimal d) (binary_number n w)

pub held-date : (d : ℕ) (w : List ℕ) → is_date w ≡ is_some (held (field Date 10 d) w)
unfolding held
held-date d w = some-whole (length w == 10) (is_date w) (Chars w) (λ e. eq-eqb (length w) 10 (date-parts w e).long)

pub held-time : (d : ℕ) (w : List ℕ) → is_time w ≡ is_some (held (field Time 8 d) w)
unfolding held
held-time d w = some-whole (length w == 8) (is_time w) (Chars w) (λ e. eq-eqb (length w) 8 (time-parts w e).long)

pub held-timestamp : (d : ℕ) (w : List ℕ) → is_timestamp w ≡ is_some (held (field Stamp 26 d) w)
unfolding held
held-timestamp d w = some-whole (length w == 26) (is_timestamp w) (Chars w) (λ e. eq-eqb (length w) 26 (timestamp-parts w e).long)

-- a type is one of its kind
as-field : (t : FieldType) (kind : Kind) → t.kind ≡ kind → t ≡ field kind t.length t.decimals
as-field t kind e = ap (λ (k : Kind). field k t.length t.decimals) e

-- what a reader of one kind tells is what the field tells
told : (t : FieldType) (kind : Kind) (image : List ℕ) (place : Option ℕ) (test : ℕ → List ℕ → Bool) → t.kind ≡ kind → length image ≡ width_of kind t.length →
    ((w : List ℕ) → test (width_of kind t.length) w ≡ is_some (held (field kind t.length t.decimals) w)) →
    TellsFirstBad (test (length image)) image place → TellsFirstBad (λ w. is_some (held t w)) image place
told t kind image place test is long same h =
    let there = subst (λ (n : ℕ). TellsFirstBad (test n) image place) long h in
    subst (λ (s : FieldType). TellsFirstBad (λ w. is_some (held s w)) image place) (sym (as-field t kind is))
    (TellsFirstBad-same (test (width_of kind t.length)) (λ w. is_some (held (field kind t.length t.decimals) w)) image place same there)

width-kind : (t : FieldType) (kind : Kind) → t.kind ≡ kind → width t ≡ width_of kind t.length
width-kind t kind e = ap (λ (k : Kind). width_of k t.length) e

pub told-char : (t : FieldType) (image : List ℕ) → t.kind ≡ Char → length image ≡ width t → is_some (held t image) ≡ true
told-char t image kind long =
    subst (λ (s : FieldType). is_some (held s image) ≡ true) (sym (as-field t Char kind)) (held-char t.length t.decimals image (long ∙ width-kind t Char kind))

pub told-zoned : (t : FieldType) (image : List ℕ) (place : Option ℕ) → t.kind ≡ Zoned → length image ≡ width t →
    TellsFirstBad (λ w. (length w == length image) && is_zoned w) image place → TellsFirstBad (λ w. is_some (held t w)) image place
told-zoned t image place kind long = told t Zoned image place (λ n w. (length w == n) && is_zoned w) kind (long ∙ width-kind t Zoned kind) (held-zoned t.length t.decimals)

pub told-packed : (t : FieldType) (image : List ℕ) (place : Option ℕ) → t.kind ≡ Packed → length image ≡ width t →
    TellsFirstBad (λ w. (length w == length image) && (is_packed w && is_spare_clear t.length w)) image place → TellsFirstBad (λ w. is_some (held t w)) image place
told-packed t image place kind long = told t Packed image place (λ n w. (length w == n) && (is_packed w && is_spare_clear t.length w)) kind (long ∙ width-kind t Packed kind) (held-packed t.length t.decimals)

pub told-binary : (t : FieldType) (image : List ℕ) (place : Option ℕ) → t.kind ≡ Binary → length image ≡ width t →
    TellsFirstBad (λ w. (length w == length image) && is_some (binary_number t.length w)) image place → TellsFirstBad (λ w. is_some (held t w)) image place
told-binary t image place kind long = told t Binary image place (λ n w. (length w == n) && is_some (binary_number t.length w)) kind (long ∙ width-kind t Binary kind) (held-binary t.length t.decimals)

-- the length of a date, time or timestamp
pub moment-length : (t : FieldType) (kind : Kind) → IsFieldType t → t.kind ≡ kind → IsTrue (is_allowed kind t.length t.decimals)
moment-length t kind allowed e = subst (λ (k : Kind). IsTrue (is_allowed k t.length t.decimals)) e allowed

told-moment : (t : FieldType) (kind : Kind) (n : ℕ) (image : List ℕ) (place : Option ℕ) (test : List ℕ → Bool) → t.kind ≡ kind → t.length ≡ n →
    ((w : List ℕ) → test w ≡ is_some (held (field kind n t.decimals) w)) → TellsFirstBad test image place → TellsFirstBad (λ w. is_some (held t w)) image place
told-moment t kind n image place test is long same h =
    subst (λ (s : FieldType). TellsFirstBad (λ w. is_some (held s w)) image place) (sym (as-field t kind is ∙ ap (λ (m : ℕ). field kind m t.decimals) long))
    (TellsFirstBad-same test (λ w. is_some (held (field kind n t.decimals) w)) image place same h)

pub told-date : (t : FieldType) (image : List ℕ) (place : Option ℕ) → IsFieldType t → t.kind ≡ Date → TellsFirstBad is_date image place → TellsFirstBad (λ w. is_some (held t w)) image place
told-date t image place allowed kind =
    told-moment t Date 10 image place is_date kind (eqb-true t.length 10 (and_parts (t.length == 10) (t.decimals == 0) (moment-length t Date allowed kind)).0) (held-date t.decimals)

pub told-time : (t : FieldType) (image : List ℕ) (place : Option ℕ) → IsFieldType t → t.kind ≡ Time → TellsFirstBad is_time image place → TellsFirstBad (λ w. is_some (held t w)) image place
told-time t image place allowed kind =
    told-moment t Time 8 image place is_time kind (eqb-true t.length 8 (and_parts (t.length == 8) (t.decimals == 0) (moment-length t Time allowed kind)).0) (held-time t.decimals)

pub told-timestamp : (t : FieldType) (image : List ℕ) (place : Option ℕ) → IsFieldType t → t.kind ≡ Stamp → TellsFirstBad is_timestamp image place → TellsFirstBad (λ w. is_some (held t w)) image place
told-timestamp t image place allowed kind =
    told-moment t Stamp 26 image place is_timestamp kind (eqb-true t.length 26 (and_parts (t.length == 26) (t.decimals == 0) (moment-length t Stamp allowed kind)).0) (held-timestamp t.decimals)

-- the number that stands in a field
some-number : {A B : Type 0} (a b : Bool) (f : A → B) (x : A) → is_some (cond a (option_map f (cond b (Some x) None)) None) ≡ true → cond a (option_map f (cond b (Some x) None)) None ≡ Some (f x)
some-number true true f x h = refl
some-number true false f x h = cc
some-number false b f x h = cc

number-zoned : (n d : ℕ) (w : List ℕ) → is_some (held (field Zoned n d) w) ≡ true → held (field Zoned n d) w ≡ Some (decimal d (signed (is_minus (high_half (last_byte w))) (number_in 10 (map low_half w))))
unfolding held
number-zoned n d w = some-number (length w == n) (is_zoned w) (decimal d) (signed (is_minus (high_half (last_byte w))) (number_in 10 (map low_half w)))

number-packed : (n d : ℕ) (w : List ℕ) → is_some (held (field Packed n d) w) ≡ true → held (field Packed n d) w ≡ Some (decimal d (signed (is_minus (low_half (last_byte w))) (number_in 10 (packed_digits w))))
unfolding held
number-packed n d w = some-number (length w == packed_width n) (is_packed w && is_spare_clear n w) (decimal d) (signed (is_minus (low_half (last_byte w))) (number_in 10 (packed_digits w)))

number-binary : (n d : ℕ) (w : List ℕ) → is_some (held (field Binary n d) w) ≡ true → held (field Binary n d) w ≡ Some (decimal d (twos_complement (length w) (number_in 256 w)))
unfolding held
number-binary n d w = some-number (length w == binary_width n) (list_all is_byte w && nat_lt (unsigned_abs (twos_complement (length w) (number_in 256 w))) (10 ^ n)) (decimal d) (twos_complement (length w) (number_in 256 w))

stands-number : (t : FieldType) (kind : Kind) (image : List ℕ) (number : ℤ) → t.kind ≡ kind →
    (is_some (held (field kind t.length t.decimals) image) ≡ true → held (field kind t.length t.decimals) image ≡ Some (decimal t.decimals number)) →
    is_some (held t image) ≡ true → stands t (decimal t.decimals number) image
stands-number t kind image number is value h =
    subst (λ (s : FieldType). held s image ≡ Some (decimal t.decimals number)) (sym (as-field t kind is))
    (value (subst (λ (s : FieldType). is_some (held s image) ≡ true) (as-field t kind is) h))

pub stands-zoned : (t : FieldType) (image : List ℕ) (number : ℤ) → t.kind ≡ Zoned → is_some (held t image) ≡ true → number ≡ signed (is_minus (high_half (last_byte image))) (number_in 10 (map low_half image)) → stands t (decimal t.decimals number) image
stands-zoned t image number is h e = stands-number t Zoned image number is (λ s. number-zoned t.length t.decimals image s ∙ ap (λ (z : ℤ). Some (decimal t.decimals z)) (sym e)) h

pub stands-packed : (t : FieldType) (image : List ℕ) (number : ℤ) → t.kind ≡ Packed → is_some (held t image) ≡ true → number ≡ signed (is_minus (low_half (last_byte image))) (number_in 10 (packed_digits image)) → stands t (decimal t.decimals number) image
stands-packed t image number is h e = stands-number t Packed image number is (λ s. number-packed t.length t.decimals image s ∙ ap (λ (z : ℤ). Some (decimal t.decimals z)) (sym e)) h

pub stands-binary : (t : FieldType) (image : List ℕ) (number : ℤ) → t.kind ≡ Binary → is_some (held t image) ≡ true → number ≡ twos_complement (length image) (number_in 256 image) → stands t (decimal t.decimals number) image
stands-binary t image number is h e = stands-number t Binary image number is (λ s. number-binary t.length t.decimals image s ∙ ap (λ (z : ℤ). Some (decimal t.decimals z)) (sym e)) h

some-text : {A : Type 0} (a : Bool) (x : A) → is_some (cond a (Some x) None) ≡ true → cond a (Some x) None ≡ Some x
some-text true x h = refl
some-text false x h = cc

some-moment : {A : Type 0} (a b : Bool) (x : A) → is_some (cond a (cond b (Some x) None) None) ≡ true → cond a (cond b (Some x) None) None ≡ Some x
some-moment true true x h = refl
some-moment true false x h = cc
some-moment false b x h = cc

-- the text that stands in a field
text-field : (kind : Kind) (n d : ℕ) (w : List ℕ) → is_numeric kind ≡ false → is_some (held (field kind n d) w) ≡ true → held (field kind n d) w ≡ Some (Chars w)
unfolding held
text-field Char n d w e h = some-text (length w == n) (Chars w) h
text-field Zoned n d w e h = cc
text-field Packed n d w e h = cc
text-field Binary n d w e h = cc
text-field Date n d w e h = some-moment (length w == n) (is_date w) (Chars w) h
text-field Time n d w e h = some-moment (length w == n) (is_time w) (Chars w) h
text-field Stamp n d w e h = some-moment (length w == n) (is_timestamp w) (Chars w) h

pub stands-text : (t : FieldType) (image : List ℕ) → is_numeric t.kind ≡ false → is_some (held t image) ≡ true → stands t (Chars image) image
stands-text t image e h = text-field t.kind t.length t.decimals image e h

-- there is one first bad place
before : (test : List ℕ → Bool) (bytes : List ℕ) (at other : ℕ) → IsFirstBad test bytes at → IsFirstBad test bytes other → at < other → ⊥
before test bytes at other one two lt =
    let split : take (at + 1) bytes ++ drop (at + 1) (take other bytes) ≡ take other bytes =
    ap (λ w. w ++ drop (at + 1) (take other bytes)) (sym (take-take (at + 1) other bytes (omega arith))) ∙ take-append-drop (at + 1) (take other bytes) in
    one.bad (drop (at + 1) (take other bytes) ++ two.rest) (rw (← append_assoc (take (at + 1) bytes) (drop (at + 1) (take other bytes)) two.rest, split) two.good)

pub IsFirstBad-one : (test : List ℕ → Bool) (bytes : List ℕ) (at other : ℕ) → IsFirstBad test bytes at → IsFirstBad test bytes other → at ≡ other
IsFirstBad-one test bytes at other one two =
    elim (cases_order at other) [
      | inl same ↦ same
      | inr apart ↦ elim apart [ inl lt ↦ absurd (before test bytes at other one two lt) | inr gt ↦ absurd (before test bytes other at two one gt) ]
    ]

-- the place that a fault names
place_of : Result Value ImageFault → ℕ
place_of (Ok v) = 0
place_of (Err NoMemory) = 0
place_of (Err (BadImage bad)) = bad.at

pub names-bad : (t : FieldType) (image : List ℕ) (at : ℕ) → IsBadAt t image at → (other : ℕ) → (◌≡◌ {A = Result Value ImageFault} (Err (BadImage (record { at = at }))) (Err (BadImage (record { at = other })))) ↔ IsBadAt t image other
unfolding place_of
names-bad t image at h other = (
  (λ e. subst (λ (k : ℕ). IsBadAt t image k) (ap place_of e) h),
  (λ bad. ap (λ (k : ℕ). Err (BadImage (record { at = k }))) (IsFirstBad-one (λ w. is_some (held t w)) image at other h bad)),
)

pub names-none : (t : FieldType) (image : List ℕ) (r : Result Value ImageFault) → is_some (held t image) ≡ true → ((other : ℕ) → r ≡ Err (BadImage (record { at = other })) → ⊥) → (other : ℕ) → (r ≡ Err (BadImage (record { at = other }))) ↔ IsBadAt t image other
names-none t image r there none other = (
  (λ e. absurd (none other e)),
  (λ bad. absurd (let fails : is_some (held t image) ≡ false = IsFirstBad-false (λ w. is_some (held t w)) image other bad in both_ways (is_some (held t image)) fails there)),
)

-- a number that fits its digits fits their bytes
pub binary-fits : (digits : ℕ) (units : ℤ) → digits ≤ 18 → unsigned_abs units < 10 ^ digits → 2 * unsigned_abs units < 256 ^ binary_width digits
binary-fits digits units few small =
    let room : 2 * 10 ^ digits ≤ 256 ^ binary_width digits = binary-room digits few in
    omega arith
