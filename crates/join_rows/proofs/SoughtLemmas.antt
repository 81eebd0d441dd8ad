-- The records of a member, and the bytes of the values that are looked for.
use Rattle.std.proofs.Common.{◌≡◌, ℕ, zero, suc, ◌+◌, ◌-◌, ◌≤◌, Bool, true, false, ◌==◌, Option, Some, None, List, [], ◌∷◌, ◌++◌, length, take, drop, refl, sym, ◌∙◌, ap, subst, arith, append_assoc}
use Rattle.std.specs.Prelude.{replicate}
use Rattle.std.specs.Option.{option_map}
use Rattle.std.specs.List.{list_all, slice_get, AllByRecursion}
use Rattle.std.proofs.lemmas.Bool.{cond-true, cond-false, ne_eqb}
use Rattle.field_types.specs.declared.kinds.FieldType.{FieldType}
use Rattle.field_types.specs.declared.values.Value.{Value}
use Rattle.field_types.specs.declared.values.Value.TheVariants.{Chars, Number}
use Rattle.field_types.specs.declared.faults.ValueFault.{ValueFault}
use Rattle.field_values.specs.FieldTypes.{width}
use Rattle.field_values.specs.FieldBytes.{fault_of, as_held}
use Rattle.key_spec.specs.declared.KeyPart.{KeyPart}
use Rattle.key_spec.specs.declared.KeyPart.TheVariants.{Field}
use Rattle.member_slots.specs.declared.slot.Slot.{Slot}
use Rattle.member_slots.specs.declared.slot.Slot.TheVariants.{Live, Deleted}
use Rattle.member_slots.specs.Member.{MemberState, records, records_from, slot_at}
use Rattle.file_model.specs.declared.joins.JoinPair.{JoinPair}
use Rattle.file_model.specs.declared.views.ViewField.{ViewField}
use Rattle.file_model.specs.KeyOrder.{KeyValue, Ascending}
use Rattle.file_model.specs.Views.{field_value, field_image}
use Rattle.access_path.specs.KeyBytes.{key_bytes, position_bytes, digits_of}
use Rattle.access_path.proofs.FitLemmas.{Bytes, OfBytes, Bytes-append, Bytes-replicate, bytes-held, fits-as_held}
use Rattle.access_path.proofs.KeyLemmas.{FitsAt, AreFit}
use Rattle.access_path.proofs.ViewLemmas.{view-bytes}
use Rattle.join_rows.specs.Wanted.{is_blank, cut_to, as_sought, unless_fault, sought_in, with_value, wanted, as_key}
use Rattle.join_rows.specs.WantedBytes.{sought_bytes, both_bytes, wanted_bytes, joined_parts, values_bytes}
use Rattle.join_rows.proofs.OptionLemmas.{none-some, some-same}

-- ---- the records of a member

records-at : (n : ℕ) (member : MemberState) (slots : List Slot) → ((i : ℕ) → slice_get slots i ≡ slice_get member.slots (n + i))
    → AllByRecursion (λ p. (1 ≤ p.0) × (slot_at member p.0 ≡ Some (Live p.1))) (records_from (n + 1) slots)
records-at n member [] given = tt
records-at n member (Deleted ∷ slots) given =
    records-at (n + 1) member slots (λ i. given (suc i) ∙ ap (slice_get member.slots) (let e : n + suc i ≡ n + 1 + i = omega arith in e))
records-at n member (Live image ∷ slots) given = (
  (omega arith, here),
  records-at (n + 1) member slots (λ i. given (suc i) ∙ ap (slice_get member.slots) (let e : n + suc i ≡ n + 1 + i = omega arith in e)),
)
  where
    here : slot_at member (n + 1) ≡ Some (Live image)
    here =
        cond-false (n + 1 == 0) None (slice_get member.slots (n + 1 - 1)) (ne_eqb (n + 1) 0 (λ e. absurd (omega arith)))
        ∙ ap (slice_get member.slots) (let e : n + 1 - 1 ≡ n + 0 = omega arith in e)
        ∙ sym (given 0)

pub all-records : (member : MemberState) → AllByRecursion (λ p. (1 ≤ p.0) × (slot_at member p.0 ≡ Some (Live p.1))) (records member)
all-records member = records-at 0 member member.slots (λ i. ap (slice_get member.slots) (let e : i ≡ 0 + i = omega arith in e))

-- ---- the bytes that are looked for

pub fit-append : (parts more : List KeyPart) (a b : List KeyValue) → length a ≡ length parts → AreFit parts a → AreFit more b → AreFit (parts ++ more) (a ++ b)
fit-append [] more [] b same fits also = also
fit-append [] more (v ∷ a) b same fits also = absurd fits
fit-append (p ∷ parts) more [] b same fits also = absurd (omega arith)
fit-append (p ∷ parts) more (v ∷ a) b same fits also = (fits.0, fit-append parts more a b (let e : length a ≡ length parts = omega arith in e) fits.1 also)

pub key_bytes-append : (parts more : List KeyPart) (a b : List KeyValue) → length a ≡ length parts → key_bytes (parts ++ more) (a ++ b) ≡ key_bytes parts a ++ key_bytes more b
key_bytes-append [] more [] b same = refl
key_bytes-append [] more (v ∷ a) b same = absurd (omega arith)
key_bytes-append (p ∷ parts) more [] b same = absurd (omega arith)
key_bytes-append (p ∷ parts) more (v ∷ a) b same =
    ap (λ w. position_bytes (digits_of p) v ++ w) (key_bytes-append parts more a b (let e : length a ≡ length parts = omega arith in e))
    ∙ sym (append_assoc (position_bytes (digits_of p) v) (key_bytes parts a) (key_bytes more b))

-- the values that are looked for, position by position
pub record AreSought (pairs : List JoinPair) (values : List Value) : Type 0 where
  pub count : length (as_key values) ≡ length (joined_parts pairs)
  pub fit : AreFit (joined_parts pairs) (as_key values)

cut-bytes : (w : ℕ) (text : List ℕ) → Bytes text → Bytes (cut_to w text)
cut-bytes w text bytes = by (list_all is_blank (drop w text)) refl
  where
    front : (n : ℕ) (a : List ℕ) → Bytes a → Bytes (take n a)
    front zero a h = tt
    front (suc n) [] h = tt
    front (suc n) (x ∷ a) h = (h.0, front n a h.1)

    by : (b : Bool) → list_all is_blank (drop w text) ≡ b → Bytes (cut_to w text)
    by true is = subst Bytes (sym (cond-true (list_all is_blank (drop w text)) (take w text) text is)) (front w text bytes)
    by false is = subst Bytes (sym (cond-false (list_all is_blank (drop w text)) (take w text) text is)) bytes

sought-of-bytes : (t : FieldType) (v : Value) → OfBytes v → OfBytes (as_sought t v)
sought-of-bytes t (Number n) bytes = tt
sought-of-bytes t (Chars text) bytes =
    Bytes-append (cut_to (width t) text) (replicate (width t - length (cut_to (width t) text)) 0x40) (cut-bytes (width t) text bytes) (Bytes-replicate (width t - length (cut_to (width t) text)))

bytes-front : (a b : List ℕ) → Bytes (a ++ b) → Bytes a
bytes-front [] b h = tt
bytes-front (x ∷ a) b h = (h.0, bytes-front a b h.1)

value-of-bytes : (f : ViewField) (image : List ℕ) (v : Value) → Bytes image → field_value image f ≡ Some v → OfBytes v
value-of-bytes f image v bytes is = bytes-held f.ty v (field_image image f) (bytes-front (field_image image f) [] (view-bytes (f ∷ []) image bytes)) is

sought-fits : (pair : JoinPair) (image : List ℕ) (x : Value) → Bytes image → sought_in pair.to.ty (field_value image pair.from) ≡ Some x → FitsAt (Field pair.to.ty 0 false false) (Ascending x)
sought-fits pair image x bytes is = by (field_value image pair.from) refl is
  where
    held-fits : (v : Value) → OfBytes v → (fault : Option ValueFault) → fault_of pair.to.ty v ≡ fault → unless_fault fault (as_held pair.to.ty v) ≡ Some x → FitsAt (Field pair.to.ty 0 false false) (Ascending x)
    held-fits v good None fits h =
        let same : as_held pair.to.ty v ≡ x = some-same (as_held pair.to.ty v) x h in
        subst (λ y. FitsAt (Field pair.to.ty 0 false false) (Ascending y)) same (refl, fits-as_held pair.to.ty v fits good)
    held-fits v good (Some cause) fits h = none-some x h

    by : (o : Option Value) → field_value image pair.from ≡ o → sought_in pair.to.ty o ≡ Some x → FitsAt (Field pair.to.ty 0 false false) (Ascending x)
    by None there h = none-some x h
    by (Some v) there h = held-fits (as_sought pair.to.ty v) (sought-of-bytes pair.to.ty v (value-of-bytes pair.from image v bytes there)) (fault_of pair.to.ty (as_sought pair.to.ty v)) refl h

-- the bytes are those of the values that are wanted
pub wanted-values : (pairs : List JoinPair) (image : List ℕ) → wanted_bytes pairs image ≡ option_map (values_bytes pairs) (wanted pairs image)
wanted-values [] image = refl
wanted-values (pair ∷ pairs) image =
    ap (both_bytes (sought_bytes pair image)) (wanted-values pairs image)
    ∙ by (sought_in pair.to.ty (field_value image pair.from)) (wanted pairs image)
  where
    by : (s : Option Value) (rest : Option (List Value))
        → both_bytes (option_map (λ v. position_bytes pair.to.ty.length (Ascending v)) s) (option_map (values_bytes pairs) rest) ≡ option_map (values_bytes (pair ∷ pairs)) (with_value s rest)
    by None rest = refl
    by (Some v) None = refl
    by (Some v) (Some values) = refl

pub wanted-sought : (pairs : List JoinPair) (image : List ℕ) (values : List Value) → Bytes image → wanted pairs image ≡ Some values → AreSought pairs values
wanted-sought [] image values bytes is =
    let same : [] ≡ values = some-same [] values is in
    subst (AreSought []) same (record { count = refl; fit = tt })
wanted-sought (pair ∷ pairs) image values bytes is =
    by (sought_in pair.to.ty (field_value image pair.from)) refl (wanted pairs image) refl is (λ vs same. wanted-sought pairs image vs bytes same)
  where
    by : (s : Option Value) → sought_in pair.to.ty (field_value image pair.from) ≡ s → (rest : Option (List Value)) → wanted pairs image ≡ rest → with_value s rest ≡ Some values
        → ((vs : List Value) → wanted pairs image ≡ Some vs → AreSought pairs vs) → AreSought (pair ∷ pairs) values
    by None one rest two h shorter = none-some values h
    by (Some v) one None two h shorter = none-some values h
    by (Some v) one (Some vs) two h shorter =
        let same : v ∷ vs ≡ values = some-same (v ∷ vs) values h in
        let rest : AreSought pairs vs = shorter vs two in
        subst (AreSought (pair ∷ pairs)) same (record { count = ap suc rest.count; fit = (sought-fits pair image v bytes one, rest.fit) })
