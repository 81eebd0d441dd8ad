-- A record is joined exactly where its fields have the values that are wanted.
use Rattle.std.proofs.Common.{◌≡◌, ℕ, zero, suc, ◌-◌, ◌*◌, ◌/◌, ◌^◌, ◌<◌, ◌≤◌, Bool, true, false, cond, Option, Some, None, ℤ, pos, negsuc, neg_ℤ, ◌*ℤ◌, unsigned_abs, List, [], ◌∷◌, ◌++◌, length, take, drop, replicate, refl, sym, ◌∙◌, ap, arith, inl, inr, append-nil}
use Rattle.std.specs.List.{list_all}
use Rattle.std.specs.declared.cmp.Ordering.{Ordering}
use Rattle.std.specs.declared.cmp.Ordering.TheVariants.{Less, Equal, Greater}
use Rattle.std.specs.Ordering.{nat_cmp, ordering_reverse, is_eq}
use Rattle.std.specs.Cmp.Lexicographic.{slice_cmp}
use Rattle.std.specs.Bool.{Decides}
use Rattle.std.proofs.lemmas.Slice.Eq.{bytes_eq-Decides}
use Rattle.std.proofs.lemmas.Map.Text.{is_eq-slice_cmp}
use Rattle.std.proofs.lemmas.Bool.{and_parts, cases_lt, cond-true, cond-false, eqb-true, lt-leb}
use Rattle.std.proofs.lemmas.Int.{unsigned_abs-mul}
use Rattle.std.proofs.lemmas.List.{take-append-drop, take_all, drop_all, take_at, drop_at, length-append, length-replicate, length-take-le, length-drop}
use Rattle.field_types.specs.declared.kinds.FieldType.{FieldType}
use Rattle.field_types.specs.declared.values.Dec.{Dec}
use Rattle.field_types.specs.declared.values.Value.{Value}
use Rattle.field_types.specs.declared.values.Value.TheVariants.{Chars, Number}
use Rattle.field_types.specs.declared.faults.ValueFault.{ValueFault}
use Rattle.field_types.specs.declared.faults.ValueFault.TheVariants.{WrongKind, TooWide}
use Rattle.field_values.specs.FieldTypes.{width, is_numeric}
use Rattle.field_values.specs.FieldBytes.{held, fault_of, as_held, filled, number_fault, units_at}
use Rattle.std.proofs.Math.IntN.{pos-*ℤ-pos, negsuc-*ℤ-pos}
use Rattle.field_values.specs.Digits.{signed, is_negative}
use Rattle.field_values.proofs.ScaleLemmas.{number_fault-Ok, unsigned_abs-signed}
use Rattle.field_laws.proofs.AcceptedLemmas.{IsKept, held-kept, held-number}
use Rattle.decimal_order.specs.DecimalOrder.{compare_numbers}
use Rattle.decimal_order.proofs.OrderLemmas.{compare_numbers-total, compare_numbers-value}
use Rattle.file_model.specs.KeyOrder.{compare_values}
use Rattle.file_model.specs.Selection.{compare_filled, is_related}
use Rattle.file_model.specs.declared.rules.Relation.TheVariants.{Equals}
use Rattle.access_path.proofs.FitLemmas.{sized-held}
use Rattle.join_rows.proofs.OptionLemmas.{true-false, some-none}
use Rattle.join_rows.specs.Wanted.{is_blank, cut_to, as_sought, unless_fault, held_in, sought_in, is_wanted}

-- ---- answers that are the same

same-answers : (r s : Bool) → (r ≡ true → s ≡ true) → (s ≡ true → r ≡ true) → r ≡ s
same-answers true s to from = sym (to refl)
same-answers false true to from = from refl
same-answers false false to from = refl

never : (r : Bool) → (r ≡ true → ⊥) → r ≡ false
never true h = absurd (h refl)
never false h = refl

list-test : (xs ys : List ℕ) → Decides (is_eq (slice_cmp nat_cmp xs ys)) (xs ≡ ys)
list-test xs ys = (
  (λ h. (bytes_eq-Decides xs ys).0 (sym (is_eq-slice_cmp xs ys) ∙ h)),
  (λ same. is_eq-slice_cmp xs ys ∙ (bytes_eq-Decides xs ys).1 same),
)

-- ---- blanks

all-blank : (k : ℕ) → list_all is_blank (replicate k 0x40) ≡ true
all-blank zero = refl
all-blank (suc k) = all-blank k

blanks-all : (xs : List ℕ) → list_all is_blank xs ≡ true → xs ≡ replicate (length xs) 0x40
blanks-all [] h = refl
blanks-all (x ∷ xs) h =
    let parts : (is_blank x ≡ true) × (list_all is_blank xs ≡ true) = and_parts (is_blank x) (list_all is_blank xs) h in
    ap (λ (k : ℕ). k ∷ xs) (eqb-true x 0x40 parts.0) ∙ ap (λ (ys : List ℕ). 0x40 ∷ ys) (blanks-all xs parts.1)

filled-full : (w : ℕ) (xs : List ℕ) → w ≤ length xs → filled w xs ≡ xs
filled-full w xs le = ap (λ (n : ℕ). xs ++ replicate n 0x40) (let e : w - length xs ≡ 0 = omega arith in e) ∙ append-nil xs

length-filled : (w : ℕ) (xs : List ℕ) → length xs ≤ w → length (filled w xs) ≡ w
length-filled w xs le = length-append xs (replicate (w - length xs) 0x40) ∙ (let k : length {A = ℕ} (replicate (w - length xs) 0x40) ≡ w - length xs = length-replicate (w - length xs) 0x40 in omega arith)

-- ---- texts

cut-short : (w : ℕ) (a : List ℕ) → length a ≤ w → cut_to w a ≡ a
cut-short w a le =
    cond-true (list_all is_blank (drop w a)) (take w a) a (ap (list_all is_blank) (drop_all w a le)) ∙ take_all w a le

module _ (w : ℕ) (a b : List ℕ) (long : length b ≡ w) where
  short-sides : length a ≤ w → (filled (length b) a ≡ filled w a) × (filled (length a) b ≡ b) × (filled w (cut_to w a) ≡ filled w a) × (filled w (filled w (cut_to w a)) ≡ filled w a)
  short-sides le =
      let cut : filled w (cut_to w a) ≡ filled w a = ap (filled w) (cut-short w a le) in (
        ap (λ (n : ℕ). filled n a) long,
        filled-full (length a) b (omega arith),
        cut,
        (ap (filled w) cut ∙ filled-full w (filled w a) (let k : length (filled w a) ≡ w = length-filled w a le in omega arith)),
      )

  wide-sides : w < length a → (filled (length b) a ≡ a) × (filled (length a) b ≡ b ++ replicate (length a - w) 0x40)
  wide-sides lt = (
    filled-full (length b) a (omega arith),
    ap (λ (n : ℕ). b ++ replicate (length a - n) 0x40) long,
  )

  wide-cut : w < length a → list_all is_blank (drop w a) ≡ true → (filled w (cut_to w a) ≡ take w a) × (filled w (filled w (cut_to w a)) ≡ take w a)
  wide-cut lt all =
      let count : length (take w a) ≡ w = length-take-le w a (omega arith) in
      let first : filled w (cut_to w a) ≡ take w a =
      ap (filled w) (cond-true (list_all is_blank (drop w a)) (take w a) a all) ∙ filled-full w (take w a) (omega arith) in
      (first, ap (filled w) first ∙ filled-full w (take w a) (omega arith))

  wide-kept : w < length a → list_all is_blank (drop w a) ≡ false → filled w (filled w (cut_to w a)) ≡ a
  wide-kept lt some =
      let first : filled w (cut_to w a) ≡ a =
      ap (filled w) (cond-false (list_all is_blank (drop w a)) (take w a) a some) ∙ filled-full w a (omega arith) in
      ap (filled w) first ∙ filled-full w a (omega arith)

  tail-blank : filled (length b) a ≡ filled (length a) b → w < length a → drop w a ≡ replicate (length a - w) 0x40
  tail-blank same lt =
      let sides = wide-sides lt in
      ap (drop w) (sym sides.0 ∙ same ∙ sides.1) ∙ drop_at b (replicate (length a - w) 0x40) w long

  -- texts that are equal apart from blanks behind: the one that is looked for is the one that is held
  text-to : filled (length b) a ≡ filled (length a) b → (b ≡ filled w (cut_to w a)) × (b ≡ filled w (filled w (cut_to w a)))
  text-to same = elim (cases_lt w (length a)) [
    | inl lt ↦
        (let sides = wide-sides lt in
        let blank : drop w a ≡ replicate (length a - w) 0x40 = tail-blank same lt in
        let all : list_all is_blank (drop w a) ≡ true = ap (list_all is_blank) blank ∙ all-blank (length a - w) in
        let cut = wide-cut lt all in
        let front : take w a ≡ b = ap (take w) (sym sides.0 ∙ same ∙ sides.1) ∙ take_at b (replicate (length a - w) 0x40) w long in
        (sym (cut.0 ∙ front), sym (cut.1 ∙ front)))
    | inr le ↦
        (let sides = short-sides le in
        let is : b ≡ filled w a = sym sides.1 ∙ sym same ∙ sides.0 in
        (is ∙ sym sides.2, is ∙ sym sides.3))
  ]

  text-from : b ≡ filled w (filled w (cut_to w a)) → filled (length b) a ≡ filled (length a) b
  text-from is = elim (cases_lt w (length a)) [
    | inl lt ↦ by-blank lt (list_all is_blank (drop w a)) refl
    | inr le ↦ (let sides = short-sides le in sides.0 ∙ sym sides.3 ∙ sym is ∙ sym sides.1)
  ]
    where
      by-blank : w < length a → (all : Bool) → list_all is_blank (drop w a) ≡ all → filled (length b) a ≡ filled (length a) b
      by-blank lt true all =
          let sides = wide-sides lt in
          let front : b ≡ take w a = is ∙ (wide-cut lt all).1 in
          let back : drop w a ≡ replicate (length a - w) 0x40 = blanks-all (drop w a) all ∙ ap (λ (n : ℕ). replicate n 0x40) (length-drop w a) in
          sides.0 ∙ sym (take-append-drop w a) ∙ ap (λ (ys : List ℕ). ys ++ drop w a) (sym front) ∙ ap (λ (ys : List ℕ). b ++ ys) back ∙ sym sides.1
      by-blank lt false some =
          let same : length b ≡ length a = ap length (is ∙ wide-kept lt some) in
          absurd (omega arith)

-- ---- numbers

negative-times : (k p : ℕ) → neg_ℤ (pos k) *ℤ pos p ≡ neg_ℤ (pos (k * p))
negative-times zero p = let none : 0 * p ≡ 0 = omega arith in rw none refl
negative-times (suc k) p = negsuc-*ℤ-pos k p

-- a magnitude that is in proportion has the value
in-proportion : (z : ℤ) (k p q : ℕ) → k * p ≡ unsigned_abs z * q → signed (is_negative z) k *ℤ pos p ≡ z *ℤ pos q
in-proportion (pos m) k p q e = pos-*ℤ-pos k p ∙ ap pos e ∙ sym (pos-*ℤ-pos m q)
in-proportion (negsuc m) k p q e = negative-times k p ∙ ap (λ (x : ℕ). neg_ℤ (pos x)) e ∙ sym (negsuc-*ℤ-pos m q)

number-held : (t : FieldType) (n : Dec) → fault_of t (Number n) ≡ None → compare_numbers (record { units = units_at t.decimals n; scale = t.decimals }) n ≡ Equal
number-held t n fits =
    let k : ℕ = unsigned_abs n.units * 10 ^ t.decimals / 10 ^ n.scale in
    let same : k * 10 ^ n.scale ≡ unsigned_abs n.units * 10 ^ t.decimals =
    ap (λ (m : ℕ). m * 10 ^ n.scale) (sym (unsigned_abs-signed (is_negative n.units) k)) ∙ held-number t n fits in
    (compare_numbers-value (record { units = units_at t.decimals n; scale = t.decimals }) n).1 (in-proportion n.units k (10 ^ n.scale) (10 ^ t.decimals) same)

module _ (t : FieldType) (n m : Dec) (scale : m.scale ≡ t.decimals) (small : unsigned_abs m.units < 10 ^ t.length) (numeric : is_numeric t.kind ≡ true) where
  number-fits : compare_numbers n m ≡ Equal → fault_of t (Number n) ≡ None
  unfolding fault_of
  number-fits same =
      let one : n.units *ℤ pos (10 ^ m.scale) ≡ m.units *ℤ pos (10 ^ n.scale) = (compare_numbers-value n m).0 same in
      let apart : unsigned_abs n.units * 10 ^ m.scale ≡ unsigned_abs m.units * 10 ^ n.scale =
      sym (unsigned_abs-mul n.units (pos (10 ^ m.scale))) ∙ ap unsigned_abs one ∙ unsigned_abs-mul m.units (pos (10 ^ n.scale)) in
      let exact : unsigned_abs m.units * 10 ^ n.scale ≡ unsigned_abs n.units * 10 ^ t.decimals = sym apart ∙ ap (λ (k : ℕ). unsigned_abs n.units * 10 ^ k) scale in
      cond-true (is_numeric t.kind) (number_fault t.length t.decimals n) (Some WrongKind) numeric
      ∙ number_fault-Ok t.length t.decimals (unsigned_abs m.units) n exact
      ∙ ap (λ (b : Bool). cond b (Some TooWide) None) (lt-leb (10 ^ t.length) (unsigned_abs m.units) small)

  number-same : fault_of t (Number n) ≡ None → is_eq (compare_numbers n m) ≡ is_eq (compare_numbers m (record { units = units_at t.decimals n; scale = t.decimals }))
  number-same fits =
      let h : Dec = record { units = units_at t.decimals n; scale = t.decimals } in
      ap is_eq (sym (compare_numbers-total.congr h n m (number-held t n fits)))
      ∙ sym (ap is_eq (compare_numbers-total.antisymm m h) ∙ reversed (compare_numbers h m))
    where
      reversed : (o : Ordering) → is_eq (ordering_reverse o) ≡ is_eq o
      reversed Less = refl
      reversed Equal = refl
      reversed Greater = refl

-- ---- values

equal-of : (o : Ordering) → is_eq o ≡ true → o ≡ Equal
equal-of Less e = true-false (sym e)
equal-of Equal e = refl
equal-of Greater e = true-false (sym e)

by-fault : (fault : Option ValueFault) (held : Value) (w : Value) (r : Bool) → (r ≡ true → fault ≡ None) → (fault ≡ None → r ≡ is_eq (compare_values w held)) → r ≡ is_wanted (unless_fault fault held) w
by-fault None held w r fits same = same refl
by-fault (Some cause) held w r fits same = never r (λ h. some-none cause (fits h))

pub value-wanted : (t : FieldType) (v w : Value) (bytes : List ℕ) → held t bytes ≡ Some w → is_eq (compare_filled v w) ≡ is_wanted (held_in t (as_sought t v)) w
unfolding as_held
value-wanted t (Chars a) (Chars b) bytes h =
    let sized = sized-held t (Chars b) bytes h in
    let kept : IsKept t (Chars b) = held-kept t (Chars b) bytes h in
    let x : List ℕ = filled (width t) (cut_to (width t) a) in
    by-fault (fault_of t (Chars x)) (Chars (filled (width t) x)) (Chars b) (is_eq (compare_filled (Chars a) (Chars b)))
    (λ yes. ap (λ (ys : List ℕ). fault_of t (Chars ys)) (sym (text-to (width t) a b sized.1 ((list-test (filled (length b) a) (filled (length a) b)).0 yes)).0) ∙ kept.accepted)
    (λ fits. same-answers (is_eq (compare_filled (Chars a) (Chars b))) (is_eq (slice_cmp nat_cmp b (filled (width t) x)))
    (λ yes. (list-test b (filled (width t) x)).1 (text-to (width t) a b sized.1 ((list-test (filled (length b) a) (filled (length a) b)).0 yes)).1)
    (λ yes. (list-test (filled (length b) a) (filled (length a) b)).1 (text-from (width t) a b sized.1 ((list-test b (filled (width t) x)).0 yes))))
value-wanted t (Number n) (Number m) bytes h =
    let sized = sized-held t (Number m) bytes h in
    by-fault (fault_of t (Number n)) (as_held t (Number n)) (Number m) (is_eq (compare_numbers n m))
    (λ yes. number-fits t n m sized.1 sized.2 sized.0 (equal-of (compare_numbers n m) yes))
    (λ fits. number-same t n m sized.1 sized.2 sized.0 fits)
value-wanted t (Chars a) (Number m) bytes h =
    by-fault (fault_of t (as_sought t (Chars a))) (as_held t (as_sought t (Chars a))) (Number m) false (λ yes. true-false (sym yes)) (λ fits. refl)
value-wanted t (Number n) (Chars b) bytes h =
    by-fault (fault_of t (Number n)) (as_held t (Number n)) (Chars b) false (λ yes. true-false (sym yes)) (λ fits. refl)

pub is_related-wanted : (t : FieldType) (v : Option Value) (w : Value) (bytes : List ℕ) → held t bytes ≡ Some w → is_related Equals v (Some w) ≡ is_wanted (sought_in t v) w
is_related-wanted t None w bytes h = refl
is_related-wanted t (Some v) w bytes h = value-wanted t v w bytes h
