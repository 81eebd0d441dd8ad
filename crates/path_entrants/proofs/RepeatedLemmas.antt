-- The least number whose key another entry has is that of the first record, in arrival order, that has an equal later one.
use Rattle.std.proofs.Common.{◌≡◌, ℕ, ◌+◌, ◌<◌, ◌≤◌, Bool, true, false, not, cond, ◌&&◌, ◌||◌, ◌==◌, Option, Some, None, List, [], ◌∷◌, ◌++◌, length, map, min, refl, sym, ◌∙◌, ap, subst}
use Rattle.std.proofs.Common.{arith, append_assoc}
use Rattle.std.specs.Prelude.{filter, is_some}
use Rattle.std.specs.List.{AllByRecursion, list_any}
use Rattle.std.specs.declared.cmp.Ordering.{Ordering}
use Rattle.std.specs.declared.cmp.Ordering.TheVariants.{Less, Equal, Greater}
use Rattle.std.specs.Ordering.{ordering_reverse, is_eq, is_lt}
use Rattle.std.proofs.lemmas.Bool.{cond-true, cond-false}
use Rattle.std.proofs.lemmas.Bool.Decides.{nat_tests}
use Rattle.std.proofs.lemmas.List.Elements.{recursion_from_All}
use Rattle.key_spec.specs.declared.KeyPart.{KeyPart}
use Rattle.key_spec.specs.declared.Ties.{Ties}
use Rattle.key_pages.specs.declared.entries.Entry.{Entry}
use Rattle.key_pages.specs.Order.{key_cmp}
use Rattle.member_slots.specs.declared.slot.Slot.{Slot}
use Rattle.member_slots.specs.declared.slot.Slot.TheVariants.{Live, Deleted}
use Rattle.member_slots.specs.Member.{records_from}
use Rattle.member_slots.specs.Members.{NumberedMembers, member_of}
use Rattle.view_rules.below.file_model.specs.declared.paths.PathFormat.{PathFormat}
use Rattle.view_rules.below.file_model.specs.declared.paths.PathSpec.{PathSpec}
use Rattle.view_rules.specs.KeyOrder.{compare_keys}
use Rattle.view_rules.specs.Selection.{selects}
use Rattle.view_rules.specs.Sorting.{put_in_order, in_order}
use Rattle.view_rules.specs.Views.{view_of}
use Rattle.view_rules.specs.Paths.{PathEntry, compare_entries, entry_of, entries_of, entries_from, selected_of, path, has_equal_key, first_repeated, repeated_in}
use Rattle.view_rules.proofs.OrderLemmas.{compare_keys-total}
use Rattle.view_rules.proofs.PathLemmas.{weaker, all-map}
use Rattle.access_path.specs.KeyFields.{AreBytes}
use Rattle.access_path.proofs.KeyLemmas.{AreFit, keys-cmp, image-fits, Matches-itself}
use Rattle.access_path.specs.Clash.{lesser, other_number, least_other}
use Rattle.access_path.specs.PathBytes.{in_bytes, parts_of, ShowsBytes}
use Rattle.access_path.proofs.OrderedLemmas.{all-in_order}
use Rattle.path_entrants.specs.Repeated.{least_repeated, TellsRepeated}

-- ---- the lesser of two numbers

some-lesser : (a b : Option ℕ) → is_some (lesser a b) ≡ is_some a || is_some b
some-lesser None b = refl
some-lesser (Some n) None = refl
some-lesser (Some n) (Some m) = refl

pub lesser-swap : (a b c : Option ℕ) → lesser a (lesser b c) ≡ lesser b (lesser a c)
lesser-swap None b c = refl
lesser-swap (Some n) None c = refl
lesser-swap (Some n) (Some m) None = ap (λ (i : ℕ). Some i) (let e : min n m ≡ min m n = omega arith in e)
lesser-swap (Some n) (Some m) (Some k) = ap (λ (i : ℕ). Some i) (let e : min n (min m k) ≡ min m (min n k) = omega arith in e)

or-swap : (a b c : Bool) → a || (b || c) ≡ b || (a || c)
or-swap true true c = refl
or-swap true false c = refl
or-swap false b c = refl

-- ---- entries with values for keys

-- another record of these entries has the key
abbrev is_other : PathEntry → PathEntry → Bool
is_other x e = has_equal_key x.key e && not (e.rrn == x.rrn)

abbrev has_other : List PathEntry → PathEntry → Bool
has_other all x = list_any (is_other x) all

abbrev least_of : List PathEntry → List PathEntry → Option ℕ
least_of all [] = None
least_of all (x ∷ xs) = lesser (cond (has_other all x) (Some x.rrn) None) (least_of all xs)

-- ---- bytes tell the same

module _ (formats : List PathFormat) (parts : List KeyPart) (own : parts_of formats 0 ≡ parts) where
  -- an entry of the first format, whose key is one of its
  abbrev pub IsGood : PathEntry → Type 0
  IsGood e = (e.format ≡ 0) × AreFit parts e.key

  same-bytes : (x e : PathEntry) → IsGood x → IsGood e → key_cmp (in_bytes formats e).key (in_bytes formats x).key ≡ compare_keys e.key x.key
  same-bytes x e good also =
      let here : parts_of formats x.format ≡ parts = ap (parts_of formats) good.0 ∙ own in
      let there : parts_of formats e.format ≡ parts = ap (parts_of formats) also.0 ∙ own in
      rw (here, there) (keys-cmp parts parts e.key x.key (Matches-itself parts) also.1 good.1)

  some-other : (x : PathEntry) (es : List PathEntry) → IsGood x → AllByRecursion IsGood es
      → is_some (least_other (in_bytes formats x).key x.rrn (map (in_bytes formats) es)) ≡ has_other es x
  some-other x [] good all = refl
  some-other x (e ∷ es) good all =
      some-lesser (other_number (in_bytes formats x).key x.rrn (in_bytes formats e)) (least_other (in_bytes formats x).key x.rrn (map (in_bytes formats) es))
      ∙ ap (λ (o : Ordering). is_some (cond (is_eq o && not (e.rrn == x.rrn)) (Some e.rrn) None) || is_some (least_other (in_bytes formats x).key x.rrn (map (in_bytes formats) es)))
      (same-bytes x e good all.0)
      ∙ ap (λ (b : Bool). b || is_some (least_other (in_bytes formats x).key x.rrn (map (in_bytes formats) es))) (some-cond (is_other x e) e.rrn)
      ∙ ap (λ (b : Bool). is_other x e || b) (some-other x es good all.1)
    where
      some-cond : (b : Bool) (n : ℕ) → is_some (cond b (Some n) None) ≡ b
      some-cond true n = refl
      some-cond false n = refl

  least-bytes : (all xs : List PathEntry) → AllByRecursion IsGood all → AllByRecursion IsGood xs → least_repeated (map (in_bytes formats) all) (map (in_bytes formats) xs) ≡ least_of all xs
  least-bytes all [] good some = refl
  least-bytes all (x ∷ xs) good some =
      ap (λ (b : Bool). lesser (cond b (Some x.rrn) None) (least_repeated (map (in_bytes formats) all) (map (in_bytes formats) xs))) (some-other x all some.0 good)
      ∙ ap (lesser (cond (has_other all x) (Some x.rrn) None)) (least-bytes all xs good some.1)

-- ---- the order doesn't matter

module _ (compare : PathEntry → PathEntry → Ordering) where
  any-put : (test : PathEntry → Bool) (x : PathEntry) (xs : List PathEntry) → list_any test (put_in_order compare x xs) ≡ test x || list_any test xs
  any-put test x [] = refl
  any-put test x (y ∷ xs) = by (is_lt (compare x y)) (any-put test x xs)
    where
      by : (b : Bool) → list_any test (put_in_order compare x xs) ≡ test x || list_any test xs
          → list_any test (cond b (x ∷ y ∷ xs) (y ∷ put_in_order compare x xs)) ≡ test x || (test y || list_any test xs)
      by true rest = refl
      by false rest = ap (λ (b : Bool). test y || b) rest ∙ or-swap (test y) (test x) (list_any test xs)

  any-order : (test : PathEntry → Bool) (xs : List PathEntry) → list_any test (in_order compare xs) ≡ list_any test xs
  any-order test [] = refl
  any-order test (x ∷ xs) = any-put test x (in_order compare xs) ∙ ap (λ (b : Bool). test x || b) (any-order test xs)

  least-put : (all : List PathEntry) (x : PathEntry) (xs : List PathEntry) → least_of all (put_in_order compare x xs) ≡ lesser (cond (has_other all x) (Some x.rrn) None) (least_of all xs)
  least-put all x [] = refl
  least-put all x (y ∷ xs) = by (is_lt (compare x y)) (least-put all x xs)
    where
      by : (b : Bool) → least_of all (put_in_order compare x xs) ≡ lesser (cond (has_other all x) (Some x.rrn) None) (least_of all xs)
          → least_of all (cond b (x ∷ y ∷ xs) (y ∷ put_in_order compare x xs)) ≡ lesser (cond (has_other all x) (Some x.rrn) None) (lesser (cond (has_other all y) (Some y.rrn) None) (least_of all xs))
      by true rest = refl
      by false rest =
          ap (lesser (cond (has_other all y) (Some y.rrn) None)) rest
          ∙ lesser-swap (cond (has_other all y) (Some y.rrn) None) (cond (has_other all x) (Some x.rrn) None) (least_of all xs)

  least-order : (all xs : List PathEntry) → least_of all (in_order compare xs) ≡ least_of all xs
  least-order all [] = refl
  least-order all (x ∷ xs) = least-put all x (in_order compare xs) ∙ ap (lesser (cond (has_other all x) (Some x.rrn) None)) (least-order all xs)

  least-among : (all xs : List PathEntry) → least_of (in_order compare all) xs ≡ least_of all xs
  least-among all [] = refl
  least-among all (x ∷ xs) =
      ap (λ (b : Bool). lesser (cond b (Some x.rrn) None) (least_of (in_order compare all) xs)) (any-order (is_other x) all)
      ∙ ap (lesser (cond (list_any (is_other x) all) (Some x.rrn) None)) (least-among all xs)

-- ---- arrival order

abbrev pub Rises : List PathEntry → Type 0
Rises [] = Unit {0}
Rises (x ∷ xs) = AllByRecursion (λ y. x.rrn < y.rrn) xs × Rises xs

any-append : (test : PathEntry → Bool) (xs ys : List PathEntry) → list_any test (xs ++ ys) ≡ list_any test xs || list_any test ys
any-append test [] ys = refl
any-append test (x ∷ xs) ys = ap (λ (b : Bool). test x || b) (any-append test xs ys) ∙ or-assoc (test x) (list_any test xs) (list_any test ys)
  where
    or-assoc : (a b c : Bool) → a || (b || c) ≡ (a || b) || c
    or-assoc true b c = refl
    or-assoc false b c = refl

and-false : (b : Bool) → b && false ≡ false
and-false true = refl
and-false false = refl

and-true : (b : Bool) → b && true ≡ b
and-true true = refl
and-true false = refl

eq-itself : (n : ℕ) → (n == n) ≡ true
eq-itself n = grind (arith, nat_tests)

eq-above : (n m : ℕ) → n < m → (m == n) ≡ false
eq-above n m lt = grind (arith, nat_tests)

-- no entry has an equal key where none has
none-other : (x : PathEntry) (es : List PathEntry) → list_any (has_equal_key x.key) es ≡ false → list_any (is_other x) es ≡ false
none-other x [] none = refl
none-other x (e ∷ es) none = by (has_equal_key x.key e) none (none-other x es)
  where
    by : (b : Bool) → b || list_any (has_equal_key x.key) es ≡ false → (list_any (has_equal_key x.key) es ≡ false → list_any (is_other x) es ≡ false)
        → (b && not (e.rrn == x.rrn)) || list_any (is_other x) es ≡ false
    by true h rest = absurd (let e : true ≡ false = h in cc)
    by false h rest = rest h

-- later entries are other records
later-other : (x : PathEntry) (es : List PathEntry) → AllByRecursion (λ y. x.rrn < y.rrn) es → list_any (is_other x) es ≡ list_any (has_equal_key x.key) es
later-other x [] later = refl
later-other x (e ∷ es) later =
    ap (λ (b : Bool). (has_equal_key x.key e && not b) || list_any (is_other x) es) (eq-above x.rrn e.rrn later.0)
    ∙ ap (λ (b : Bool). b || list_any (is_other x) es) (and-true (has_equal_key x.key e))
    ∙ ap (λ (b : Bool). has_equal_key x.key e || b) (later-other x es later.1)

-- the number of an entry is less than those of later ones
first-least : (n : ℕ) (all xs : List PathEntry) → AllByRecursion (λ y. n < y.rrn) xs → lesser (Some n) (least_of all xs) ≡ Some n
first-least n all [] later = refl
first-least n all (x ∷ xs) later = by (has_other all x) (least_of all xs) (first-least n all xs later.1)
  where
    by : (b : Bool) (rest : Option ℕ) → lesser (Some n) rest ≡ Some n → lesser (Some n) (lesser (cond b (Some x.rrn) None) rest) ≡ Some n
    by false rest h = h
    by true None h = ap (λ (i : ℕ). Some i) (let lt = later.0 in let e : min n x.rrn ≡ n = omega arith in e)
    by true (Some m) h =
        ap (λ (i : ℕ). Some i) (let lt = later.0 in let k : min n m ≡ n = (let s : ◌≡◌ {A = Option ℕ} (Some (min n m)) (Some n) = h in cc) in let e : min n (min x.rrn m) ≡ n = omega arith in e)

reverse-eq : (o : Ordering) → is_eq (ordering_reverse o) ≡ is_eq o
reverse-eq Less = refl
reverse-eq Equal = refl
reverse-eq Greater = refl

equal-back : (x y : PathEntry) → has_equal_key x.key y ≡ has_equal_key y.key x
equal-back x y = ap is_eq (compare_keys-total.antisymm y.key x.key) ∙ reverse-eq (compare_keys x.key y.key)

-- none of the entries has an equal key before it
abbrev AreNew : List PathEntry → List PathEntry → Type 0
AreNew front xs = AllByRecursion (λ y. list_any (has_equal_key y.key) front ≡ false) xs

new-more : (front : List PathEntry) (x : PathEntry) (xs : List PathEntry) → AreNew front xs → list_any (has_equal_key x.key) xs ≡ false → AreNew (front ++ x ∷ []) xs
new-more front x [] new none = tt
new-more front x (y ∷ xs) new none = by (has_equal_key x.key y) refl none (λ h. new-more front x xs new.1 h)
  where
    by : (b : Bool) → has_equal_key x.key y ≡ b → b || list_any (has_equal_key x.key) xs ≡ false → (list_any (has_equal_key x.key) xs ≡ false → AreNew (front ++ x ∷ []) xs)
        → AreNew (front ++ x ∷ []) (y ∷ xs)
    by true is h more = absurd (let e : true ≡ false = h in cc)
    by false is h more = (
      any-append (has_equal_key y.key) front (x ∷ [])
          ∙ ap (λ (b : Bool). b || (has_equal_key y.key x || false)) new.0
          ∙ ap (λ (b : Bool). b || false) (equal-back y x ∙ is),
      more h,
    )

first-told : (front xs : List PathEntry) → AreNew front xs → Rises xs → least_of (front ++ xs) xs ≡ first_repeated xs
first-told front [] new rises = refl
first-told front (x ∷ xs) new rises =
    by (list_any (has_equal_key x.key) xs) refl
    (λ none. ap (λ (w : List PathEntry). least_of w xs) (sym (append_assoc front (x ∷ []) xs)) ∙ first-told (front ++ x ∷ []) xs (new-more front x xs new.1 none) rises.1)
  where
    other : has_other (front ++ x ∷ xs) x ≡ list_any (has_equal_key x.key) xs
    other =
        any-append (is_other x) front (x ∷ xs)
        ∙ ap (λ (b : Bool). b || (is_other x x || list_any (is_other x) xs)) (none-other x front new.0)
        ∙ ap (λ (b : Bool). (has_equal_key x.key x && not b) || list_any (is_other x) xs) (eq-itself x.rrn)
        ∙ ap (λ (b : Bool). b || list_any (is_other x) xs) (and-false (has_equal_key x.key x))
        ∙ later-other x xs rises.0

    by : (b : Bool) → list_any (has_equal_key x.key) xs ≡ b → (list_any (has_equal_key x.key) xs ≡ false → least_of (front ++ x ∷ xs) xs ≡ first_repeated xs)
        → least_of (front ++ x ∷ xs) (x ∷ xs) ≡ first_repeated (x ∷ xs)
    by true is rest =
        ap (λ (b : Bool). lesser (cond b (Some x.rrn) None) (least_of (front ++ x ∷ xs) xs)) (other ∙ is)
        ∙ first-least x.rrn (front ++ x ∷ xs) xs rises.0
        ∙ sym (cond-true (list_any (has_equal_key x.key) xs) (Some x.rrn) (first_repeated xs) is)
    by false is rest =
        ap (λ (b : Bool). lesser (cond b (Some x.rrn) None) (least_of (front ++ x ∷ xs) xs)) (other ∙ is)
        ∙ rest is
        ∙ sym (cond-false (list_any (has_equal_key x.key) xs) (Some x.rrn) (first_repeated xs) is)

-- ---- the entries of a format

low-from : (number : ℕ) (format : PathFormat) (n m : ℕ) (slots : List Slot) → n ≤ m
    → AllByRecursion (λ y. n ≤ y.rrn) (map (entry_of number format) (filter (λ pair. selects format.rules pair.1) (records_from m slots)))
low-from number format n m [] le = tt
low-from number format n m (Deleted ∷ slots) le = low-from number format n (m + 1) slots (omega arith)
low-from number format n m (Live image ∷ slots) le = by (selects format.rules image) (low-from number format n (m + 1) slots (omega arith))
  where
    tail : List (ℕ × List ℕ)
    tail = filter (λ pair. selects format.rules pair.1) (records_from (m + 1) slots)

    by : (b : Bool) → AllByRecursion (λ y. n ≤ y.rrn) (map (entry_of number format) tail) → AllByRecursion (λ y. n ≤ y.rrn) (map (entry_of number format) (cond b ((m, image) ∷ tail) tail))
    by true rest = (le, rest)
    by false rest = rest

pub rises-from : (number : ℕ) (format : PathFormat) (m : ℕ) (slots : List Slot) → Rises (map (entry_of number format) (filter (λ pair. selects format.rules pair.1) (records_from m slots)))
rises-from number format m [] = tt
rises-from number format m (Deleted ∷ slots) = rises-from number format (m + 1) slots
rises-from number format m (Live image ∷ slots) =
    by (selects format.rules image)
    (weaker (λ (y : PathEntry). m + 1 ≤ y.rrn) (λ y. m < y.rrn) (λ y low. omega arith) (map (entry_of number format) tail) (low-from number format (m + 1) (m + 1) slots (omega arith)))
    (rises-from number format (m + 1) slots)
  where
    tail : List (ℕ × List ℕ)
    tail = filter (λ pair. selects format.rules pair.1) (records_from (m + 1) slots)

    by : (b : Bool) → AllByRecursion (λ y. m < y.rrn) (map (entry_of number format) tail) → Rises (map (entry_of number format) tail)
        → Rises (map (entry_of number format) (cond b ((m, image) ∷ tail) tail))
    by true low rest = (low, rest)
    by false low rest = rest

pub good-from : (formats : List PathFormat) (format : PathFormat) (own : parts_of formats 0 ≡ format.key) (members : NumberedMembers) → ShowsBytes members format
    → AllByRecursion (IsGood formats format.key own) (entries_of 0 format members)
good-from formats format own members shown =
    all-map (IsGood formats format.key own) (entry_of 0 format) (selected_of format (member_of format.member members).slots)
    (weaker (λ pair. AreBytes (view_of format.fields pair.1)) (λ pair. IsGood formats format.key own (entry_of 0 format pair))
    (λ pair bytes. (refl, image-fits format.key (view_of format.fields pair.1) (recursion_from_All (λ b. b < 256) (view_of format.fields pair.1) bytes)))
    (selected_of format (member_of format.member members).slots)
    (recursion_from_All (λ pair. AreBytes (view_of format.fields pair.1)) (selected_of format (member_of format.member members).slots) shown))

-- ---- the law

told-one : (format : PathFormat) (ties : Ties) (members : NumberedMembers) → ShowsBytes members format
    → (let entries = map (in_bytes (format ∷ [])) (in_order (compare_entries ties) (entries_of 0 format members)) in least_repeated entries entries) ≡ first_repeated (entries_of 0 format members)
told-one format ties members shown =
    let arrived = entries_of 0 format members in
    let sorted = in_order (compare_entries ties) arrived in
    let good : AllByRecursion (IsGood (format ∷ []) format.key refl) arrived = good-from (format ∷ []) format refl members shown in
    let also : AllByRecursion (IsGood (format ∷ []) format.key refl) sorted = all-in_order (compare_entries ties) (IsGood (format ∷ []) format.key refl) arrived good in
    least-bytes (format ∷ []) format.key refl sorted sorted also also
    ∙ least-among (compare_entries ties) arrived sorted
    ∙ least-order (compare_entries ties) arrived arrived
    ∙ first-told [] arrived (nothing-before arrived) (rises-from 0 format 1 (member_of format.member members).slots)
  where
    nothing-before : (xs : List PathEntry) → AreNew [] xs
    nothing-before [] = tt
    nothing-before (x ∷ xs) = (refl, nothing-before xs)

told-few : (formats : List PathFormat) (ties : Ties) (members : NumberedMembers) → AllByRecursion (ShowsBytes members) formats → length formats ≤ 1
    → (let entries = map (in_bytes formats) (in_order (compare_entries ties) (entries_from 0 formats members)) in least_repeated entries entries) ≡ first_repeated (entries_from 0 formats members)
told-few [] ties members shown few = refl
told-few (format ∷ []) ties members shown few =
    subst (λ (w : List PathEntry). (let entries = map (in_bytes (format ∷ [])) (in_order (compare_entries ties) w) in least_repeated entries entries) ≡ first_repeated w)
    (sym (append-none (entries_of 0 format members))) (told-one format ties members shown.0)
  where
    append-none : (xs : List PathEntry) → xs ++ [] ≡ xs
    append-none [] = refl
    append-none (x ∷ xs) = ap (λ (w : List PathEntry). x ∷ w) (append-none xs)
told-few (format ∷ other ∷ formats) ties members shown few = absurd (omega arith)

pub told : (spec : PathSpec) (members : NumberedMembers) → TellsRepeated spec members
    → (let entries = map (in_bytes spec.formats) (path spec members) in cond spec.unique (least_repeated entries entries) None) ≡ repeated_in spec members
told spec members tells = by spec.unique refl
  where
    entries : List Entry
    entries = map (in_bytes spec.formats) (path spec members)

    by : (b : Bool) → spec.unique ≡ b → cond b (least_repeated entries entries) None ≡ cond b (first_repeated (entries_from 0 spec.formats members)) None
    by true is = told-few spec.formats spec.ties members (recursion_from_All (ShowsBytes members) spec.formats tells.bytes.shown) (tells.one is)
    by false is = refl
