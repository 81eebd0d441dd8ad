-- Keys that are equal in their order, and what is known of the slots of a member where its entries have no equal keys.
use Rattle.std.proofs.Common.{◌≡◌, ◌⊎◌, inl, inr, ◌∙◌, ℕ, zero, suc, ◌+◌, ◌==◌, ◌&&◌, cond, not, Bool, true, false, List, [], ◌∷◌, filter, find, map, Option, Some, None, subst, refl, sym, ap, arith}
use Rattle.std.specs.List.{list_any}
use Rattle.std.specs.declared.cmp.Ordering.{Ordering}
use Rattle.std.specs.declared.cmp.Ordering.TheVariants.{Less, Equal, Greater}
use Rattle.std.specs.Ordering.{is_eq, ordering_reverse}
use Rattle.std.proofs.lemmas.Bool.{true≢false, and_cases, eqb-true}
use Rattle.member_slots.specs.declared.slot.Slot.{Slot}
use Rattle.member_slots.specs.declared.slot.Slot.TheVariants.{Live, Deleted}
use Rattle.member_slots.specs.Member.{is_live, records_from}
use Rattle.file_model.specs.declared.paths.PathFormat.{PathFormat}
use Rattle.file_model.specs.KeyOrder.{KeyValue, compare_keys}
use Rattle.file_model.specs.Paths.{PathEntry, entry_of, first_repeated, has_equal_key, other_with_key, path_key}
use Rattle.file_model.specs.Selection.{selects}
use Rattle.file_model.proofs.OrderLemmas.{compare_keys-total}
use Rattle.journal_model.specs.Places.{slot_of}
use Rattle.library_steps.specs.UniqueKeys.{has_key}
use Rattle.key_state.proofs.ListLemmas.{IsIn, any-in, find-none, map-none}
use Rattle.key_state.proofs.UniqueLemmas.{Shows, IsUnique}

-- ---- equal keys

equal-is : (o : Ordering) → is_eq o ≡ true → o ≡ Equal
equal-is Less is = absurd (true≢false (sym is))
equal-is Equal is = refl
equal-is Greater is = absurd (true≢false (sym is))

equal-back : (a k : List KeyValue) → is_eq (compare_keys a k) ≡ true → is_eq (compare_keys k a) ≡ true
equal-back a k same = ap is_eq (compare_keys-total.antisymm k a ∙ ap ordering_reverse (equal-is (compare_keys a k) same))

equal-through : (x a k : List KeyValue) → is_eq (compare_keys x a) ≡ true → is_eq (compare_keys a k) ≡ true → is_eq (compare_keys x k) ≡ true
equal-through x a k first second = ap is_eq (compare_keys-total.congr x a k (equal-is (compare_keys x a) first)) ∙ second

-- what has a key has each one that is equal to it
pub has-equal : (o : Option (List KeyValue)) (a k : List KeyValue) → is_eq (compare_keys a k) ≡ true → has_key o a ≡ true → has_key o k ≡ true
has-equal None a k same has = has
has-equal (Some x) a k same has = equal-through x a k has same

pub has-back : (o : Option (List KeyValue)) (a k : List KeyValue) → is_eq (compare_keys a k) ≡ true → has_key o k ≡ true → has_key o a ≡ true
has-back o a k same has = has-equal o k a (equal-back a k same) has

-- ---- the entries of a format over slots

-- the records among the slots from this number on that the format selects, and their entries
abbrev pub selected : PathFormat → (first : ℕ) → List Slot → List (ℕ × List ℕ)
selected format first slots = filter (λ pair. selects format.rules pair.1) (records_from first slots)

abbrev pub shown : PathFormat → (first : ℕ) → List Slot → List PathEntry
shown format first slots = map (entry_of 0 format) (selected format first slots)

-- one of the entries is of this number, and has the key
pub record IsListed (key : List KeyValue) (number : ℕ) (entries : List PathEntry) : Type 0 where
  pub entry : PathEntry
  pub among : IsIn entry entries
  pub rrn : entry.rrn ≡ number
  pub has : has_equal_key key entry ≡ true

pub listed : (format : PathFormat) (key : List KeyValue) (slots : List Slot) (first place number : ℕ) → number ≡ first + place → Shows format key (slot_of slots place)
    → IsListed key number (shown format first slots)
listed format key [] first place number at shows = absurd (true≢false (sym shows))
listed format key (Deleted ∷ slots) first zero number at shows = absurd (true≢false (sym shows))
listed format key (Deleted ∷ slots) first (suc place) number at shows = listed format key slots (first + 1) place number (omega (arith, at)) shows
listed format key (Live image ∷ slots) first zero number at shows =
    elim (selects format.rules image) as
    (λ b. has_key (cond b (Some (path_key format image)) None) key ≡ true
    → IsListed key number (map (entry_of 0 format) (cond b ((first, image) ∷ selected format (first + 1) slots) (selected format (first + 1) slots)))) [
      | true ↦ λ has. record { entry = entry_of 0 format (first, image); among = inl refl; rrn = omega (arith, at); has = has }
      | false ↦ λ has. absurd (true≢false (sym has))
    ] shows
listed format key (Live image ∷ slots) first (suc place) number at shows =
    more (listed format key slots (first + 1) place number (omega (arith, at)) shows)
  where
    more : IsListed key number (shown format (first + 1) slots) → IsListed key number (shown format first (Live image ∷ slots))
    more rest =
        elim (selects format.rules image) as
        (λ b. IsListed key number (map (entry_of 0 format) (cond b ((first, image) ∷ selected format (first + 1) slots) (selected format (first + 1) slots)))) [
          | true ↦ record { entry = rest.entry; among = inr rest.among; rrn = rest.rrn; has = rest.has }
          | false ↦ rest
        ]

-- ---- no equal keys

not-not : (b : Bool) → not b ≡ false → b ≡ true
not-not true h = refl
not-not false h = absurd (true≢false h)

-- no other record than the one with this number shows the key
pub other-none : (format : PathFormat) (key : List KeyValue) (rrn : ℕ) (slots : List Slot) → other_with_key key rrn (shown format 1 slots) ≡ None
    → (place : ℕ) → Shows format key (slot_of slots place) → place + 1 ≡ rrn
other-none format key rrn slots none place shows =
    let its = listed format key slots 1 place (1 + place) refl shows in
    by its.entry its.among its.rrn its.has
  where
    by : (entry : PathEntry) → IsIn entry (shown format 1 slots) → entry.rrn ≡ 1 + place → has_equal_key key entry ≡ true → place + 1 ≡ rrn
    by entry among at has =
        let fails = find-none (λ (e : PathEntry). has_equal_key key e && not (e.rrn == rrn)) entry (shown format 1 slots)
        (map-none (λ (e : PathEntry). e.rrn) (find (λ (e : PathEntry). has_equal_key key e && not (e.rrn == rrn)) (shown format 1 slots)) none) among in
        elim (and_cases (has_equal_key key entry) (not (entry.rrn == rrn)) fails) [
          | inl hasnt ↦ absurd (true≢false (sym has ∙ hasnt))
          | inr same ↦ let is : entry.rrn ≡ rrn = eqb-true entry.rrn rrn (not-not (entry.rrn == rrn) same) in omega (arith, at, is)
        ]

-- two of the entries with one key are one
first_repeated-apart : (key : List KeyValue) (x y : PathEntry) (entries : List PathEntry) → first_repeated entries ≡ None → IsIn x entries → IsIn y entries → has_equal_key key x ≡ true
    → has_equal_key key y ≡ true → x ≡ y
first_repeated-apart key x y [] none first second has also = absurd first
first_repeated-apart key x y (entry ∷ entries) none first second has also =
    elim (list_any (has_equal_key entry.key) entries) as
    (λ b. list_any (has_equal_key entry.key) entries ≡ b → cond b (Some entry.rrn) (first_repeated entries) ≡ None → (entry ≡ x) ⊎ IsIn x entries → (entry ≡ y) ⊎ IsIn y entries → x ≡ y) [
      | true ↦ λ e h f s. absurd cc
      | false ↦ λ e h f s. by e (λ its also_in. first_repeated-apart key x y entries h its also_in has also) f s
    ] refl none first second
  where
    later : (z w : PathEntry) → entry ≡ z → IsIn w entries → has_equal_key key z ≡ true → has_equal_key key w ≡ true → list_any (has_equal_key entry.key) entries ≡ true
    later z w same among hz hw =
        any-in (has_equal_key entry.key) w entries among
        (subst (λ (e : PathEntry). is_eq (compare_keys w.key e.key) ≡ true) (sym same) (equal-through w.key key z.key hw (equal-back z.key key hz)))

    by : list_any (has_equal_key entry.key) entries ≡ false → (IsIn x entries → IsIn y entries → x ≡ y) → (entry ≡ x) ⊎ IsIn x entries → (entry ≡ y) ⊎ IsIn y entries → x ≡ y
    by e rest (inl here) (inl there) = sym here ∙ there
    by e rest (inl here) (inr there) = absurd (true≢false (sym (later x y here there has also) ∙ e))
    by e rest (inr here) (inl there) = absurd (true≢false (sym (later y x there here also has) ∙ e))
    by e rest (inr here) (inr there) = rest here there

pub unrepeated-unique : (format : PathFormat) (slots : List Slot) → first_repeated (shown format 1 slots) ≡ None → IsUnique format (λ place. slot_of slots place)
unrepeated-unique format slots none key place other first second =
    let here = listed format key slots 1 place (1 + place) refl first in
    let there = listed format key slots 1 other (1 + other) refl second in
    by here.entry there.entry here.rrn there.rrn (first_repeated-apart key here.entry there.entry (shown format 1 slots) none here.among there.among here.has there.has)
  where
    by : (x y : PathEntry) → x.rrn ≡ 1 + place → y.rrn ≡ 1 + other → x ≡ y → place ≡ other
    by x y at also same = let numbers : x.rrn ≡ y.rrn = ap (λ (e : PathEntry). e.rrn) same in omega (arith, at, also, numbers)

-- ---- the deleted slots removed

-- where a slot stood
abbrev stood : List Slot → ℕ → ℕ
stood [] place = place
stood (Live image ∷ slots) zero = zero
stood (Live image ∷ slots) (suc place) = suc (stood slots place)
stood (Deleted ∷ slots) place = suc (stood slots place)

stood-there : (slots : List Slot) (place : ℕ) → slot_of (filter is_live slots) place ≡ slot_of slots (stood slots place)
stood-there [] place = refl
stood-there (Live image ∷ slots) zero = refl
stood-there (Live image ∷ slots) (suc place) = stood-there slots place
stood-there (Deleted ∷ slots) place = stood-there slots place

stood-apart : (slots : List Slot) (place other : ℕ) → stood slots place ≡ stood slots other → place ≡ other
stood-apart [] place other same = same
stood-apart (Live image ∷ slots) zero zero same = refl
stood-apart (Live image ∷ slots) zero (suc other) same = absurd (omega (arith, same))
stood-apart (Live image ∷ slots) (suc place) zero same = absurd (omega (arith, same))
stood-apart (Live image ∷ slots) (suc place) (suc other) same = ap (λ n. suc n) (stood-apart slots place other (omega (arith, same)))
stood-apart (Deleted ∷ slots) place other same = stood-apart slots place other (omega (arith, same))

pub unique-reorganized : (format : PathFormat) (slots : List Slot) → IsUnique format (λ place. slot_of slots place) → IsUnique format (λ place. slot_of (filter is_live slots) place)
unique-reorganized format slots unique key place other first second =
    stood-apart slots place other
    (unique key (stood slots place) (stood slots other) (subst (Shows format key) (stood-there slots place) first) (subst (Shows format key) (stood-there slots other) second))
