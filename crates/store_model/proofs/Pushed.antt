-- One change more, at the end of those that a store in memory came through.
use Rattle.std.proofs.Common.{◌≡◌, ◌≢◌, inl, inr, ℕ, ◌+◌, ◌<◌, ◌≤◌, List, [], ◌∷◌, ◌++◌, length, take, drop, Vec, refl, sym, ◌∙◌, ap, arith, length-append, length-take, length-drop, if◌then◌else◌, ◌==◌, set}
use Rattle.std.proofs.lemmas.List.{drop_all, take_all}
use Rattle.std.proofs.lemmas.Bool.{cases_eq}
use Rattle.std.proofs.lemmas.Bool.Decides.{nat_tests}
use Rattle.std.specs.declared.alloc.Global.{Global}
use Rattle.store_model.specs.Disk.{Areas, written}
use Rattle.store_model.specs.Past.{held, blank, changed, seen_after, HasRoom}
use Rattle.store_model.specs.declared.past.Change.{Change}
use Rattle.store_model.specs.declared.past.Change.TheVariants.{Wrote, Shortened, Synced}
use Rattle.store_model.proofs.Held.{held-set_same, held-set_other}

pub seen_after-push : (seen : Areas) (changes : List Change) (change : Change) → seen_after seen (changes ++ change ∷ []) ≡ changed change (seen_after seen changes)
seen_after-push seen [] change = refl
seen_after-push seen (first ∷ changes) change = seen_after-push (changed first seen) changes change

-- areas that agree at each number are the same
pub same_areas : (f g : Areas) → ((area : ℕ) → f area ≡ g area) → f ≡ g
same_areas f g same = λ i area. same area i

-- what an area has after a change to one of them
pub put_cases : (other area : ℕ) (x y z : List ℕ) → (other ≡ area → z ≡ x) → (other ≢ area → z ≡ y) → z ≡ (if other == area then x else y)
put_cases other area x y z here there = elim (cases_eq other area) [
  | inl same ↦ let e = here same in grind (arith, nat_tests)
  | inr apart ↦ let e = there apart in grind (arith, nat_tests)
]

put_fits : (other area bound : ℕ) (x y : List ℕ) → length x ≤ bound → length y ≤ bound → length (if other == area then x else y) ≤ bound
put_fits other area bound x y small too = elim (cases_eq other area) [
  | inl same ↦ let e : (if other == area then x else y) ≡ x = grind (arith, nat_tests) in omega (arith, ap length e)
  | inr apart ↦ let e : (if other == area then x else y) ≡ y = grind (arith, nat_tests) in omega (arith, ap length e)
]

length-written : (at : ℕ) (bytes old : List ℕ) (bound : ℕ) → at + length bytes ≤ bound → length old ≤ bound → length (written at bytes old) ≤ bound
length-written at bytes old bound room fits =
    omega (arith, length-append (take at old ++ bytes) (drop (at + length bytes) old), length-append (take at old) bytes, length-take at old, length-drop (at + length bytes) old)

-- no area gets too long by a change that has room
changed_fits : (change : Change) (seen : Areas) → HasRoom change → ((area : ℕ) → length (seen area) ≤ 4611686018427387904) → (other : ℕ) → length (changed change seen other) ≤ 4611686018427387904
changed_fits (Wrote area at bytes) seen room fits other = put_fits other area _ _ _ (length-written at bytes.items (seen area) 4611686018427387904 room (fits area)) (fits other)
changed_fits (Shortened area n) seen room fits other = put_fits other area _ _ _ (omega (arith, length-take n (seen area), fits area)) (fits other)
changed_fits (Synced area) seen room fits other = fits other

-- a place past the end is the end
pub written_past : (at : ℕ) (bytes old : List ℕ) → length old ≤ at → written (length old) bytes old ≡ written at bytes old
written_past at bytes old past =
    ap (λ (l : List ℕ). l ++ bytes ++ drop (length old + length bytes) old) (take_all (length old) old (omega arith) ∙ sym (take_all at old past))
    ∙ ap (λ (l : List ℕ). take at old ++ bytes ++ l) (drop_all (length old + length bytes) old (omega arith) ∙ sym (drop_all (at + length bytes) old (omega arith)))

-- an area was set to what a write makes of it
pub set_wrote : (areas : List (Vec ℕ Global)) (area at : ℕ) (bytes new : Vec ℕ Global) → area < length areas → new.items ≡ written at bytes.items (held areas area) → (other : ℕ) → held (set areas area new) other ≡ changed (Wrote area at bytes) (held areas) other
set_wrote areas area at bytes new within is other =
    put_cases other area _ _ _ (λ same. ap (λ (n : ℕ). held (set areas area new) n) same ∙ held-set_same areas area new within ∙ is) (λ apart. held-set_other areas area other new apart)

module _ (changes pushed : List Change) (change : Change) (areas new : Areas) (agrees : (area : ℕ) → areas area ≡ seen_after blank changes area) (done : (area : ℕ) → new area ≡ changed change areas area) where
  pub push_agrees : pushed ≡ changes ++ change ∷ [] → (area : ℕ) → new area ≡ seen_after blank pushed area
  push_agrees push area =
      done area ∙ ap (λ (f : Areas). changed change f area) (same_areas areas (seen_after blank changes) agrees)
      ∙ sym (ap (λ (l : List Change). seen_after blank l area) push ∙ ap (λ (f : Areas). f area) (seen_after-push blank changes change))

  pub push_fits : HasRoom change → ((area : ℕ) → length (areas area) ≤ 4611686018427387904) → (area : ℕ) → length (new area) ≤ 4611686018427387904
  push_fits room fits area = omega (arith, ap length (done area), changed_fits change areas room fits area)
