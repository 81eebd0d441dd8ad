-- What is known of an open that its job has under a name, and what changes of opens leave of how they are told apart.
use Rattle.std.proofs.Common.{◌≡◌, ◌≢◌, ℕ, ◌<◌, Bool, true, false, cond, filter, map, List, [], ◌∷◌, ◌++◌, Some, None, refl, ap, subst, arith}
use Rattle.std.specs.List.{AllByRecursion}
use Rattle.std.proofs.lemmas.Cmp.{nat_list_eq_equiv}
use Rattle.library_model.specs.Named.{Named, named, same_name}
use Rattle.library_steps.specs.State.{OpenState}
use Rattle.joint_state.specs.Opens.{IsBefore, AreToldApart}
use Rattle.locks_kept.proofs.ListLemmas.{all-append, all-filter, all-map, all-weaker}

-- ---- what holds of each

-- ---- what has a name

-- what holds of each holds of what has the name
pub named-holds : {A : Type 0} (P : A → Type 0) (name : List ℕ) (things : Named A) (thing : A) → named name things ≡ Some thing → AllByRecursion (λ e. P e.1) things → P thing
named-holds P name [] thing is all = absurd cc
named-holds P name (entry ∷ things) thing is all =
    elim (same_name name entry.0) as (λ b. cond b (Some entry.1) (named name things) ≡ Some thing → P thing) [
      | true ↦ λ e. (let same : entry.1 ≡ thing = cc in subst P same all.0)
      | false ↦ λ e. named-holds P name things thing e all.1
    ] is

pub unnamed-differ : {A : Type 0} (name : List ℕ) (things : Named A) → named name things ≡ None → AllByRecursion (λ e. same_name name e.0 ≡ false) things
unnamed-differ name [] none = tt
unnamed-differ name (entry ∷ things) none =
    elim (same_name name entry.0) as (λ b. same_name name entry.0 ≡ b → cond b (Some entry.1) (named name things) ≡ None → AllByRecursion (λ e. same_name name e.0 ≡ false) (entry ∷ things)) [
      | true ↦ λ differ e. absurd cc
      | false ↦ λ differ e. (differ, unnamed-differ name things e)
    ] refl none

-- ---- opens that are apart

-- an open with the number of one that is named is that one
pub same-number : (name : List ℕ) (opens : Named OpenState) (opened : OpenState) → named name opens ≡ Some opened → AreToldApart opens
    → AllByRecursion (λ e. e.1.number ≡ opened.number → e.1 ≡ opened) opens
same-number name [] opened is apart = tt
same-number name (entry ∷ opens) opened is apart =
    elim (same_name name entry.0) as (λ b. cond b (Some entry.1) (named name opens) ≡ Some opened → AllByRecursion (λ e. e.1.number ≡ opened.number → e.1 ≡ opened) (entry ∷ opens)) [
      | true ↦ λ e. (
          let here : entry.1 ≡ opened = cc in (
            λ same. here,
            all-weaker (IsBefore entry) (λ e. e.1.number ≡ opened.number → e.1 ≡ opened) opens (λ later before same. absurd (
                let numbers = before.numbers in
                let number : entry.1.number ≡ opened.number = ap (λ (o : OpenState). o.number) here in
                omega (arith, numbers, number, same))) apart.0,
          ))
      | false ↦ λ e. (
          let later : entry.1.number < opened.number = named-holds (λ (o : OpenState). entry.1.number < o.number) name opens opened e
          (all-weaker (IsBefore entry) (λ o. entry.1.number < o.1.number) opens (λ o before. before.numbers) apart.0) in
          (λ same. absurd (omega (arith, later, same)), same-number name opens opened e apart.1))
    ] is

-- so is an open of its name
pub same-named : (name : List ℕ) (opens : Named OpenState) (opened : OpenState) → named name opens ≡ Some opened → AreToldApart opens
    → AllByRecursion (λ e. same_name name e.0 ≡ true → e.1 ≡ opened) opens
same-named name [] opened is apart = tt
same-named name (entry ∷ opens) opened is apart =
    elim (same_name name entry.0) as (λ b. same_name name entry.0 ≡ b → cond b (Some entry.1) (named name opens) ≡ Some opened
    → AllByRecursion (λ e. same_name name e.0 ≡ true → e.1 ≡ opened) (entry ∷ opens)) [
      | true ↦ λ its e. (
        (λ same. (let here : entry.1 ≡ opened = cc in here)),
        all-weaker (IsBefore entry) (λ e. same_name name e.0 ≡ true → e.1 ≡ opened) opens (λ later before same. absurd (
            let differ = before.names in
            let both : same_name name later.0 ≡ same_name entry.0 later.0 = nat_list_eq_equiv.congr name entry.0 later.0 its in
            cc)) apart.0,
      )
      | false ↦ λ its e. ((λ same. absurd cc), same-named name opens opened e apart.1)
    ] refl is

-- an open of another name has another number
pub other-number : (name : List ℕ) (opens : Named OpenState) (opened : OpenState) → named name opens ≡ Some opened → AreToldApart opens
    → AllByRecursion (λ e. same_name name e.0 ≡ false → e.1.number ≢ opened.number) opens
other-number name [] opened is apart = tt
other-number name (entry ∷ opens) opened is apart =
    elim (same_name name entry.0) as (λ b. same_name name entry.0 ≡ b → cond b (Some entry.1) (named name opens) ≡ Some opened
    → AllByRecursion (λ e. same_name name e.0 ≡ false → e.1.number ≢ opened.number) (entry ∷ opens)) [
      | true ↦ λ its e. (
          let here : entry.1 ≡ opened = cc in
          let number : entry.1.number ≡ opened.number = ap (λ (o : OpenState). o.number) here in (
            λ differ. absurd cc,
            all-weaker (IsBefore entry) (λ e. same_name name e.0 ≡ false → e.1.number ≢ opened.number) opens (λ later before differ same. (
                let numbers = before.numbers in
                absurd (omega (arith, numbers, number, same)))) apart.0,
          ))
      | false ↦ λ its e. (
          let later : entry.1.number < opened.number = named-holds (λ (o : OpenState). entry.1.number < o.number) name opens opened e
          (all-weaker (IsBefore entry) (λ o. entry.1.number < o.1.number) opens (λ o before. before.numbers) apart.0) in
          (λ differ same. absurd (omega (arith, later, same)), other-number name opens opened e apart.1))
    ] refl is

pub apart-map : (change : OpenState → OpenState) → ((opened : OpenState) → (change opened).number ≡ opened.number) → (opens : Named OpenState) → AreToldApart opens
    → AreToldApart (map (λ entry. (entry.0, change entry.1)) opens)
apart-map change same [] apart = tt
apart-map change same (entry ∷ opens) apart = (
  all-map (IsBefore entry) (IsBefore (entry.0, change entry.1)) (λ e. (e.0, change e.1)) opens
      (λ later before. (
      let numbers = before.numbers in
      let one : (change entry.1).number ≡ entry.1.number = same entry.1 in
      let other : (change later.1).number ≡ later.1.number = same later.1 in
      record { names = before.names; numbers = omega (arith, numbers, one, other) })) apart.0,
  apart-map change same opens apart.1,
)

pub apart-filter : (test : List ℕ × OpenState → Bool) (opens : Named OpenState) → AreToldApart opens → AreToldApart (filter test opens)
apart-filter test [] apart = tt
apart-filter test (entry ∷ opens) apart =
    elim (test entry) as (λ b. AreToldApart (cond b (entry ∷ filter test opens) (filter test opens))) [
      | true ↦ (all-filter (IsBefore entry) (IsBefore entry) test opens (λ e passed before. before) apart.0, apart-filter test opens apart.1)
      | false ↦ apart-filter test opens apart.1
    ]

pub apart-append : (opens : Named OpenState) (last : List ℕ × OpenState) → AreToldApart opens → AllByRecursion (λ e. IsBefore e last) opens → AreToldApart (opens ++ last ∷ [])
apart-append [] last apart before = (tt, tt)
apart-append (entry ∷ opens) last apart before = (all-append (IsBefore entry) opens (last ∷ []) apart.0 (before.0, tt), apart-append opens last apart.1 before.1)
