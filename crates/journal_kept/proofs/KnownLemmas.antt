-- What acts tell of one record: which tell nothing, and what is known after a slot change that agrees with what was known.
use Rattle.std.proofs.Common.{◌≡◌, ◌⊎◌, ℕ, true, false, ◌==◌, cond, List, [], ◌∷◌, ◌++◌, Option, Some, None, refl, sym, ap, ◌∙◌, subst, inl, inr}
use Rattle.std.specs.List.{AllByRecursion}
use Rattle.member_slots.specs.declared.slot.Slot.{Slot}
use Rattle.journal_model.specs.Acts.{Act, Changed, Began, Committed, RolledBack, Nothing, Change}
use Rattle.journal_model.specs.AtSequence.{known_by, known_after, Agrees, FollowsKnown, IsChained, IsSo}

-- ---- acts that tell nothing

pub record IsQuiet (a : Act) : Type 0 where
  pub known : (place : ℕ) (known : Option Slot) → known_by place known a ≡ known
  pub follows : (place : ℕ) (known : Option Slot) → FollowsKnown place known a

pub quiet-nothing : IsQuiet Nothing
quiet-nothing = record { known = λ p k. refl; follows = λ p k. tt }

pub quiet-began : (n : ℕ) → IsQuiet (Began n)
quiet-began n = record { known = λ p k. refl; follows = λ p k. tt }

pub quiet-committed : (n : ℕ) → IsQuiet (Committed n)
quiet-committed n = record { known = λ p k. refl; follows = λ p k. tt }

pub quiet-rolled_back : (n : ℕ) → IsQuiet (RolledBack n)
quiet-rolled_back n = record { known = λ p k. refl; follows = λ p k. tt }

-- ---- what is known, and the chain

pub known_after-append : (place : ℕ) (known : Option Slot) (xs ys : List Act) → known_after place known (xs ++ ys) ≡ known_after place (known_after place known xs) ys
known_after-append place known [] ys = refl
known_after-append place known (a ∷ xs) ys = known_after-append place (known_by place known a) xs ys

pub IsChained-append : (place : ℕ) (known : Option Slot) (xs ys : List Act) → IsChained place known xs → IsChained place (known_after place known xs) ys → IsChained place known (xs ++ ys)
IsChained-append place known [] ys front back = back
IsChained-append place known (a ∷ xs) ys front back = (front.0, IsChained-append place (known_by place known a) xs ys front.1 back)

-- the acts are chained, and this is known after them
pub record Leads (place : ℕ) (known : Option Slot) (acts : List Act) (to : Option Slot) : Type 0 where
  pub chained : IsChained place known acts
  pub after : known_after place known acts ≡ to

pub leads-append : (place : ℕ) (known middle to : Option Slot) (xs ys : List Act) → Leads place known xs middle → Leads place middle ys to → Leads place known (xs ++ ys) to
leads-append place known middle to xs ys front back = record {
  chained = IsChained-append place known xs ys front.chained (subst (λ (k : Option Slot). IsChained place k ys) (sym front.after) back.chained);
  after = known_after-append place known xs ys ∙ ap (λ (k : Option Slot). known_after place k ys) front.after ∙ back.after;
}

pub leads-quiet : (place : ℕ) (known : Option Slot) (acts : List Act) → AllByRecursion IsQuiet acts → Leads place known acts known
leads-quiet place known [] quiet = record { chained = tt; after = refl }
leads-quiet place known (a ∷ acts) quiet =
    let rest = leads-quiet place known acts quiet.1 in
    let same : known_by place known a ≡ known = quiet.0.known place known in
    record {
      chained = (quiet.0.follows place known, subst (λ (k : Option Slot). IsChained place k acts) (sym same) rest.chained);
      after = ap (λ (k : Option Slot). known_after place k acts) same ∙ rest.after;
    }

-- ---- a slot change

agrees : (known before : Option Slot) (slot : Slot) → IsSo known slot → IsSo before slot → Agrees known before
agrees None before slot so was = tt
agrees (Some k) None slot so was = tt
agrees (Some k) (Some b) slot so was = so ∙ sym was

-- where the side before it is the slot that stands, what is known is so after it
pub leads-changed : (place : ℕ) (known : Option Slot) (slot : Slot) (c : Change) → IsSo known slot → (c.place ≡ place → IsSo c.before slot)
    → Leads place known (Changed c ∷ []) (cond (c.place == place) (Some c.after) known)
leads-changed place known slot c so was = record { chained = ((λ e. agrees known c.before slot so (was e)), tt); after = refl }

pub so-changed : (place : ℕ) (known : Option Slot) (slot after : Slot) (other : ℕ) → IsSo known slot → IsSo (cond (other == place) (Some after) known) (cond (other == place) after slot)
so-changed place known slot after other so = elim (other == place) as (λ b. IsSo (cond b (Some after) known) (cond b after slot)) [ true ↦ refl | false ↦ so ]

-- ---- fewer acts in front

-- at most the same is known
abbrev pub IsLess : Option Slot → Option Slot → Type 0
IsLess less known = (less ≡ None) ⊎ (less ≡ known)

pub less-so : (less known : Option Slot) (slot : Slot) → IsLess less known → IsSo known slot → IsSo less slot
less-so less known slot (inl none) so = subst (λ (k : Option Slot). IsSo k slot) (sym none) tt
less-so less known slot (inr same) so = subst (λ (k : Option Slot). IsSo k slot) (sym same) so

pub less-none : (less known : Option Slot) → IsLess less known → known ≡ None → less ≡ None
less-none less known (inl none) e = none
less-none less known (inr same) e = same ∙ e

agrees-none : (known : Option Slot) → Agrees known None
agrees-none None = tt
agrees-none (Some slot) = tt

pub agrees-less : (less known before side : Option Slot) → IsLess less known → IsLess side before → Agrees known before → Agrees less side
agrees-less less known before side (inl none) l h = subst (λ (k : Option Slot). Agrees k side) (sym none) tt
agrees-less less known before side (inr same) (inl none) h = subst (λ (k : Option Slot). Agrees k side) (sym same) (subst (λ (b : Option Slot). Agrees known b) (sym none) (agrees-none known))
agrees-less less known before side (inr same) (inr own) h = subst (λ (k : Option Slot). Agrees k side) (sym same) (subst (λ (b : Option Slot). Agrees known b) (sym own) h)
