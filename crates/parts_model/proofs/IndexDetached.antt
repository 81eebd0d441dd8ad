-- The first path over a member, and what is left where it has one file fewer.
use Rattle.std.proofs.Common.{ℕ, ◌<◌, ◌≡◌, ◌==◌, suc, zero, nat_lt, Bool, true, false, cond, not, List, [], ◌∷◌, Option, Some, None, IsSome, refl, sym, ap, arith, ◌∙◌, subst}
use Rattle.std.specs.Prelude.{All, AllPairs}
use Rattle.std.specs.List.{AllByRecursion, find}
use Rattle.std.proofs.lemmas.Bool.{cond-true, cond-false, eqb-true}
use Rattle.std.proofs.lemmas.Bool.Decides.{nat_tests}
use Rattle.std.proofs.lemmas.List.Elements.{All-from_recursion, recursion_from_All}
use Rattle.member_slots.specs.Members.{Numbered, item_at, with_item, without_item}
use Rattle.path_set.specs.KeptPaths.{KeptPath, KeptPaths, NumberedPaths, spare_of}
use Rattle.path_set.specs.MemberSteps.{is_over}
use Rattle.path_set.specs.Sharing.{detached, given_up, one_fewer}
use Rattle.lawful_states.proofs.NameLemmas.{some-equal}
use Rattle.library_model.specs.Named.{Named}
use Rattle.library_steps.specs.State.{MemberStatus}
use Rattle.parts_model.specs.PathChanges.{detached_from, first_over, without_path_over, without_paths, detached_each}

pub pairs-tail : (R : Numbered KeptPath → Numbered KeptPath → Type 0) (p : Numbered KeptPath) (paths : NumberedPaths) → AllPairs R (p ∷ paths) → AllPairs R paths
pairs-tail R p paths all = λ i j d lt low. all (suc i) (suc j) d (omega (arith, lt)) (omega (arith, low))

pub pairs-head : (R : Numbered KeptPath → Numbered KeptPath → Type 0) (p : Numbered KeptPath) (paths : NumberedPaths) → AllPairs R (p ∷ paths) → AllByRecursion (R p) paths
pairs-head R p paths all = recursion_from_All (R p) paths (λ k d low. all zero (suc k) d (omega arith) (omega (arith, low)))

-- the first path over the member
abbrev pub found_over : (number : ℕ) → NumberedPaths → Option (Numbered KeptPath)
found_over number paths = find (λ (path : Numbered KeptPath). is_over number path.item.spec) paths

found-each : (P : Numbered KeptPath → Type 0) (number : ℕ) (path : Numbered KeptPath) (paths : NumberedPaths) → AllByRecursion P paths → found_over number paths ≡ Some path → P path
found-each P number path [] all at = absurd cc
found-each P number path (p ∷ paths) all at =
    elim (is_over number p.item.spec) as (λ b. cond b (Some p) (found_over number paths) ≡ Some path → P path) [
      | true ↦ λ e. subst P (some-equal e) all.0
      | false ↦ λ e. found-each P number path paths all.1 e
    ] at

-- its number finds it, and it is over the member
pub first-found : (number : ℕ) (path : Numbered KeptPath) (paths : NumberedPaths) → AllPairs (λ (former later : Numbered KeptPath). former.number < later.number) paths
    → found_over number paths ≡ Some path → (item_at path.number paths ≡ Some path.item) × (is_over number path.item.spec ≡ true)
first-found number path [] ascend at = absurd cc
first-found number path (p ∷ paths) ascend at =
    by (is_over number p.item.spec) refl at (first-found number path paths (pairs-tail (λ (former later : Numbered KeptPath). former.number < later.number) p paths ascend))
  where
    by : (b : Bool) → is_over number p.item.spec ≡ b → cond b (Some p) (found_over number paths) ≡ Some path
        → (found_over number paths ≡ Some path → (item_at path.number paths ≡ Some path.item) × (is_over number path.item.spec ≡ true))
        → (item_at path.number (p ∷ paths) ≡ Some path.item) × (is_over number path.item.spec ≡ true)
    by true over e rest =
        subst (λ (q : Numbered KeptPath). (item_at q.number (p ∷ paths) ≡ Some q.item) × (is_over number q.item.spec ≡ true)) (some-equal e)
        (cond-true (p.number == p.number) (Some p.item) (item_at p.number paths) (let own : (p.number == p.number) ≡ true = grind (arith, nat_tests) in own), over)
    by false over e rest =
        let less : p.number < path.number =
        found-each (λ (q : Numbered KeptPath). p.number < q.number) number path paths (pairs-head (λ (former later : Numbered KeptPath). former.number < later.number) p paths ascend) e in (
          cond-false (p.number == path.number) (Some p.item) (item_at path.number paths) (let other : (p.number == path.number) ≡ false = grind (arith, nat_tests) in other) ∙ (rest e).0,
          (rest e).1,
        )

-- none is over it
pub none-over : (number : ℕ) (paths : NumberedPaths) → found_over number paths ≡ None → All (λ (path : Numbered KeptPath). is_over number path.item.spec ≡ false) paths
none-over number paths none = All-from_recursion (λ (path : Numbered KeptPath). is_over number path.item.spec ≡ false) paths (go paths none)
  where
    go : (ps : NumberedPaths) → found_over number ps ≡ None → AllByRecursion (λ (path : Numbered KeptPath). is_over number path.item.spec ≡ false) ps
    go [] e = tt
    go (p ∷ ps) e =
        elim (is_over number p.item.spec) as (λ b. is_over number p.item.spec ≡ b → cond b (Some p) (found_over number ps) ≡ None
        → AllByRecursion (λ (path : Numbered KeptPath). is_over number path.item.spec ≡ false) (p ∷ ps)) [
          | true ↦ λ over h. absurd cc
          | false ↦ λ over h. (over, go ps h)
        ] refl e

-- ---- what is left was there

some-with : (id number : ℕ) (item : KeptPath) (paths : NumberedPaths) → IsSome (item_at number (with_item id item paths)) → IsSome (item_at number paths)
some-with id number item [] there = there
some-with id number item (p ∷ paths) there = by (p.number == id) refl there (some-with id number item paths)
  where
    same : (b : Bool) → (IsSome (item_at number (with_item id item paths)) → IsSome (item_at number paths)) → IsSome (cond b (Some p.item) (item_at number (with_item id item paths)))
        → IsSome (cond b (Some p.item) (item_at number paths))
    same true more h = refl
    same false more h = more h

    own : (b : Bool) → IsSome (cond b (Some item) (item_at number paths)) → IsSome (cond b (Some p.item) (item_at number paths))
    own true h = refl
    own false h = h

    by : (b : Bool) → (p.number == id) ≡ b → IsSome (item_at number (cond b (record { number = id; item = item } ∷ paths) (p ∷ with_item id item paths)))
        → (IsSome (item_at number (with_item id item paths)) → IsSome (item_at number paths)) → IsSome (cond (p.number == number) (Some p.item) (item_at number paths))
    by true is h more =
        own (p.number == number) (subst (λ (n : ℕ). IsSome (cond (n == number) (Some item) (item_at number paths))) (sym (eqb-true p.number id is)) h)
    by false is h more = same (p.number == number) more h

some-without : (id number : ℕ) (paths : NumberedPaths) → IsSome (item_at number (without_item id paths)) → IsSome (item_at number paths)
some-without id number [] there = there
some-without id number (p ∷ paths) there = by (p.number == id) there (some-without id number paths)
  where
    here : (b : Bool) → IsSome (item_at number paths) → IsSome (cond b (Some p.item) (item_at number paths))
    here true more = refl
    here false more = more

    same : (b : Bool) → (IsSome (item_at number (without_item id paths)) → IsSome (item_at number paths)) → IsSome (cond b (Some p.item) (item_at number (without_item id paths)))
        → IsSome (cond b (Some p.item) (item_at number paths))
    same true more h = refl
    same false more h = more h

    by : (b : Bool) → IsSome (item_at number (cond (not b) (p ∷ without_item id paths) (without_item id paths)))
        → (IsSome (item_at number (without_item id paths)) → IsSome (item_at number paths)) → IsSome (cond (p.number == number) (Some p.item) (item_at number paths))
    by true h more = here (p.number == number) (more h)
    by false h more = same (p.number == number) more h

pub some-detached : (id number : ℕ) (paths : NumberedPaths) → IsSome (item_at number (detached id paths)) → IsSome (item_at number paths)
some-detached id number paths there = by (item_at id paths) there
  where
    cases : (b : Bool) (path : KeptPath) → IsSome (item_at number (cond b (with_item id (one_fewer path) paths) (without_item id paths))) → IsSome (item_at number paths)
    cases true path h = some-with id number (one_fewer path) paths h
    cases false path h = some-without id number paths h

    by : (o : Option KeptPath) → IsSome (item_at number (given_up id o paths)) → IsSome (item_at number paths)
    by None h = h
    by (Some path) h = cases (nat_lt 1 path.files) path h

pub some-from : (path : Option ℕ) (number : ℕ) (paths : NumberedPaths) → IsSome (item_at number (detached_from path paths)) → IsSome (item_at number paths)
some-from None number paths there = there
some-from (Some id) number paths there = some-detached id number paths there

pub some-each : (ids : List (Option ℕ)) (number : ℕ) (paths : NumberedPaths) → IsSome (item_at number (detached_each ids paths)) → IsSome (item_at number paths)
some-each [] number paths there = there
some-each (id ∷ ids) number paths there = some-from id number paths (some-each ids number (detached_from id paths) there)

pub some-left : (member number : ℕ) (paths : NumberedPaths) → IsSome (item_at number (without_path_over member paths)) → IsSome (item_at number paths)
some-left member number paths there = some-from (first_over member paths) number paths there

-- ---- the members of a file, one after another

-- these are left, whose paths are still to be given up
pub record IsGivingUp (all : Named MemberStatus) (start : KeptPaths) (left : Named MemberStatus) (now : KeptPaths) : Type 0 where
  pub rest : without_paths left now.paths ≡ without_paths all start.paths
  pub spares : (id : ℕ) → IsSome (item_at id now.paths) → spare_of id now ≡ spare_of id start

module _ (all : Named MemberStatus) (start : KeptPaths) where
  pub giving-first : IsGivingUp all start all start
  giving-first = record { rest = refl; spares = λ id there. refl }

  pub giving-next : (entry : List ℕ × MemberStatus) (left rest : Named MemberStatus) (now later : KeptPaths) → left ≡ entry ∷ rest → later.paths ≡ without_path_over entry.1.number now.paths
      → ((id : ℕ) → IsSome (item_at id later.paths) → spare_of id later ≡ spare_of id now) → IsGivingUp all start left now → IsGivingUp all start rest later
  giving-next entry left rest now later next less spares is = record {
    rest = ap (without_paths rest) less ∙ sym (ap (λ (l : Named MemberStatus). without_paths l now.paths) next) ∙ is.rest;
    spares = λ id there. spares id there
        ∙ is.spares id (some-left entry.1.number id now.paths (subst (λ (p : NumberedPaths). IsSome (item_at id p)) less there));
  }

  pub giving-end : (left : Named MemberStatus) (now : KeptPaths) → left ≡ [] → IsGivingUp all start left now → now.paths ≡ without_paths all start.paths
  giving-end left now none is = sym (ap (λ (l : Named MemberStatus). without_paths l now.paths) none) ∙ is.rest
