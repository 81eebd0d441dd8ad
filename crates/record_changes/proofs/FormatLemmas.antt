-- Which format of a file has a name.
use Rattle.std.proofs.Common.{◌≡◌, ℕ, suc, ◌+◌, Bool, true, false, cond, not, nat_lt, Option, Some, None, List, [], ◌∷◌, length, drop, map, option_map, refl, sym, ◌∙◌, ap, arith}
use Rattle.std.specs.List.{position_or_len}
use Rattle.std.proofs.lemmas.Bool.Decides.{nat_tests}
use Rattle.dds_logical.specs.declared.views.View.{View}
use Rattle.std.specs.List.{position}
use Rattle.dds_logical.specs.declared.views.LogicalSpec.TheVariants.{Simple, Multi, Join}
use Rattle.logical_model.specs.Bases.{FileSpec, PhysicalFile, LogicalFile}
use Rattle.library_model.specs.Named.{Named}
use Rattle.library_steps.specs.State.{FileState}
use Rattle.library_parts.specs.Finds.{IsFormatIn}
use Rattle.library_parts.specs.Indexed.{IsViewBeside}

-- each file has a format
pub first-format : (files : Named FileState) (spec : FileSpec) → IsViewBeside files spec → IsFormatIn spec 0
first-format files (PhysicalFile spec) its = omega arith
first-format files (LogicalFile (Simple view)) its = omega arith
first-format files (LogicalFile (Multi [])) its = let several = its.several in absurd (omega (arith, several))
first-format files (LogicalFile (Multi (view ∷ views))) its = omega arith
first-format files (LogicalFile (Join view)) its = omega arith

-- ---- the place of a name

position-behind : {X : Type 0} (p : X → Bool) (xs : List X) (b : Bool) → nat_lt (position_or_len p xs) (length xs) ≡ b
    → cond (nat_lt (1 + position_or_len p xs) (suc (length xs))) (Some (1 + position_or_len p xs)) None ≡ option_map suc (cond b (Some (position_or_len p xs)) None)
position-behind p xs true within =
    let k = position_or_len p xs in
    let test : nat_lt (1 + k) (suc (length xs)) ≡ true = grind (arith, nat_tests, within) in
    let next : 1 + k ≡ suc k = omega arith in
    ap (λ (b : Bool). cond b (Some (1 + k)) None) test ∙ ap (λ (n : ℕ). Some n) next
position-behind p xs false within =
    let k = position_or_len p xs in
    let test : nat_lt (1 + k) (suc (length xs)) ≡ false = grind (arith, nat_tests, within) in
    ap (λ (b : Bool). cond b (Some (1 + k)) None) test

-- with an item more in front
pub position-cons : {X : Type 0} (p : X → Bool) (x : X) (xs : List X) → position p (x ∷ xs) ≡ cond (p x) (Some 0) (option_map suc (position p xs))
position-cons p x xs =
    let k = position_or_len p xs in
    elim (p x) as (λ b. cond (nat_lt (cond (not b) (1 + k) 0) (suc (length xs))) (Some (cond (not b) (1 + k) 0)) None ≡ cond b (Some 0) (option_map suc (position p xs))) [
      | true ↦ (let some : nat_lt 0 (suc (length xs)) ≡ true = grind (arith, nat_tests) in ap (λ (c : Bool). cond c (Some 0) None) some)
      | false ↦ position-behind p xs (nat_lt k (length xs)) refl
    ]

pub position-one : {X : Type 0} (p : X → Bool) (x : X) → position p (x ∷ []) ≡ cond (p x) (Some 0) None
position-one p x = position-cons p x []

-- counted from the front of all
counted-one : (before next : ℕ) (place : Option ℕ) → next ≡ before + 1 → option_map (λ (n : ℕ). next + n) place ≡ option_map (λ (n : ℕ). before + n) (option_map suc place)
counted-one before next None is = refl
counted-one before next (Some n) is = let same : next + n ≡ before + suc n = omega (arith, is) in ap (λ (k : ℕ). Some k) same

place-at : {X : Type 0} (p : X → Bool) (x : X) (xs : List X) (before next : ℕ) (b : Bool) → p x ≡ b → next ≡ before + 1
    → cond b (Some before) (option_map (λ (n : ℕ). next + n) (position p xs)) ≡ option_map (λ (n : ℕ). before + n) (cond b (Some 0) (option_map suc (position p xs)))
place-at p x xs before next true is follows = let same : before ≡ before + 0 = omega arith in ap (λ (k : ℕ). Some k) same
place-at p x xs before next false is follows = counted-one before next (position p xs) follows

-- one format more, from behind
pub place-more : (p : List ℕ → Bool) (views rest : List View) (view : View) (before next : ℕ) (found other : Option ℕ) → next ≡ before + 1 → drop before views ≡ view ∷ rest → drop next views ≡ rest
    → other ≡ option_map (λ (n : ℕ). next + n) (position p (map (λ (v : View). v.format.name) (drop next views))) → found ≡ cond (p view.format.name) (Some before) other
    → found ≡ option_map (λ (n : ℕ). before + n) (position p (map (λ (v : View). v.format.name) (drop before views)))
place-more p views rest view before next found other follows here behind so_far is =
    let name = λ (v : View). v.format.name in
    is
    ∙ ap (λ (o : Option ℕ). cond (p view.format.name) (Some before) o) (so_far ∙ ap (λ (vs : List View). option_map (λ (n : ℕ). next + n) (position p (map name vs))) behind)
    ∙ place-at p view.format.name (map name rest) before next (p view.format.name) refl follows
    ∙ ap (λ (o : Option ℕ). option_map (λ (n : ℕ). before + n) o) (sym (position-cons p view.format.name (map name rest)))
    ∙ sym (ap (λ (vs : List View). option_map (λ (n : ℕ). before + n) (position p (map name vs))) here)

pub place-all : (p : List ℕ → Bool) (views : List View) (left : ℕ) (found : Option ℕ) → left ≡ 0
    → found ≡ option_map (λ (n : ℕ). left + n) (position p (map (λ (v : View). v.format.name) (drop left views))) → found ≡ position p (map (λ (v : View). v.format.name) views)
place-all p views left found none is =
    is
    ∙ ap (λ (k : ℕ). option_map (λ (n : ℕ). k + n) (position p (map (λ (v : View). v.format.name) (drop k views)))) none
    ∙ same (position p (map (λ (v : View). v.format.name) views))
  where
    same : (o : Option ℕ) → option_map (λ (n : ℕ). 0 + n) o ≡ o
    same None = refl
    same (Some n) = let e : 0 + n ≡ n = omega arith in ap (λ (k : ℕ). Some k) e
