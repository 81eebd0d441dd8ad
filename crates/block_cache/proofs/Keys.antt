-- Blocks under keys: which one is found, and what stays where one is used or put.
use Rattle.std.proofs.Common.{◌≡◌, ℕ, ◌-◌, ◌||◌, Bool, true, false, IsTrue, cond, if◌then◌else◌, nat_eq, List, [], ◌∷◌, take, zero, suc, Contains, Option, Some, None, is_some, Result, Ok, Err, OnOk, refl, sym, ◌∙◌, ap, subst}
use Rattle.std.specs.Prelude.{IfNone, IsSome, OnErr}
use Rattle.std.specs.List.{AllByRecursion, IsDistinct}
use Rattle.std.specs.Map.{keys_of, lookup, lookup_entry, remove_entry, values_of}
use Rattle.std.specs.Borrow.{Bor}
use Rattle.std.specs.Option.{option_copied, option_map_or}
use Rattle.std.proofs.lemmas.Bool.{false≢true}
use Rattle.std.proofs.lemmas.Cmp.{nat_eq_equiv}
use Rattle.std.proofs.lemmas.Map.Views.{lookup-from_Contains}
use Rattle.std.proofs.lemmas.Option.{none-some, same_Some}
use Rattle.lru.specs.LruCache.{LruCache, promoted, put_entries}
use Rattle.lru.proofs.Splits.{Contains-head, Contains-tail}
use Rattle.entry_codec.specs.declared.entries.Entry.{Entry}
use Rattle.block_cache.specs.Cached.{HasSequence, has_entry, has_sequence, key_of}

or_swap : (a b c : Bool) → (a || (b || c)) ≡ (b || (a || c))
or_swap true true c = refl
or_swap true false c = refl
or_swap false true c = refl
or_swap false false c = refl

or_second : (a b : Bool) → b ≡ true → (a || b) ≡ true
or_second true b is = refl
or_second false b is = is

-- ---- what a reference shows

pub shown-some : {A : Type 0} (o : Option (Bor A)) (v : A) → option_copied o ≡ Some v → IsSome o
shown-some None v is = absurd (none-some v is)
shown-some (Some b) v is = refl

pub shown-is : {A : Type 0} (o : Option (Bor A)) (b : Bor A) (v : A) → o ≡ Some b → option_copied o ≡ Some v → b.now ≡ v
shown-is {A = A} o b v is shown = same_Some b.now v (sym (ap (λ (p : Option (Bor A)). option_copied p) is) ∙ shown)

pub if_none : {A : Type 0} (o : Option A) (P : Type 0) → o ≡ None → IfNone o P → P
if_none {A = A} o P is told = subst (λ (p : Option A). IfNone p P) is told

-- ---- which one is found

pub found_key : (n : ℕ) (es : List (ℕ × List Entry)) → is_some (key_of n es) ≡ has_sequence n (values_of es)
found_key n [] = refl
found_key n (e ∷ es) = elim (has_entry n e.1) as (λ (b : Bool). is_some (if b then Some e.0 else key_of n es) ≡ (b || has_sequence n (values_of es))) [
  | true ↦ refl
  | false ↦ found_key n es
]

pub no_key : (n : ℕ) (es : List (ℕ × List Entry)) → key_of n es ≡ None → HasSequence (values_of es) n → ⊥
no_key n es none has = false≢true (ap (λ (o : Option ℕ). is_some o) (sym none) ∙ found_key n es ∙ has)

key_there : (n k : ℕ) (es : List (ℕ × List Entry)) → key_of n es ≡ Some k → (block : List Entry) × Contains es (k, block) × IsTrue (has_entry n block)
key_there n k [] is = absurd (none-some k is)
key_there n k (e ∷ es) is = (elim (has_entry n e.1) as (λ (b : Bool). has_entry n e.1 ≡ b → (if b then Some e.0 else key_of n es) ≡ Some k
    → (block : List Entry) × Contains (e ∷ es) (k, block) × IsTrue (has_entry n block)) [
      | true ↦ λ has same. (e.1, subst (λ (j : ℕ). Contains (e ∷ es) (j, e.1)) (same_Some e.0 k same) (Contains-head e es), has)
      | false ↦ λ has same. let on = key_there n k es same in (on.0, Contains-tail e es (k, on.0) on.1, on.2)
    ]) refl is

-- where no key stands twice, it leads to that block
pub key_found : (n k : ℕ) (es : List (ℕ × List Entry)) → IsDistinct nat_eq (keys_of es) → key_of n es ≡ Some k → (block : List Entry) × (lookup (nat_eq k) es ≡ Some block) × IsTrue (has_entry n block)
key_found n k es distinct is = let it = key_there n k es is in (it.0, lookup-from_Contains nat_eq_equiv k it.0 es distinct it.1, it.2)

module _ (test : ℕ → Bool) where
  pub value_of : (P : List Entry → Type 0) (es : List (ℕ × List Entry)) (v : List Entry) → lookup test es ≡ Some v → AllByRecursion P (values_of es) → P v
  value_of P [] v is all = absurd (none-some v is)
  value_of P (e ∷ es) v is all = (elim (test e.0) as (λ (b : Bool). cond b (Some e.1) (lookup test es) ≡ Some v → P v) [
    | true ↦ λ same. subst P (same_Some e.1 v same) all.0
    | false ↦ λ same. value_of P es v same all.1
  ]) is

  pub value_has : (n : ℕ) (es : List (ℕ × List Entry)) (v : List Entry) → lookup test es ≡ Some v → IsTrue (has_entry n v) → HasSequence (values_of es) n
  value_has n [] v is has = absurd (none-some v is)
  value_has n (e ∷ es) v is has = (elim (test e.0) as (λ (b : Bool). cond b (Some e.1) (lookup test es) ≡ Some v → (has_entry n e.1 || has_sequence n (values_of es)) ≡ true) [
    | true ↦ λ same. ap (λ (b : Bool). b || has_sequence n (values_of es)) (ap (λ (l : List Entry). has_entry n l) (same_Some e.1 v same) ∙ has)
    | false ↦ λ same. or_second (has_entry n e.1) (has_sequence n (values_of es)) (value_has n es v same has)
  ]) is

  -- ---- one that is used

  removed : (n : ℕ) (es : List (ℕ × List Entry)) (e : ℕ × List Entry) → lookup_entry test es ≡ Some e
      → has_sequence n (values_of es) ≡ (has_entry n e.1 || has_sequence n (values_of (remove_entry test es)))
  removed n [] e is = absurd (none-some e is)
  removed n (f ∷ es) e is = (elim (test f.0) as (λ (b : Bool). cond b (Some f) (lookup_entry test es) ≡ Some e
      → (has_entry n f.1 || has_sequence n (values_of es)) ≡ (has_entry n e.1 || has_sequence n (values_of (cond b es (f ∷ remove_entry test es))))) [
        | true ↦ λ same. ap (λ (x : ℕ × List Entry). has_entry n x.1 || has_sequence n (values_of es)) (same_Some f e same)
        | false ↦ λ same. ap (λ (b : Bool). has_entry n f.1 || b) (removed n es e same) ∙ or_swap (has_entry n f.1) (has_entry n e.1) (has_sequence n (values_of (remove_entry test es)))
      ]) is

  promoted_by : (n : ℕ) (es : List (ℕ × List Entry)) (o : Option (ℕ × List Entry)) → lookup_entry test es ≡ o
      → has_sequence n (values_of (option_map_or (λ e. e ∷ remove_entry test es) o es)) ≡ has_sequence n (values_of es)
  promoted_by n es None is = refl
  promoted_by n es (Some e) is = sym (removed n es e is)

  pub has_promoted : (n : ℕ) (es : List (ℕ × List Entry)) → has_sequence n (values_of (promoted test es)) ≡ has_sequence n (values_of es)
  has_promoted n es = promoted_by n es (lookup_entry test es) refl

  module _ (P : ℕ × List Entry → Type 0) where
    all_removed : (es : List (ℕ × List Entry)) → AllByRecursion P es → AllByRecursion P (remove_entry test es)
    all_removed [] all = all
    all_removed (e ∷ es) all = elim (test e.0) as (λ (b : Bool). AllByRecursion P (cond b es (e ∷ remove_entry test es))) [
      | true ↦ all.1
      | false ↦ (all.0, all_removed es all.1)
    ]

    entry_of : (es : List (ℕ × List Entry)) (e : ℕ × List Entry) → lookup_entry test es ≡ Some e → AllByRecursion P es → P e
    entry_of [] e is all = absurd (none-some e is)
    entry_of (f ∷ es) e is all = (elim (test f.0) as (λ (b : Bool). cond b (Some f) (lookup_entry test es) ≡ Some e → P e) [
      | true ↦ λ same. subst P (same_Some f e same) all.0
      | false ↦ λ same. entry_of es e same all.1
    ]) is

    all_by : (es : List (ℕ × List Entry)) (o : Option (ℕ × List Entry)) → lookup_entry test es ≡ o → AllByRecursion P es → AllByRecursion P (option_map_or (λ e. e ∷ remove_entry test es) o es)
    all_by es None is all = all
    all_by es (Some e) is all = (entry_of es e is all, all_removed es all)

    pub all_promoted : (es : List (ℕ × List Entry)) → AllByRecursion P es → AllByRecursion P (promoted test es)
    all_promoted es all = all_by es (lookup_entry test es) refl all

-- ---- one that is put

all_take : (P : ℕ × List Entry → Type 0) (n : ℕ) (es : List (ℕ × List Entry)) → AllByRecursion P es → AllByRecursion P (take n es)
all_take P zero [] all = all
all_take P zero (e ∷ es) all = tt
all_take P (suc n) [] all = all
all_take P (suc n) (e ∷ es) all = (all.0, all_take P n es all.1)

module _ (c : LruCache ℕ (List Entry)) (k : ℕ) (v : List Entry) where
  put_by : (P : List Entry → Type 0) (o : Option (ℕ × List Entry)) → P v → AllByRecursion (λ kept. P kept.1) c.entries
      → AllByRecursion (λ kept. P kept.1) (option_map_or (λ e. (e.0, v) ∷ remove_entry (nat_eq k) c.entries) o ((k, v) ∷ take (c.cap - 1) c.entries))
  put_by P None here all = (here, all_take (λ kept. P kept.1) (c.cap - 1) c.entries all)
  put_by P (Some e) here all = (here, all_removed (nat_eq k) (λ kept. P kept.1) c.entries all)

  pub all_put : (P : List Entry → Type 0) → P v → AllByRecursion (λ kept. P kept.1) c.entries → AllByRecursion (λ kept. P kept.1) (put_entries nat_eq c k v)
  all_put P here all = put_by P (lookup_entry (nat_eq k) c.entries) here all

  has_by : (n : ℕ) (o : Option (ℕ × List Entry)) → IsTrue (has_entry n v) → HasSequence (values_of
      (option_map_or (λ e. (e.0, v) ∷ remove_entry (nat_eq k) c.entries) o ((k, v) ∷ take (c.cap - 1) c.entries))) n
  has_by n None has = ap (λ (b : Bool). b || has_sequence n (values_of (take (c.cap - 1) c.entries))) has
  has_by n (Some e) has = ap (λ (b : Bool). b || has_sequence n (values_of (remove_entry (nat_eq k) c.entries))) has

  pub has_put : (n : ℕ) → IsTrue (has_entry n v) → HasSequence (values_of (put_entries nat_eq c k v)) n
  has_put n has = has_by n (lookup_entry (nat_eq k) c.entries) has

-- what holds before and of what was put holds whether there was memory or not
pub put_either : {A E : Type 0} (r : Result A E) (P : LruCache ℕ (List Entry) → Type 0) (old new done : LruCache ℕ (List Entry)) → OnOk r (new ≡ done) → OnErr r (new ≡ old) → P old → P done → P new
put_either (Ok x) P old new done put stays before after = subst P (sym put) after
put_either (Err e) P old new done put stays before after = subst P (sym stays) before

-- ---- what holds of each

pub all_values : (P : List Entry → Type 0) (es : List (ℕ × List Entry)) → AllByRecursion (λ kept. P kept.1) es → AllByRecursion P (values_of es)
all_values P [] all = all
all_values P (e ∷ es) all = (all.0, all_values P es all.1)

pub all_kept : (P : List Entry → Type 0) (es : List (ℕ × List Entry)) → AllByRecursion P (values_of es) → AllByRecursion (λ kept. P kept.1) es
all_kept P [] all = all
all_kept P (e ∷ es) all = (all.0, all_kept P es all.1)
