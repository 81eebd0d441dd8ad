-- Commit cycles found by their numbers, and how many of them are open.
use Rattle.std.proofs.Common.{◌≡◌, ℕ, ◌+◌, ◌≤◌, Bool, true, false, cond, [], ◌∷◌, length, Option, Some, None, nat_eq, unwrap_or, refl, sym, ap, ◌∙◌, arith}
use Rattle.std.specs.Map.{lookup}
use Rattle.std.proofs.lemmas.Bool.Decides.{nat_tests}
use Rattle.indexmap.specs.IndexMap.{insert_entry}
use Rattle.group_bounds.specs.declared.marks.Marks.{Marks}
use Rattle.group_bounds.specs.Walk.{Cycles, unmarked, is_open, one_open, marks_at, opens}

pub lookup-insert : (q k : ℕ) (v : Marks) (es : Cycles) → lookup (nat_eq q) (insert_entry nat_eq es k v) ≡ cond (nat_eq q k) (Some v) (lookup (nat_eq q) es)
lookup-insert q k v [] = refl
lookup-insert q k v (e ∷ es) = grind (arith, nat_tests, lookup-insert q k v es)

marks_from : Option Marks → Marks
marks_from o = unwrap_or o unmarked

-- what was seen of a cycle, once something is put down of one
pub marks_at-insert : (q k : ℕ) (v : Marks) (es : Cycles) → marks_at q (insert_entry nat_eq es k v) ≡ cond (nat_eq q k) v (marks_at q es)
marks_at-insert q k v es = ap (λ (o : Option Marks). unwrap_or o unmarked) (lookup-insert q k v es) ∙ at (nat_eq q k) where
  at : (b : Bool) → unwrap_or (cond b (Some v) (lookup (nat_eq q) es)) unmarked ≡ cond b v (marks_at q es)
  at true = refl
  at false = refl

pub opens-insert : (k : ℕ) (v : Marks) (es : Cycles) → opens (insert_entry nat_eq es k v) + one_open (marks_at k es) ≡ opens es + one_open v
opens-insert k v [] = omega arith
opens-insert k v (e ∷ es) = at (nat_eq k e.0) (opens-insert k v es) where
  at : (b : Bool) → opens (insert_entry nat_eq es k v) + one_open (marks_at k es) ≡ opens es + one_open v
      → opens (cond b ((e.0, v) ∷ es) (e ∷ insert_entry nat_eq es k v)) + one_open (unwrap_or (cond b (Some e.1) (lookup (nat_eq k) es)) unmarked) ≡ (one_open e.1 + opens es) + one_open v
  at true more = omega arith
  at false more = omega arith

pub opens-within : (es : Cycles) → opens es ≤ length es
opens-within [] = omega arith
opens-within (e ∷ es) = at (is_open e.1) (opens-within es) where
  at : (b : Bool) → opens es ≤ length es → cond b 1 0 + opens es ≤ length (e ∷ es)
  at true more = omega arith
  at false more = omega arith

pub one_open-within : (k : ℕ) (es : Cycles) → one_open (marks_at k es) ≤ opens es
one_open-within k [] = omega arith
one_open-within k (e ∷ es) = at (nat_eq k e.0) (one_open-within k es) where
  at : (b : Bool) → one_open (marks_at k es) ≤ opens es → one_open (unwrap_or (cond b (Some e.1) (lookup (nat_eq k) es)) unmarked) ≤ one_open e.1 + opens es
  at true more = omega arith
  at false more = omega arith

-- ---- no cycle stands there twice

abbrev pub AreApart : Cycles → Type 0
AreApart [] = Unit {0}
AreApart (e ∷ es) = (lookup (nat_eq e.0) es ≡ None) × AreApart es

pub apart-insert : (k : ℕ) (v : Marks) (es : Cycles) → AreApart es → AreApart (insert_entry nat_eq es k v)
apart-insert k v [] h = (refl, tt)
apart-insert k v (e ∷ es) h = at (nat_eq k e.0) refl (apart-insert k v es h.1) where
  differs : nat_eq k e.0 ≡ false → nat_eq e.0 k ≡ false
  differs e = grind (arith, nat_tests)

  at : (b : Bool) → nat_eq k e.0 ≡ b → AreApart (insert_entry nat_eq es k v) → AreApart (cond b ((e.0, v) ∷ es) (e ∷ insert_entry nat_eq es k v))
  at true same more = (h.0, h.1)
  at false other more = (lookup-insert e.0 k v es ∙ ap (λ b. cond b (Some v) (lookup (nat_eq e.0) es)) (differs other) ∙ h.0, more)

-- none of the cycles is open exactly where none is counted
pub none_open : (es : Cycles) → opens es ≡ 0 → (q : ℕ) → is_open (marks_at q es) ≡ false
none_open [] h q = refl
none_open (e ∷ es) h q = at (nat_eq q e.0) (is_open e.1) refl (none_open es) h where
  at : (b c : Bool) → is_open e.1 ≡ c → (opens es ≡ 0 → (q : ℕ) → is_open (marks_at q es) ≡ false) → cond c 1 0 + opens es ≡ 0
      → is_open (unwrap_or (cond b (Some e.1) (lookup (nat_eq q) es)) unmarked) ≡ false
  at true true same more sum = absurd (omega arith)
  at true false same more sum = same
  at false c same more sum = more (omega arith) q

pub opens-none : (es : Cycles) → AreApart es → ((q : ℕ) → is_open (marks_at q es) ≡ false) → opens es ≡ 0
opens-none [] apart none = refl
opens-none (e ∷ es) apart none =
    let here : is_open e.1 ≡ false = found (nat_eq e.0 e.0) (grind (arith, nat_tests)) (none e.0) in
    let more : opens es ≡ 0 = opens-none es apart.1 (λ q. behind q (nat_eq q e.0) refl (none q)) in
    ap (λ b. cond b 1 0 + opens es) here ∙ omega arith
  where
    found : (b : Bool) → b ≡ true → is_open (unwrap_or (cond b (Some e.1) (lookup (nat_eq e.0) es)) unmarked) ≡ false → is_open e.1 ≡ false
    found true same h = h
    found false same h = absurd (cc)

    alike : (q : ℕ) → nat_eq q e.0 ≡ true → e.0 ≡ q
    alike q same = grind (arith, nat_tests)

    behind : (q : ℕ) (b : Bool) → nat_eq q e.0 ≡ b → is_open (unwrap_or (cond b (Some e.1) (lookup (nat_eq q) es)) unmarked) ≡ false → is_open (marks_at q es) ≡ false
    behind q true same h = ap (λ n. is_open (marks_at n es)) (sym (alike q same)) ∙ ap (λ (o : Option Marks). is_open (unwrap_or o unmarked)) apart.0
    behind q false same h = h
