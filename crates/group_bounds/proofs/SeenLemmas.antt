-- What acts show of each commit cycle decides whether they are closed, and the marks tell it.
use Rattle.std.proofs.Common.{◌≡◌, ℕ, ◌==◌, Bool, true, false, ◌&&◌, ◌||◌, not, cond, List, [], ◌∷◌, ◌++◌, Option, Some, None, nat_eq, refl, sym, ap, ◌∙◌, subst, arith}
use Rattle.std.specs.List.{list_any, list_all, cons_option}
use Rattle.std.proofs.lemmas.Bool.Decides.{nat_tests}
use Rattle.std.proofs.lemmas.List.Folds.{list_any-append}
use Rattle.journal_model.specs.Acts.{Act, Changed, Began, Committed, RolledBack, Journaled, Stood, Cleared, Reorganized, Ended, Nothing, Change, change_of, changes, is_number}
use Rattle.journal_model.specs.Closed.{begins, ends, is_whole, is_closed}
use Rattle.group_bounds.specs.declared.roles.Role.{Role}
use Rattle.group_bounds.specs.declared.roles.Role.TheVariants.{Changes, Begins, Ends, Other}
use Rattle.group_bounds.specs.declared.marks.Mark.{Mark}
use Rattle.group_bounds.specs.declared.marks.Mark.TheVariants.{Change as ChangeMark, Begin, End}
use Rattle.group_bounds.specs.declared.marks.Marks.{Marks}
use Rattle.group_bounds.specs.Walk.{Cycles, role_of, with_mark, is_open, marks_at, marked, opens}
use Rattle.group_bounds.proofs.CycleLemmas.{marks_at-insert, AreApart, apart-insert, none_open, opens-none}

abbrev in_cycle : ℕ → Option Change → Bool
in_cycle q None = false
in_cycle q (Some c) = is_number c.cycle q

abbrev pub changes_in : ℕ → Act → Bool
changes_in q a = in_cycle q (change_of a)

-- what acts show of a cycle
abbrev pub seen_of : ℕ → List Act → Marks
seen_of q acts = record { changed = list_any (changes_in q) acts; begun = list_any (begins q) acts; ended = list_any (ends q) acts }

-- ---- closed exactly where no cycle is open

closed-whole : (range : List Act) (q : ℕ) (acts : List Act) → list_all (λ (c : Change). is_whole range c.cycle) (changes acts) ≡ true → list_any (changes_in q) acts ≡ true
    → is_whole range (Some q) ≡ true
closed-whole range q [] h there = absurd (cc)
closed-whole range q (a ∷ acts) h there = at (change_of a) h there (closed-whole range q acts) where
  number : (o : Option ℕ) → is_number o q ≡ true → is_whole range o ≡ true → is_whole range (Some q) ≡ true
  number None same whole = absurd (cc)
  number (Some m) same whole = let e : m ≡ q = grind (arith, nat_tests) in subst (λ n. is_whole range (Some n) ≡ true) e whole

  parts : (a b : Bool) → a && b ≡ true → (a ≡ true) × (b ≡ true)
  parts a b h = grind (arith, nat_tests)

  some : (c : Change) (b : Bool) → is_number c.cycle q ≡ b → is_whole range c.cycle ≡ true → (list_any (changes_in q) acts ≡ true → is_whole range (Some q) ≡ true)
      → b || list_any (changes_in q) acts ≡ true → is_whole range (Some q) ≡ true
  some c true same whole more there = number c.cycle same whole
  some c false same whole more there = more there

  at : (o : Option Change) → list_all (λ (c : Change). is_whole range c.cycle) (cons_option o (changes acts)) ≡ true → in_cycle q o || list_any (changes_in q) acts ≡ true
      → (list_all (λ (c : Change). is_whole range c.cycle) (changes acts) ≡ true → list_any (changes_in q) acts ≡ true → is_whole range (Some q) ≡ true) → is_whole range (Some q) ≡ true
  at None h there more = more h there
  at (Some c) h there more = let p = parts (is_whole range c.cycle) (list_all (λ (c : Change). is_whole range c.cycle) (changes acts)) h in some c (is_number c.cycle q) refl p.0 (more p.1) there

pub whole-closed : (range acts : List Act) → ((q : ℕ) → list_any (changes_in q) acts ≡ true → is_whole range (Some q) ≡ true) → list_all (λ (c : Change). is_whole range c.cycle) (changes acts) ≡ true
whole-closed range [] h = refl
whole-closed range (a ∷ acts) h = at (change_of a) h (whole-closed range acts) where
  either : (a b : Bool) → b ≡ true → a || b ≡ true
  either a b h = grind (arith, nat_tests)

  first : (a b : Bool) → a ≡ true → a || b ≡ true
  first a b h = grind (arith, nat_tests)

  both : (a b : Bool) → a ≡ true → b ≡ true → a && b ≡ true
  both a b h k = grind (arith, nat_tests)

  here : (o : Option ℕ) → ((q : ℕ) → is_number o q || list_any (changes_in q) acts ≡ true → is_whole range (Some q) ≡ true) → is_whole range o ≡ true
  here None h = refl
  here (Some m) h = h m (first (nat_eq m m) (list_any (changes_in m) acts) (grind (arith, nat_tests)))

  at : (o : Option Change) → ((q : ℕ) → in_cycle q o || list_any (changes_in q) acts ≡ true → is_whole range (Some q) ≡ true)
      → (((q : ℕ) → list_any (changes_in q) acts ≡ true → is_whole range (Some q) ≡ true) → list_all (λ (c : Change). is_whole range c.cycle) (changes acts) ≡ true)
      → list_all (λ (c : Change). is_whole range c.cycle) (cons_option o (changes acts)) ≡ true
  at None h more = more h
  at (Some c) h more = both (is_whole range c.cycle) (list_all (λ (c : Change). is_whole range c.cycle) (changes acts)) (here c.cycle h)
      (more (λ q there. h q (either (is_number c.cycle q) (list_any (changes_in q) acts) there)))

pub closed-none : (acts : List Act) → is_closed acts ≡ true → (q : ℕ) → is_open (seen_of q acts) ≡ false
closed-none acts h q = at (list_any (changes_in q) acts) (closed-whole acts q acts h) where
  at : (b : Bool) → (b ≡ true → list_any (begins q) acts && list_any (ends q) acts ≡ true) → b && not (list_any (begins q) acts && list_any (ends q) acts) ≡ false
  at false f = refl
  at true f = ap not (f refl)

pub none-closed : (acts : List Act) → ((q : ℕ) → is_open (seen_of q acts) ≡ false) → is_closed acts ≡ true
none-closed acts none = whole-closed acts acts (λ q there. at (list_any (changes_in q) acts) (list_any (begins q) acts && list_any (ends q) acts) there (none q)) where
  at : (b c : Bool) → b ≡ true → b && not c ≡ false → c ≡ true
  at b c h k = grind (arith, nat_tests)

pub same_bool : (a b : Bool) → (a ≡ true → b ≡ true) → (b ≡ true → a ≡ true) → a ≡ b
same_bool true true f g = refl
same_bool true false f g = sym (f refl)
same_bool false true f g = g refl
same_bool false false f g = refl

pub is_closed-same : (xs ys : List Act) → ((q : ℕ) → seen_of q xs ≡ seen_of q ys) → is_closed xs ≡ is_closed ys
is_closed-same xs ys same = same_bool (is_closed xs) (is_closed ys)
    (λ h. none-closed ys (λ q. ap is_open (sym (same q)) ∙ closed-none xs h q))
    (λ h. none-closed xs (λ q. ap is_open (same q) ∙ closed-none ys h q))

-- ---- the marks

-- the marks tell what the acts show
pub record Sees (acts : List Act) (cycles : Cycles) : Type 0 where
  pub marks : (q : ℕ) → marks_at q cycles ≡ seen_of q acts
  pub apart : AreApart cycles

pub sees-closed : (acts : List Act) (cycles : Cycles) → Sees acts cycles → is_closed acts ≡ (opens cycles == 0)
sees-closed acts cycles s = same_bool (is_closed acts) (opens cycles == 0)
    (λ h. none_counted (opens-none cycles s.apart (λ q. ap is_open (s.marks q) ∙ closed-none acts h q)))
    (λ h. none-closed acts (λ q. ap is_open (sym (s.marks q)) ∙ none_open cycles (counted_none h) q))
  where
    none_counted : opens cycles ≡ 0 → (opens cycles == 0) ≡ true
    none_counted e = grind (arith, nat_tests)

    counted_none : (opens cycles == 0) ≡ true → opens cycles ≡ 0
    counted_none e = grind (arith, nat_tests)

abbrev joined : Marks → Marks → Marks
joined m k = record { changed = m.changed || k.changed; begun = m.begun || k.begun; ended = m.ended || k.ended }

pub same_marks : (a b c a' b' c' : Bool) → a ≡ a' → b ≡ b' → c ≡ c' → (let m : Marks = record { changed = a; begun = b; ended = c } in m) ≡ record { changed = a'; begun = b'; ended = c' }
same_marks a b c a' b' c' p q r = cc

seen_of-append : (q : ℕ) (xs ys : List Act) → seen_of q (xs ++ ys) ≡ joined (seen_of q xs) (seen_of q ys)
seen_of-append q xs ys = same_marks _ _ _ _ _ _ (list_any-append (changes_in q) xs ys) (list_any-append (begins q) xs ys) (list_any-append (ends q) xs ys)

or_none : (b : Bool) → b || false ≡ b
or_none true = refl
or_none false = refl

abbrev one_mark : Mark → Bool → Marks
one_mark ChangeMark b = record { changed = b || false; begun = false; ended = false }
one_mark Begin b = record { changed = false; begun = b || false; ended = false }
one_mark End b = record { changed = false; begun = false; ended = b || false }

or_one : (x b : Bool) → x || (b || false) ≡ cond b true x
or_one x b = grind (arith, nat_tests)

joined-none : (m : Marks) → joined m (record { changed = false; begun = false; ended = false }) ≡ m
joined-none m = same_marks _ _ _ m.changed m.begun m.ended (or_none m.changed) (or_none m.begun) (or_none m.ended)

joined-mark : (m : Marks) (mark : Mark) (b : Bool) → joined m (one_mark mark b) ≡ cond b (with_mark mark m) m
joined-mark m ChangeMark true = same_marks _ _ _ true m.begun m.ended (or_one m.changed true) (or_none m.begun) (or_none m.ended)
joined-mark m Begin true = same_marks _ _ _ m.changed true m.ended (or_none m.changed) (or_one m.begun true) (or_none m.ended)
joined-mark m End true = same_marks _ _ _ m.changed m.begun true (or_none m.changed) (or_none m.begun) (or_one m.ended true)
joined-mark m ChangeMark false = joined-none m
joined-mark m Begin false = joined-none m
joined-mark m End false = joined-none m

-- one act more that shows something of a cycle
sees-mark : (acts : List Act) (a : Act) (n : ℕ) (mark : Mark) (cycles : Cycles) → Sees acts cycles → ((q : ℕ) → seen_of q (a ∷ []) ≡ one_mark mark (nat_eq n q))
    → Sees (acts ++ a ∷ []) (marked n mark cycles)
sees-mark acts a n mark cycles s shows = record {
  marks = λ q. marks_at-insert q n (with_mark mark (marks_at n cycles)) cycles ∙ here q (nat_eq q n) refl
      ∙ sym (seen_of-append q acts (a ∷ []) ∙ ap (joined (seen_of q acts)) (shows q) ∙ joined-mark (seen_of q acts) mark (nat_eq n q));
  apart = apart-insert n (with_mark mark (marks_at n cycles)) cycles s.apart;
}
  where
    turned : (q : ℕ) (b : Bool) → nat_eq q n ≡ b → b ≡ nat_eq n q
    turned q b e = grind (arith, nat_tests)

    alike : (q : ℕ) → nat_eq q n ≡ true → n ≡ q
    alike q e = grind (arith, nat_tests)

    here : (q : ℕ) (b : Bool) → nat_eq q n ≡ b → cond b (with_mark mark (marks_at n cycles)) (marks_at q cycles) ≡ cond (nat_eq n q) (with_mark mark (seen_of q acts)) (seen_of q acts)
    here q true e = ap (with_mark mark) (ap (λ k. marks_at k cycles) (alike q e) ∙ s.marks q) ∙ ap (λ b. cond b (with_mark mark (seen_of q acts)) (seen_of q acts)) (turned q true e)
    here q false e = s.marks q ∙ ap (λ b. cond b (with_mark mark (seen_of q acts)) (seen_of q acts)) (turned q false e)

-- one act more that shows nothing of any
sees-none : (acts : List Act) (a : Act) (cycles : Cycles) → Sees acts cycles → ((q : ℕ) → seen_of q (a ∷ []) ≡ record { changed = false; begun = false; ended = false }) → Sees (acts ++ a ∷ []) cycles
sees-none acts a cycles s shows = record {
  marks = λ q. s.marks q ∙ sym (seen_of-append q acts (a ∷ []) ∙ ap (joined (seen_of q acts)) (shows q) ∙ joined-none (seen_of q acts));
  apart = s.apart;
}

-- the cycles once an act is noted
abbrev pub cycles_with : Role → Cycles → Cycles
cycles_with (Changes None) cycles = cycles
cycles_with (Changes (Some n)) cycles = marked n ChangeMark cycles
cycles_with (Begins n) cycles = marked n Begin cycles
cycles_with (Ends n) cycles = marked n End cycles
cycles_with Other cycles = cycles

sees-change : (acts : List Act) (c : Change) (cycle : Option ℕ) (cycles : Cycles) → c.cycle ≡ cycle → Sees acts cycles → Sees (acts ++ Changed c ∷ []) (cycles_with (Changes cycle) cycles)
sees-change acts c None cycles e s = sees-none acts (Changed c) cycles s (λ q. same_marks _ _ _ _ _ _ (ap (λ (o : Option ℕ). is_number o q || false) e) refl refl)
sees-change acts c (Some n) cycles e s = sees-mark acts (Changed c) n ChangeMark cycles s (λ q. same_marks _ _ _ _ _ _ (ap (λ (o : Option ℕ). is_number o q || false) e) refl refl)

pub sees-more : (acts : List Act) (a : Act) (cycles : Cycles) → Sees acts cycles → Sees (acts ++ a ∷ []) (cycles_with (role_of a) cycles)
sees-more acts (Changed c) cycles s = sees-change acts c c.cycle cycles refl s
sees-more acts (Began n) cycles s = sees-mark acts (Began n) n Begin cycles s (λ q. refl)
sees-more acts (Committed n) cycles s = sees-mark acts (Committed n) n End cycles s (λ q. refl)
sees-more acts (RolledBack n) cycles s = sees-mark acts (RolledBack n) n End cycles s (λ q. refl)
sees-more acts (Journaled images slots) cycles s = sees-none acts (Journaled images slots) cycles s (λ q. refl)
sees-more acts (Stood place image) cycles s = sees-none acts (Stood place image) cycles s (λ q. refl)
sees-more acts Cleared cycles s = sees-none acts Cleared cycles s (λ q. refl)
sees-more acts Reorganized cycles s = sees-none acts Reorganized cycles s (λ q. refl)
sees-more acts Ended cycles s = sees-none acts Ended cycles s (λ q. refl)
sees-more acts Nothing cycles s = sees-none acts Nothing cycles s (λ q. refl)
