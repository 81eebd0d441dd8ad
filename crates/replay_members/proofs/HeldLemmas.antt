-- What is found in a map by a member's number, and what becomes of its entries.
use Rattle.std.proofs.Common.{◌≡◌, ◌<◌, ◌≤◌, ◌+◌, arith, ℕ, Bool, true, false, ◌==◌, ◌||◌, not, cond, nat_eq, List, [], ◌∷◌, ◌++◌, map, Some, None, refl, sym, ap, ◌∙◌, subst}
use Rattle.std.specs.List.{filter, find, AllByRecursion, IsDistinct}
use Rattle.std.specs.Option.{is_some, option_map, option_map_or}
use Rattle.std.specs.Map.{lookup, set_value, keys_of}
use Rattle.std.specs.Str.{bytes_eq}
use Rattle.std.proofs.lemmas.Bool.{eqb-true, eq-eqb, ne_eqb}
use Rattle.journal_model.specs.Acts.{Act}
use Rattle.journal_model.specs.Catalogue.{CatalogMember, has_number}
use Rattle.journal_replay.specs.Standing.{HeldMember, catalog_member, slots_at, member_by}
use Rattle.journal_replay.specs.Left.{is_held}
use Rattle.replay_members.specs.Bodies.{Body, body_by, held, with_act, AreBelow}

flip : (a b : ℕ) → (a == b) ≡ (b == a)
flip a b = at (a == b) refl where
  at : (t : Bool) → (a == b) ≡ t → t ≡ (b == a)
  at true e = sym (eq-eqb b a (sym (eqb-true a b e)))
  at false e = sym (ne_eqb b a (λ same. let t = eq-eqb a b (sym same) in absurd cc))

some_equal : {A : Type 0} {a b : A} → Some a ≡ Some b → a ≡ b
some_equal e = cc

-- ---- members by their numbers

pub held-there : (number : ℕ) (es : List (ℕ × Body)) → is_held number (map held es) ≡ is_some (lookup (nat_eq number) es)
held-there number [] = refl
held-there number (e ∷ es) = ap (λ (b : Bool). b || is_held number (map held es)) (flip e.0 number) ∙ at (nat_eq number e.0) (held-there number es) where
  at : (b : Bool) → is_held number (map held es) ≡ is_some (lookup (nat_eq number) es) → b || is_held number (map held es) ≡ is_some (cond b (Some e.1) (lookup (nat_eq number) es))
  at true more = refl
  at false more = more

pub held-slots : (number : ℕ) (es : List (ℕ × Body)) → slots_at number (map held es) ≡ option_map_or (λ (b : Body). b.slots) (lookup (nat_eq number) es) []
held-slots number [] = refl
held-slots number (e ∷ es) = ap (λ (b : Bool). cond b e.1.slots (slots_at number (map held es))) (flip e.0 number) ∙ at (nat_eq number e.0) (held-slots number es) where
  at : (b : Bool) → slots_at number (map held es) ≡ option_map_or (λ (b : Body). b.slots) (lookup (nat_eq number) es) []
      → cond b e.1.slots (slots_at number (map held es)) ≡ option_map_or (λ (b : Body). b.slots) (cond b (Some e.1) (lookup (nat_eq number) es)) []
  at true more = refl
  at false more = more

pub held-catalogued : (number : ℕ) (es : List (ℕ × Body)) → find (has_number (Some number)) (map catalog_member (map held es)) ≡ option_map (λ (b : Body). catalog_member (held (number, b))) (lookup (nat_eq number) es)
held-catalogued number [] = refl
held-catalogued number (e ∷ es) = at (number == e.0) refl (held-catalogued number es) where
  at : (b : Bool) → (number == e.0) ≡ b → find (has_number (Some number)) (map catalog_member (map held es)) ≡ option_map (λ (b : Body). catalog_member (held (number, b))) (lookup (nat_eq number) es)
      → cond b (Some (catalog_member (held e))) (find (has_number (Some number)) (map catalog_member (map held es)))
      ≡ option_map (λ (b : Body). catalog_member (held (number, b))) (cond b (Some e.1) (lookup (nat_eq number) es))
  at true same more = ap (λ (n : ℕ). Some (catalog_member (held (n, e.1)))) (sym (eqb-true number e.0 same))
  at false same more = more

-- without a number none is found
pub none-numbered : (members : List CatalogMember) → find (has_number None) members ≡ None
none-numbered [] = refl
none-numbered (m ∷ members) = none-numbered members

acted-others : (number : ℕ) (a : Act) (sequence : ℕ) (es : List (ℕ × Body)) → AllByRecursion (λ other. nat_eq number other ≡ false) (keys_of es) → with_act number a sequence (map held es) ≡ map held es
acted-others number a sequence [] all = refl
acted-others number a sequence (e ∷ es) all =
    ap (λ (b : Bool). cond b (member_by a sequence (held e)) (held e) ∷ with_act number a sequence (map held es)) (flip e.0 number ∙ all.0)
    ∙ ap (λ (rest : List HeldMember). held e ∷ rest) (acted-others number a sequence es all.1)

pub held-acted : (number : ℕ) (a : Act) (sequence : ℕ) (body : Body) (es : List (ℕ × Body)) → IsDistinct nat_eq (keys_of es) → lookup (nat_eq number) es ≡ Some body
    → map held (set_value (nat_eq number) es (body_by a sequence body)) ≡ with_act number a sequence (map held es)
unfolding IsDistinct
held-acted number a sequence body [] distinct there = refl
held-acted number a sequence body (e ∷ es) distinct there = at (nat_eq number e.0) refl there (held-acted number a sequence body es distinct.1) where
  at : (b : Bool) → nat_eq number e.0 ≡ b → cond b (Some e.1) (lookup (nat_eq number) es) ≡ Some body
      → (lookup (nat_eq number) es ≡ Some body → map held (set_value (nat_eq number) es (body_by a sequence body)) ≡ with_act number a sequence (map held es))
      → map held (cond b ((e.0, body_by a sequence body) ∷ es) (e ∷ set_value (nat_eq number) es (body_by a sequence body)))
      ≡ cond (e.0 == number) (member_by a sequence (held e)) (held e) ∷ with_act number a sequence (map held es)
  at true same is more =
      ap (λ (x : Body). held (e.0, body_by a sequence x) ∷ map held es) (sym (some_equal is))
      ∙ ap (λ (rest : List HeldMember). held (e.0, body_by a sequence e.1) ∷ rest)
      (sym (acted-others number a sequence es (subst (λ (n : ℕ). AllByRecursion (λ other. nat_eq n other ≡ false) (keys_of es)) (sym (eqb-true number e.0 same)) distinct.0)))
      ∙ ap (λ (b : Bool). cond b (member_by a sequence (held e)) (held e) ∷ with_act number a sequence (map held es)) (sym (flip e.0 number ∙ same))
  at false differs is more =
      ap (λ (rest : List HeldMember). held e ∷ rest) (more is)
      ∙ ap (λ (b : Bool). cond b (member_by a sequence (held e)) (held e) ∷ with_act number a sequence (map held es)) (sym (flip e.0 number ∙ differs))

pub held-push : (number : ℕ) (body : Body) (es : List (ℕ × Body)) → map held (es ++ (number, body) ∷ []) ≡ map held es ++ held (number, body) ∷ []
held-push number body [] = refl
held-push number body (e ∷ es) = ap (λ (rest : List HeldMember). held e ∷ rest) (held-push number body es)

pub held-filter : (file : List ℕ) (es : List (ℕ × Body)) → map held (filter (λ (e : ℕ × Body). not (bytes_eq e.1.file file)) es) ≡ filter (λ (m : HeldMember). not (bytes_eq m.file file)) (map held es)
held-filter file [] = refl
held-filter file (e ∷ es) = at (not (bytes_eq e.1.file file)) (held-filter file es) where
  at : (b : Bool) → map held (filter (λ (e : ℕ × Body). not (bytes_eq e.1.file file)) es) ≡ filter (λ (m : HeldMember). not (bytes_eq m.file file)) (map held es)
      → map held (cond b (e ∷ filter (λ (e : ℕ × Body). not (bytes_eq e.1.file file)) es) (filter (λ (e : ℕ × Body). not (bytes_eq e.1.file file)) es))
      ≡ cond b (held e ∷ filter (λ (m : HeldMember). not (bytes_eq m.file file)) (map held es)) (filter (λ (m : HeldMember). not (bytes_eq m.file file)) (map held es))
  at true more = ap (λ (rest : List HeldMember). held e ∷ rest) more
  at false more = more

-- ---- numbers below the next one

pub below-absent : (next number : ℕ) (es : List (ℕ × Body)) → next ≤ number → AreBelow next (map held es) → lookup (nat_eq number) es ≡ None
below-absent next number [] above h = refl
below-absent next number (e ∷ es) above h = at (nat_eq number e.0) refl h.0 (below-absent next number es above h.1) where
  at : (b : Bool) → nat_eq number e.0 ≡ b → e.0 < next → lookup (nat_eq number) es ≡ None → cond b (Some e.1) (lookup (nat_eq number) es) ≡ None
  at true same below more = absurd (omega (arith, eqb-true number e.0 same, above))
  at false same below more = more

-- numbers below one are below a greater one
pub below-weaker : (next later : ℕ) (members : List HeldMember) → next ≤ later → AreBelow next members → AreBelow later members
below-weaker next later [] above h = tt
below-weaker next later (m ∷ members) above h = let below = h.0 in (omega (arith, below, above), below-weaker next later members above h.1)

below-push : (next : ℕ) (m : HeldMember) (members : List HeldMember) → m.number < next → AreBelow next members → AreBelow next (members ++ m ∷ [])
below-push next m [] below h = (below, tt)
below-push next m (x ∷ members) below h = (h.0, below-push next m members below h.1)

-- one member more, with a number that is no less
pub below-more : (next number : ℕ) (body : Body) (members : List HeldMember) → next ≤ number → AreBelow next members → AreBelow (number + 1) (members ++ held (number, body) ∷ [])
below-more next number body members above h = below-push (number + 1) (held (number, body)) members (omega arith) (below-weaker next (number + 1) members (omega (arith, above)) h)

pub below-filter : (next : ℕ) (p : HeldMember → Bool) (members : List HeldMember) → AreBelow next members → AreBelow next (filter p members)
below-filter next p [] h = tt
below-filter next p (m ∷ members) h = at (p m) (below-filter next p members h.1) where
  at : (b : Bool) → AreBelow next (filter p members) → AreBelow next (cond b (m ∷ filter p members) (filter p members))
  at true more = (h.0, more)
  at false more = more

-- an act of a member that isn't there leaves the others
pub held-missing : (number : ℕ) (a : Act) (sequence : ℕ) (es : List (ℕ × Body)) → lookup (nat_eq number) es ≡ None → with_act number a sequence (map held es) ≡ map held es
held-missing number a sequence [] h = refl
held-missing number a sequence (e ∷ es) h = ap (λ (b : Bool). cond b (member_by a sequence (held e)) (held e) ∷ with_act number a sequence (map held es)) (flip e.0 number)
    ∙ at (nat_eq number e.0) h (held-missing number a sequence es) where
      at : (b : Bool) → cond b (Some e.1) (lookup (nat_eq number) es) ≡ None → (lookup (nat_eq number) es ≡ None → with_act number a sequence (map held es) ≡ map held es)
          → cond b (member_by a sequence (held e)) (held e) ∷ with_act number a sequence (map held es) ≡ held e ∷ map held es
      at true h more = absurd cc
      at false h more = ap (λ (rest : List HeldMember). held e ∷ rest) (more h)

-- whatever the body of one becomes, the numbers stay
pub below-set : (next : ℕ) (test : ℕ → Bool) (body : Body) (es : List (ℕ × Body)) → AreBelow next (map held es) → AreBelow next (map held (set_value test es body))
below-set next test body [] h = tt
below-set next test body (e ∷ es) h = at (test e.0) (below-set next test body es h.1) where
  at : (b : Bool) → AreBelow next (map held (set_value test es body)) → AreBelow next (map held (cond b ((e.0, body) ∷ es) (e ∷ set_value test es body)))
  at true more = (h.0, h.1)
  at false more = (h.0, more)
