-- An area's bytes are one list of roots, or are damaged at one place, and never both.
use Rattle.std.proofs.Common.{◌≡◌, inl, inr, ℕ, ◌+◌, List, [], ◌∷◌, ◌++◌, refl, sym, ◌∙◌, ap, subst}
use Rattle.std.specs.List.{AllByRecursion}
use Rattle.gated_log.specs.Blocks.{extent, sizes}
use Rattle.gated_log.proofs.Unique.{one_list as one_list_in, one_damage as one_damage_in, never_both as never_both_in}
use Rattle.checkpoint.specs.declared.layout.TheConstants.{ROOT_AREA, VERSION, FIRST_BLOCK}
use Rattle.checkpoint.specs.declared.root.Root.{Root}
use Rattle.checkpoint.specs.Roots.{AreRoots, BreaksAtRoot, IsNoRoot, IsRoot, IsRootFaultAt, IsRootsDamagedAt, root_blocks, root_bytes}
use Rattle.checkpoint.proofs.RootBytes.{one_root}

-- ---- lists

heads : {A : Type 0} (a b : A) (xs ys : List A) → a ∷ xs ≡ b ∷ ys → (a ≡ b) × (xs ≡ ys)
heads a b xs ys same = (cc, cc)

pub no_cons : {A : Type 0} (a : A) (xs : List A) → [] ≡ a ∷ xs → ⊥
no_cons a xs same = absurd cc

pub no_push : {A : Type 0} (xs : List A) (x : A) (ys : List A) → [] ≡ xs ++ x ∷ ys → ⊥
no_push [] x ys same = no_cons x ys same
no_push (y ∷ xs) x ys same = no_cons y (xs ++ x ∷ ys) same

-- lists with one more at the end
pub ends : {A : Type 0} (xs ys : List A) (x y : A) → xs ++ x ∷ [] ≡ ys ++ y ∷ [] → (xs ≡ ys) × (x ≡ y)
ends [] [] x y same = (refl, (heads x y [] [] same).0)
ends [] (b ∷ ys) x y same = absurd (no_push ys y [] (heads x b [] (ys ++ y ∷ []) same).1)
ends (a ∷ xs) [] x y same = absurd (no_push xs x [] (sym (heads a y (xs ++ x ∷ []) [] same).1))
ends (a ∷ xs) (b ∷ ys) x y same =
    let parts = heads a b (xs ++ x ∷ []) (ys ++ y ∷ []) same in
    let more = ends xs ys x y parts.1 in
    (cc, more.1)

pub all-push : {A : Type 0} (P : A → Type 0) (xs : List A) (x : A) → AllByRecursion P xs → P x → AllByRecursion P (xs ++ x ∷ [])
all-push P [] x all one = (one, tt)
all-push P (y ∷ xs) x all one = (all.0, all-push P xs x all.1 one)

-- ---- blocks of roots

blocks_same : (xs ys : List Root) → AllByRecursion IsRoot xs → AllByRecursion IsRoot ys → root_blocks xs ≡ root_blocks ys → xs ≡ ys
blocks_same [] [] all each same = refl
blocks_same [] (y ∷ ys) all each same = absurd (no_cons (root_bytes y) (root_blocks ys) same)
blocks_same (x ∷ xs) [] all each same = absurd (no_cons (root_bytes x) (root_blocks xs) (sym same))
blocks_same (x ∷ xs) (y ∷ ys) all each same =
    let parts = heads (root_bytes x) (root_bytes y) (root_blocks xs) (root_blocks ys) same in
    let one = one_root x y all.0 each.0 parts.0 in
    let more = blocks_same xs ys all.1 each.1 parts.1 in
    cc

-- a block that is none stands among no roots
none_among : (front roots : List Root) (block : List ℕ) (rest : List (List ℕ)) → AllByRecursion IsRoot roots → IsNoRoot block → root_blocks front ++ block ∷ rest ≡ root_blocks roots → ⊥
none_among [] [] block rest each none same = no_cons block rest (sym same)
none_among [] (y ∷ ys) block rest each none same = none y each.0 (heads block (root_bytes y) rest (root_blocks ys) same).0
none_among (x ∷ xs) [] block rest each none same = no_cons (root_bytes x) (root_blocks xs ++ block ∷ rest) (sym same)
none_among (x ∷ xs) (y ∷ ys) block rest each none same = none_among xs ys block rest each.1 none (heads (root_bytes x) (root_bytes y) (root_blocks xs ++ block ∷ rest) (root_blocks ys) same).1

-- the first one that is none stands behind the same blocks
one_front : (xs ys : List Root) (b c : List ℕ) (r s : List (List ℕ)) → AllByRecursion IsRoot xs → AllByRecursion IsRoot ys → IsNoRoot b → IsNoRoot c → root_blocks xs ++ b ∷ r ≡ root_blocks ys ++ c ∷ s → root_blocks xs ≡ root_blocks ys
one_front [] [] b c r s all each none other same = refl
one_front [] (y ∷ ys) b c r s all each none other same = absurd (none y each.0 (heads b (root_bytes y) r (root_blocks ys ++ c ∷ s) same).0)
one_front (x ∷ xs) [] b c r s all each none other same = absurd (other x all.0 (sym (heads (root_bytes x) c (root_blocks xs ++ b ∷ r) s same).0))
one_front (x ∷ xs) (y ∷ ys) b c r s all each none other same =
    let parts = heads (root_bytes x) (root_bytes y) (root_blocks xs ++ b ∷ r) (root_blocks ys ++ c ∷ s) same in
    let first = parts.0 in
    let more = one_front xs ys b c r s all.1 each.1 none other parts.1 in
    cc

-- ---- the laws

pub one_list : (earlier others : List Root) (last other : Root) (bytes : List ℕ) → AreRoots earlier last bytes → AreRoots others other bytes → (earlier ≡ others) × (last ≡ other)
one_list earlier others last other bytes are same =
    ends earlier others last other
    (blocks_same (earlier ++ last ∷ []) (others ++ other ∷ []) (all-push IsRoot earlier last are.each are.is_root) (all-push IsRoot others other same.each same.is_root)
    (one_list_in ROOT_AREA 0 VERSION 0 VERSION _ _ bytes are.spells same.spells).2)

one_break : (blocks : List (List ℕ)) (at other : ℕ) → BreaksAtRoot blocks at → BreaksAtRoot blocks other → at ≡ other
one_break blocks at other a b =
    let same = one_front a.front b.front a.block b.block a.rest b.rest a.each b.each a.none b.none (sym a.whole ∙ b.whole) in
    a.place ∙ ap (λ (l : List (List ℕ)). FIRST_BLOCK + extent (sizes l)) same ∙ sym b.place

no_break : (blocks : List (List ℕ)) (at : ℕ) → blocks ≡ [] → BreaksAtRoot blocks at → ⊥
no_break blocks at none breaks = no_push (root_blocks breaks.front) breaks.block breaks.rest (sym none ∙ breaks.whole)

one_fault : (blocks : List (List ℕ)) (at other : ℕ) → IsRootFaultAt blocks at → IsRootFaultAt blocks other → at ≡ other
one_fault blocks at other (inl a) (inl b) = a.1 ∙ sym b.1
one_fault blocks at other (inl a) (inr b) = absurd (no_break blocks other a.0 b)
one_fault blocks at other (inr a) (inl b) = absurd (no_break blocks at b.0 a)
one_fault blocks at other (inr a) (inr b) = one_break blocks at other a b

pub one_damage : (bytes : List ℕ) (at other : ℕ) → IsRootsDamagedAt bytes at → IsRootsDamagedAt bytes other → at ≡ other
one_damage bytes at other (inl a) (inl b) = one_damage_in ROOT_AREA at other bytes a b
one_damage bytes at other (inl a) (inr (blocks, spells, fault)) = absurd (never_both_in ROOT_AREA 0 VERSION at blocks bytes a spells)
one_damage bytes at other (inr (blocks, spells, fault)) (inl b) = absurd (never_both_in ROOT_AREA 0 VERSION other blocks bytes b spells)
one_damage bytes at other (inr (blocks, spells, fault)) (inr (others, same, more)) =
    let one = (one_list_in ROOT_AREA 0 VERSION 0 VERSION blocks others bytes spells same).2 in
    one_fault blocks at other fault (subst (λ (l : List (List ℕ)). IsRootFaultAt l other) (sym one) more)

no_fault : (earlier : List Root) (last : Root) (at : ℕ) → AllByRecursion IsRoot (earlier ++ last ∷ []) → IsRootFaultAt (root_blocks (earlier ++ last ∷ [])) at → ⊥
no_fault earlier last at each (inl none) = no_root_blocks earlier last (sym none.0)
  where
    no_root_blocks : (earlier : List Root) (last : Root) → [] ≡ root_blocks (earlier ++ last ∷ []) → ⊥
    no_root_blocks [] last same = no_cons (root_bytes last) [] same
    no_root_blocks (x ∷ xs) last same = no_cons (root_bytes x) (root_blocks (xs ++ last ∷ [])) same
no_fault earlier last at each (inr breaks) = none_among breaks.front (earlier ++ last ∷ []) breaks.block breaks.rest each breaks.none (sym breaks.whole)

pub never_both : (earlier : List Root) (last : Root) (bytes : List ℕ) (at : ℕ) → IsRootsDamagedAt bytes at → AreRoots earlier last bytes → ⊥
never_both earlier last bytes at (inl a) are = never_both_in ROOT_AREA 0 VERSION at (root_blocks (earlier ++ last ∷ [])) bytes a are.spells
never_both earlier last bytes at (inr (blocks, spells, fault)) are =
    let one = (one_list_in ROOT_AREA 0 VERSION 0 VERSION blocks (root_blocks (earlier ++ last ∷ [])) bytes spells are.spells).2 in
    no_fault earlier last at (all-push IsRoot earlier last are.each are.is_root) (subst (λ (l : List (List ℕ)). IsRootFaultAt l at) one fault)
