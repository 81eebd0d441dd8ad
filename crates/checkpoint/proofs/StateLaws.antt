-- The area of a state holds one list of entries, or is damaged at one place, and never both.
use Rattle.std.proofs.Common.{◌≡◌, inl, inr, ℕ, ◌+◌, List, [], ◌∷◌, ◌++◌, length, refl, sym, ◌∙◌, ap, subst, arith, append_assoc, length-append}
use Rattle.std.specs.List.{AllByRecursion}
use Rattle.std.proofs.lemmas.List.{append-nil}
use Rattle.store_model.specs.Disk.{Areas}
use Rattle.entry_codec.specs.declared.entries.Entry.{Entry}
use Rattle.entry_codec.specs.Spelling.{IsSpelled, spelling}
use Rattle.entry_codec.proofs.EntryLaws.{one_spelling}
use Rattle.entry_codec.proofs.Lengths.{length-spelling}
use Rattle.gated_log.proofs.Unique.{one_list as one_list_in, one_damage as one_damage_in, never_both as never_both_in}
use Rattle.checkpoint.specs.declared.layout.TheConstants.{VERSION, FIRST_BYTE}
use Rattle.checkpoint.specs.declared.root.Root.{Root}
use Rattle.checkpoint.specs.States.{BreaksAtEntry, HasNoEntry, IsNotOneAt, IsSaved, IsStateDamagedAt, IsStateFaultAt, IsStateIn, spelled}

heads : {A : Type 0} (a b : A) (xs ys : List A) → a ∷ xs ≡ b ∷ ys → (a ≡ b) × (xs ≡ ys)
heads a b xs ys same = (cc, cc)

-- ---- entries

some_bytes : (e : Entry) (rest : List ℕ) → [] ≡ spelling e ++ rest → ⊥
some_bytes e rest same = omega (arith, ap (λ (l : List ℕ). length l) same, length-append (spelling e) rest, length-spelling e)

-- entries at the front are the first of the whole
pub split_spelled : (xs ys : List Entry) (rest : List ℕ) → AllByRecursion IsSpelled xs → AllByRecursion IsSpelled ys → spelled xs ++ rest ≡ spelled ys → (more : List Entry) × (ys ≡ xs ++ more) × (rest ≡ spelled more)
split_spelled [] ys rest all each same = (ys, refl, same)
split_spelled (x ∷ xs) [] rest all each same = absurd (some_bytes x (spelled xs ++ rest) (sym same ∙ append_assoc (spelling x) (spelled xs) rest))
split_spelled (x ∷ xs) (y ∷ ys) rest all each same =
    let parts = one_spelling x y (spelled xs ++ rest) (spelled ys) all.0 each.0 (sym (append_assoc (spelling x) (spelled xs) rest) ∙ same) in
    let more = split_spelled xs ys rest all.1 each.1 parts.1 in
    (more.0, ap (λ (e : Entry). e ∷ ys) (sym parts.0) ∙ ap (λ (l : List Entry). x ∷ l) more.1, more.2)

no_bytes : (more : List Entry) → [] ≡ spelled more → more ≡ []
no_bytes [] same = refl
no_bytes (e ∷ more) same = absurd (some_bytes e (spelled more) same)

all_at : (xs : List Entry) (e : Entry) (ys : List Entry) → AllByRecursion IsSpelled (xs ++ e ∷ ys) → IsSpelled e
all_at [] e ys all = all.0
all_at (x ∷ xs) e ys all = all_at xs e ys all.1

pub one_spelled : (xs ys : List Entry) → AllByRecursion IsSpelled xs → AllByRecursion IsSpelled ys → spelled xs ≡ spelled ys → xs ≡ ys
one_spelled xs ys all each same =
    let split = split_spelled xs ys [] all each (append-nil (spelled xs) ∙ same) in
    sym (split.1 ∙ ap (λ (l : List Entry). xs ++ l) (no_bytes split.0 split.2) ∙ append-nil xs)

-- the bytes where no entry stands come behind the same ones
one_front : (xs ys : List Entry) (r s : List ℕ) → AllByRecursion IsSpelled xs → AllByRecursion IsSpelled ys → HasNoEntry r → HasNoEntry s → spelled xs ++ r ≡ spelled ys ++ s → length (spelled xs) ≡ length (spelled ys)
one_front [] [] r s all each none other same = refl
one_front [] (y ∷ ys) r s all each none other same = absurd (none y (spelled ys ++ s) each.0 (same ∙ append_assoc (spelling y) (spelled ys) s))
one_front (x ∷ xs) [] r s all each none other same = absurd (other x (spelled xs ++ r) all.0 (sym same ∙ append_assoc (spelling x) (spelled xs) r))
one_front (x ∷ xs) (y ∷ ys) r s all each none other same =
    let parts = one_spelling x y (spelled xs ++ r) (spelled ys ++ s) all.0 each.0 (sym (append_assoc (spelling x) (spelled xs) r) ∙ same ∙ append_assoc (spelling y) (spelled ys) s) in
    let more = one_front xs ys r s all.1 each.1 none other parts.1 in
    omega (arith, more, length-append (spelling x) (spelled xs), length-append (spelling y) (spelled ys), ap (λ (e : Entry). length (spelling e)) parts.0)

one_break : (block : List ℕ) (at other : ℕ) → BreaksAtEntry block at → BreaksAtEntry block other → at ≡ other
one_break block at other a b =
    let same = one_front a.front b.front a.rest b.rest a.each b.each a.none b.none (sym a.whole ∙ b.whole) in
    a.place ∙ ap (λ (n : ℕ). FIRST_BYTE + n) same ∙ sym b.place

no_break : (state : List Entry) (at : ℕ) → AllByRecursion IsSpelled state → BreaksAtEntry (spelled state) at → ⊥
no_break state at each breaks =
    let split = split_spelled breaks.front state breaks.rest breaks.each each (sym breaks.whole) in
    behind split.0 split.1 split.2
  where
    behind : (more : List Entry) → state ≡ breaks.front ++ more → breaks.rest ≡ spelled more → ⊥
    behind [] whole rest = breaks.some rest
    behind (e ∷ more) whole rest = breaks.none e (spelled more) (all_at breaks.front e more (subst (λ (l : List Entry). AllByRecursion IsSpelled l) whole each)) rest

-- ---- the one block

one_place : (size : ℕ) (blocks : List (List ℕ)) (at other : ℕ) → IsNotOneAt size blocks at → IsNotOneAt size blocks other → at ≡ other
one_place size [] at other a b = a ∙ sym b
one_place size (block ∷ rest) at other (inl a) (inl b) = a.1 ∙ sym b.1
one_place size (block ∷ rest) at other (inl a) (inr b) = absurd (a.0 b.0)
one_place size (block ∷ rest) at other (inr a) (inl b) = absurd (b.0 a.0)
one_place size (block ∷ rest) at other (inr a) (inr b) = a.2 ∙ sym b.2

pub is_one : (size at : ℕ) (block : List ℕ) → length block ≡ size → IsNotOneAt size (block ∷ []) at → ⊥
is_one size at block same (inl a) = a.0 same
is_one size at block same (inr a) = a.1 refl

one_state_fault : (size : ℕ) (blocks : List (List ℕ)) (at other : ℕ) → IsStateFaultAt size blocks at → IsStateFaultAt size blocks other → at ≡ other
one_state_fault size blocks at other (inl a) (inl b) = one_place size blocks at other a b
one_state_fault size blocks at other (inl a) (inr (block, is, same, breaks)) = absurd (is_one size at block same (subst (λ (l : List (List ℕ)). IsNotOneAt size l at) is a))
one_state_fault size blocks at other (inr (block, is, same, breaks)) (inl b) = absurd (is_one size other block same (subst (λ (l : List (List ℕ)). IsNotOneAt size l other) is b))
one_state_fault size blocks at other (inr (block, is, same, breaks)) (inr (another, are, alike, more)) =
    let one = (heads block another [] [] (sym is ∙ are)).0 in
    one_break block at other breaks (subst (λ (l : List ℕ). BreaksAtEntry l other) (sym one) more)

no_state_fault : (size at : ℕ) (state : List Entry) → AllByRecursion IsSpelled state → length (spelled state) ≡ size → IsStateFaultAt size (spelled state ∷ []) at → ⊥
no_state_fault size at state each whole (inl a) = is_one size at (spelled state) whole a
no_state_fault size at state each whole (inr (block, is, same, breaks)) =
    let one = (heads (spelled state) block [] [] is).0 in
    no_break state at each (subst (λ (l : List ℕ). BreaksAtEntry l at) (sym one) breaks)

-- ---- the laws

one_state_in : (area size : ℕ) (state other : List Entry) (bytes : List ℕ) → IsStateIn area size state bytes → IsStateIn area size other bytes → state ≡ other
one_state_in area size state other bytes a b =
    one_spelled state other a.each b.each (heads (spelled state) (spelled other) [] [] (one_list_in area 0 VERSION 0 VERSION (spelled state ∷ []) (spelled other ∷ []) bytes a.spells b.spells).2).0

pub one_state : (root : Root) (state other : List Entry) (areas : Areas) → IsSaved root state areas → IsSaved root other areas → state ≡ other
one_state root state other areas (inl a) (inl b) = a.1 ∙ sym b.1
one_state root state other areas (inl a) (inr b) = absurd (b.0 a.0)
one_state root state other areas (inr a) (inl b) = absurd (a.0 b.0)
one_state root state other areas (inr a) (inr b) = one_state_in root.area root.length state other (areas root.area) a.1 b.1

pub one_fault : (root : Root) (bytes : List ℕ) (at other : ℕ) → IsStateDamagedAt root bytes at → IsStateDamagedAt root bytes other → at ≡ other
one_fault root bytes at other (inl a) (inl b) = one_damage_in root.area at other bytes a b
one_fault root bytes at other (inl a) (inr (blocks, spells, fault)) = absurd (never_both_in root.area 0 VERSION at blocks bytes a spells)
one_fault root bytes at other (inr (blocks, spells, fault)) (inl b) = absurd (never_both_in root.area 0 VERSION other blocks bytes b spells)
one_fault root bytes at other (inr (blocks, spells, fault)) (inr (others, same, more)) =
    let one = (one_list_in root.area 0 VERSION 0 VERSION blocks others bytes spells same).2 in
    one_state_fault root.length blocks at other fault (subst (λ (l : List (List ℕ)). IsStateFaultAt root.length l other) (sym one) more)

pub never_saved : (root : Root) (state : List Entry) (bytes : List ℕ) (at : ℕ) → IsStateDamagedAt root bytes at → IsStateIn root.area root.length state bytes → ⊥
never_saved root state bytes at (inl a) is = never_both_in root.area 0 VERSION at (spelled state ∷ []) bytes a is.spells
never_saved root state bytes at (inr (blocks, spells, fault)) is =
    let one = (one_list_in root.area 0 VERSION 0 VERSION blocks (spelled state ∷ []) bytes spells is.spells).2 in
    no_state_fault root.length at state is.each is.whole (subst (λ (l : List (List ℕ)). IsStateFaultAt root.length l at) one fault)
