-- Lists of blocks in an area: one block more, where each stands, and that bytes spell one list alone.
use Rattle.std.proofs.Common.{◌≡◌, ◌≢◌, ℕ, zero, suc, ◌+◌, ◌^◌, ◌<◌, ◌≤◌, List, [], ◌∷◌, ◌++◌, length, get_or, take, drop, refl, sym, ◌∙◌, ap, subst, arith, append_assoc, length-append}
use Rattle.std.proofs.lemmas.List.{map-append, take_at, drop_at, drop-drop, append_cancel_left}
use Rattle.byteorder.specs.Endian.{big_bytes, big_number}
use Rattle.byteorder.specs.Numbers.{big_number-reads_back}
use Rattle.gated_log.specs.Blocks.{block_bytes, Opens, extent, sizes, StandsAt, IsFaultAt}
use Rattle.gated_log.specs.Places.{ArePlaced, lengths_of}
use Rattle.gated_log.specs.declared.log.Place.{Place}
use Rattle.gated_log.proofs.Numbers.{length-block_bytes}

pub extent-push : (xs : List ℕ) (x : ℕ) → extent (xs ++ x ∷ []) ≡ extent xs + (5 + x)
extent-push [] x = omega arith
extent-push (y ∷ xs) x = omega (arith, extent-push xs x)

pub sizes-push : (blocks : List (List ℕ)) (block : List ℕ) → sizes (blocks ++ block ∷ []) ≡ sizes blocks ++ length block ∷ []
sizes-push blocks block = map-append (λ (b : List ℕ). length b) blocks (block ∷ [])

-- where the end is, from the lengths
pub placed_end : (gate : ℕ) (places : List Place) (end : ℕ) → ArePlaced gate places end → end ≡ gate + extent (lengths_of places)
placed_end gate [] end placed = omega (arith, placed)
placed_end gate (place ∷ places) end placed = omega (arith, placed_end (gate + 5 + place.length) places end placed.1)

pub placed-push : (gate : ℕ) (places : List Place) (end : ℕ) (place : Place) → ArePlaced gate places end → place.at ≡ end + 5 → ArePlaced gate (places ++ place ∷ []) (end + 5 + place.length)
placed-push gate [] end place placed at = (omega (arith, placed), omega (arith, placed))
placed-push gate (first ∷ places) end place placed at = (placed.0, placed-push (gate + 5 + first.length) places end place placed.1 at)

-- one place more, up to an end that is told
pub placed_further : (gate : ℕ) (places pushed : List Place) (end further : ℕ) (place : Place) → ArePlaced gate places end → pushed ≡ places ++ place ∷ [] → place.at ≡ end + 5 → further ≡ end + 5 + place.length → ArePlaced gate pushed further
placed_further gate places pushed end further place placed push at is =
    subst (λ (l : List Place). ArePlaced gate l further) (sym push) (subst (λ (n : ℕ). ArePlaced gate (places ++ place ∷ []) n) (sym is) (placed-push gate places end place placed at))

-- the nth place, from the lengths before it
pub placed_at : (gate : ℕ) (places : List Place) (end n : ℕ) (d : Place) → ArePlaced gate places end → n < length places → (get_or places n d).at ≡ gate + 5 + extent (take n (lengths_of places))
placed_at gate [] end n d placed below = absurd (omega arith)
placed_at gate (place ∷ places) end zero d placed below = omega (arith, placed.0)
placed_at gate (place ∷ places) end (suc n) d placed below = omega (arith, placed_at (gate + 5 + place.length) places end n d placed.1 (omega arith))

pub lengths_of-push : (places : List Place) (place : Place) → lengths_of (places ++ place ∷ []) ≡ lengths_of places ++ place.length ∷ []
lengths_of-push places place = map-append (λ (p : Place). p.length) places (place ∷ [])

-- lengths are short, those of no block too
pub lengths_short : (places : List Place) (n : ℕ) → get_or (lengths_of places) n 0 < 2 ^ 32
lengths_short [] n = omega arith
lengths_short (place ∷ places) zero = place.short
lengths_short (place ∷ places) (suc n) = lengths_short places n

-- what stands before the rest, which may be any
pub record Front (blocks : List (List ℕ)) (body rest : List ℕ) : Type 0 where
  pub front : List ℕ
  pub whole : body ≡ front ++ rest
  pub size : length front ≡ extent (sizes blocks)
  pub opens : (other : List ℕ) → Opens blocks (front ++ other) other

pub front_of : (blocks : List (List ℕ)) (body rest : List ℕ) → Opens blocks body rest → Front blocks body rest
front_of [] body rest is = record { front = []; whole = is; size = refl; opens = λ other. refl }
front_of (block ∷ blocks) body rest (gate, after, opened, small, is, more) =
    let tail = front_of blocks after rest more in
    record {
      front = gate ∷ block_bytes block ++ tail.front;
      whole = is ∙ ap (λ (l : List ℕ). gate ∷ block_bytes block ++ l) tail.whole ∙ ap (λ (l : List ℕ). gate ∷ l) (sym (append_assoc (block_bytes block) tail.front rest));
      size = omega (arith, length-append (block_bytes block) tail.front, length-block_bytes block, tail.size);
      opens = λ other. (gate, tail.front ++ other, opened, small, ap (λ (l : List ℕ). gate ∷ l) (append_assoc (block_bytes block) tail.front other), tail.opens other);
    }

-- one block more
pub opens-push : (blocks : List (List ℕ)) (block body rest after : List ℕ) (gate : ℕ) → Opens blocks body rest → gate ≢ 0 → length block < 2 ^ 32 → rest ≡ gate ∷ block_bytes block ++ after → Opens (blocks ++ block ∷ []) body after
opens-push [] block body rest after gate is opened small more = (gate, after, opened, small, is ∙ more, refl)
opens-push (first ∷ blocks) block body rest after gate (g, next, o, s, is, others) opened small more = (g, next, o, s, is, opens-push blocks block next rest after gate others opened small more)

-- a block's length reads back
pub block_number : (block after : List ℕ) → length block < 2 ^ 32 → big_number 4 (block_bytes block ++ after) ≡ length block
unfolding block_bytes
block_number block after small =
    ap (λ (l : List ℕ). big_number 4 l) (append_assoc (big_bytes 4 (length block)) block after) ∙ big_number-reads_back 4 (length block) (block ++ after) small

-- the same bytes begin with one block alone
pub one_block : (block other after rest : List ℕ) → length block < 2 ^ 32 → length other < 2 ^ 32 → block_bytes block ++ after ≡ block_bytes other ++ rest → (block ≡ other) × (after ≡ rest)
unfolding block_bytes
one_block block other after rest small too same =
    let sizes_are : length block ≡ length other = sym (block_number block after small) ∙ ap (λ (l : List ℕ). big_number 4 l) same ∙ block_number other rest too in
    let tails : block ++ after ≡ other ++ rest =
    append_cancel_left (big_bytes 4 (length other)) (block ++ after) (other ++ rest)
    (ap (λ (n : ℕ). big_bytes 4 n ++ (block ++ after)) (sym sizes_are) ∙ sym (append_assoc (big_bytes 4 (length block)) block after) ∙ same ∙ append_assoc (big_bytes 4 (length other)) other rest) in (
      sym (take_at block after (length block) refl) ∙ ap (λ (l : List ℕ). take (length block) l) tails ∙ take_at other rest (length block) (sym sizes_are),
      sym (drop_at block after (length block) refl) ∙ ap (λ (l : List ℕ). drop (length block) l) tails ∙ drop_at other rest (length block) (sym sizes_are),
    )

pub heads : (a b : ℕ) (xs ys : List ℕ) → a ∷ xs ≡ b ∷ ys → (a ≡ b) × (xs ≡ ys)
heads a b xs ys same = (cc, cc)

-- bytes with a fault behind some blocks don't spell others
pub fault_spells_none : (blocks others : List (List ℕ)) (body rest after : List ℕ) (place at : ℕ) → Opens blocks body rest → IsFaultAt place rest at → Opens others body (0 ∷ after) → ⊥
fault_spells_none [] [] body [] after place at is fault same = cc
fault_spells_none [] [] body (gate ∷ rest) after place at is fault same = fault.0 (heads gate 0 rest after (sym is ∙ same)).0
fault_spells_none [] (other ∷ others) body [] after place at is fault (g, next, o, s, same, more) = cc
fault_spells_none [] (other ∷ others) body (gate ∷ rest) after place at is fault (g, next, o, s, same, more) = fault.1 other next s (heads gate g rest (block_bytes other ++ next) (sym is ∙ same)).1
fault_spells_none (block ∷ blocks) [] body rest after place at (gate, next, opened, small, is, more) fault same = opened (heads gate 0 (block_bytes block ++ next) after (sym is ∙ same)).0
fault_spells_none (block ∷ blocks) (other ∷ others) body rest after place at (gate, next, opened, small, is, more) fault (g, n, o, s, same, others_are) =
    let parts = one_block block other next n small s (heads gate g (block_bytes block ++ next) (block_bytes other ++ n) (sym is ∙ same)).1 in
    fault_spells_none blocks others next rest after place at more fault (subst (λ (l : List ℕ). Opens others l (0 ∷ after)) (sym parts.1) others_are)

-- bytes spell one list alone
pub one_opens : (blocks others : List (List ℕ)) (body rest after : List ℕ) → Opens blocks body (0 ∷ rest) → Opens others body (0 ∷ after) → blocks ≡ others
one_opens [] [] body rest after is same = refl
one_opens [] (other ∷ others) body rest after is (g, n, o, s, same, more) = absurd (o (sym (heads 0 g rest (block_bytes other ++ n) (sym is ∙ same)).0))
one_opens (block ∷ blocks) [] body rest after (gate, next, opened, small, is, more) same = absurd (opened (heads gate 0 (block_bytes block ++ next) after (sym is ∙ same)).0)
one_opens (block ∷ blocks) (other ∷ others) body rest after (gate, next, opened, small, is, more) (g, n, o, s, same, others_are) =
    let parts = one_block block other next n small s (heads gate g (block_bytes block ++ next) (block_bytes other ++ n) (sym is ∙ same)).1 in
    let tails = one_opens blocks others next rest after more (subst (λ (l : List ℕ). Opens others l (0 ∷ after)) (sym parts.1) others_are) in
    λ i. parts.0 i ∷ tails i

-- a block and its gate moved to what stands before
moved : (before body block after : List ℕ) (gate : ℕ) → body ≡ gate ∷ block_bytes block ++ after → before ++ body ≡ (before ++ gate ∷ block_bytes block) ++ after
moved before body block after gate is = ap (λ (l : List ℕ). before ++ l) is ∙ sym (append_assoc before (gate ∷ block_bytes block) after)

-- the first block's bytes
first_block : (before body block after : List ℕ) (gate at : ℕ) → body ≡ gate ∷ block_bytes block ++ after → at ≡ length before + 5 → take (length block) (drop at (before ++ body)) ≡ block
unfolding block_bytes
first_block before body block after gate at is place =
    let front = before ++ gate ∷ big_bytes 4 (length block) in
    let whole : before ++ body ≡ front ++ (block ++ after) =
    moved before body block after gate is ∙ append_assoc before (gate ∷ (big_bytes 4 (length block) ++ block)) after
    ∙ ap (λ (l : List ℕ). before ++ gate ∷ l) (append_assoc (big_bytes 4 (length block)) block after)
    ∙ sym (append_assoc before (gate ∷ big_bytes 4 (length block)) (block ++ after)) in
    ap (λ (l : List ℕ). take (length block) (drop at l)) whole
    ∙ ap (λ (l : List ℕ). take (length block) l) (drop_at front (block ++ after) at (omega (arith, length-append before (gate ∷ big_bytes 4 (length block)))))
    ∙ take_at block after (length block) refl

-- the nth block stands behind the gate that follows the blocks before it
pub block_stands : (blocks : List (List ℕ)) (n : ℕ) (body rest : List ℕ) → Opens blocks body rest → n < length blocks → StandsAt (1 + extent (take n (sizes blocks))) (get_or blocks n []) body
block_stands [] n body rest opens below = absurd (omega arith)
block_stands (block ∷ blocks) zero body rest (gate, after, opened, small, is, more) below = (after, ap (λ (l : List ℕ). drop 1 l) is)
block_stands (block ∷ blocks) (suc n) body rest (gate, after, opened, small, is, more) below =
    let e = extent (take n (sizes blocks)) in
    let there = block_stands blocks n after rest more (omega arith) in
    let front : length (gate ∷ block_bytes block) ≡ 5 + length block = omega (arith, length-block_bytes block) in
    let place : 1 + (5 + length block + e) ≡ (5 + length block) + (1 + e) = omega arith in (
      there.0,
      ap (λ (k : ℕ). drop k body) place ∙ sym (drop-drop (1 + e) (5 + length block) body)
          ∙ ap (λ (l : List ℕ). drop (1 + e) l) (ap (λ (l : List ℕ). drop (5 + length block) l) is ∙ drop_at (gate ∷ block_bytes block) after (5 + length block) front)
          ∙ there.1,
    )

-- a list that is read by its places
pub record Read (bytes block : List ℕ) (place : Place) : Type 0 where
  pub is : take place.length (drop place.at bytes) ≡ block
  pub within : place.at + place.length ≤ length bytes

lengths-head : (place : Place) (places : List Place) (block : List ℕ) (blocks : List (List ℕ)) → lengths_of (place ∷ places) ≡ sizes (block ∷ blocks) → (place.length ≡ length block) × (lengths_of places ≡ sizes blocks)
lengths-head place places block blocks same = (cc, cc)

-- the nth block, by its place
pub block_at : (blocks : List (List ℕ)) (places : List Place) (before body rest : List ℕ) (gate end n : ℕ) (d : Place) → Opens blocks body rest → ArePlaced gate places end → lengths_of places ≡ sizes blocks → length before ≡ gate → n < length places
    → Read (before ++ body) (get_or blocks n []) (get_or places n d)
block_at blocks [] before body rest gate end n d opens placed same size below = absurd (omega arith)
block_at [] (place ∷ places) before body rest gate end n d opens placed same size below = absurd cc
block_at (block ∷ blocks) (place ∷ places) before body rest gate end zero d (g, after, opened, small, is, more) placed same size below =
    let length_is = (lengths-head place places block blocks same).0 in
    record {
      is = ap (λ (k : ℕ). take k (drop place.at (before ++ body))) length_is ∙ first_block before body block after g place.at is (omega (arith, placed.0));
      within = omega (arith, placed.0, length_is, length-append before body, ap length is, length-append (block_bytes block) after, length-block_bytes block);
    }
block_at (block ∷ blocks) (place ∷ places) before body rest gate end (suc n) d (g, after, opened, small, is, more) placed same size below =
    let heads_are = lengths-head place places block blocks same in
    subst (λ (l : List ℕ). Read l (get_or blocks n []) (get_or places n d)) (sym (moved before body block after g is))
    (block_at blocks places (before ++ g ∷ block_bytes block) after rest (gate + 5 + place.length) end n d more placed.1 heads_are.1
    (omega (arith, length-append before (g ∷ block_bytes block), length-block_bytes block, heads_are.0)) (omega arith))
