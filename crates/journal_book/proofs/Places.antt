-- The blocks from one place of a chain's receivers on, and the entries that they hold.
use Rattle.std.proofs.Common.{◌≡◌, ℕ, ◌+◌, ◌-◌, ◌≤◌, ◌<◌, List, [], ◌∷◌, ◌++◌, length, take, drop, get_or, suc, zero, refl, sym, ◌∙◌, ap, subst, arith, append_assoc, take-append-drop}
use Rattle.std.proofs.Math.Numerals.{suc-eq-add-one}
use Rattle.std.proofs.lemmas.List.{append-nil}
use Rattle.entry_codec.specs.declared.entries.Entry.{Entry}
use Rattle.receiver_chain.specs.Receivers.{Receiver, blocks_in}
use Rattle.journal_book.specs.Entries.{AreBlocks, AreReceivers, all_groups}
use Rattle.journal_book.specs.Reads.{blocks_behind}

are_append : (gs more : List (List Entry)) (bs cs : List (List ℕ)) → AreBlocks gs bs → AreBlocks more cs → AreBlocks (gs ++ more) (bs ++ cs)
are_append [] more [] cs are later = later
are_append (g ∷ gs) more (b ∷ bs) cs are later = (are.0, are_append gs more bs cs are.1 later)
are_append [] more (b ∷ bs) cs are later = absurd are
are_append (g ∷ gs) more [] cs are later = absurd are

-- the groups of the receivers are those of all blocks
pub are_all : (number : ℕ) (rs : List Receiver) (earlier : List (List (List Entry))) (attached : Receiver) (final : List (List Entry)) → AreReceivers number rs earlier attached final → AreBlocks (all_groups earlier final) (blocks_in rs ++ attached.blocks)
are_all number [] [] attached final are = are.0
are_all number (r ∷ rs) (g ∷ more) attached final are =
    subst (λ (b : List (List ℕ)). AreBlocks (g ++ all_groups more final) b) (sym (append_assoc r.blocks (blocks_in rs) attached.blocks))
    (are_append g (all_groups more final) r.blocks (blocks_in rs ++ attached.blocks) are.0 (are_all (number + 1) rs more attached final are.2))
are_all number [] (g ∷ more) attached final are = absurd are
are_all number (r ∷ rs) [] attached final are = absurd are

pub are_split : (groups : List (List Entry)) (front rest : List (List ℕ)) → AreBlocks groups (front ++ rest) → (a : List (List Entry)) × (b : List (List Entry)) × (groups ≡ a ++ b) × AreBlocks b rest
are_split groups [] rest are = ([], groups, refl, are)
are_split [] (f ∷ front) rest are = absurd are
are_split (g ∷ groups) (f ∷ front) rest are =
    let more = are_split groups front rest are.1 in
    (g ∷ more.0, more.1, ap (λ (l : List (List Entry)). g ∷ l) more.2, more.3)

-- ---- places

pub from_zero : (rs : List Receiver) (attached : Receiver) (k : ℕ) → k ≤ length rs → (get_or rs k attached).blocks ++ blocks_behind rs attached k ≡ blocks_in (drop k rs) ++ attached.blocks
from_zero [] attached zero upto = append-nil attached.blocks
from_zero [] attached (suc k) upto = absurd (omega (arith, upto))
from_zero (r ∷ rs) attached zero upto = sym (append_assoc r.blocks (blocks_in rs) attached.blocks)
from_zero (r ∷ rs) attached (suc k) upto = from_zero rs attached k (omega (arith, upto))

next_by : (rs : List Receiver) (attached : Receiver) (k : ℕ) → k < length rs → blocks_behind rs attached k ≡ (get_or rs (suc k) attached).blocks ++ blocks_behind rs attached (suc k)
next_by [] attached k below = absurd (omega (arith, below))
next_by (r ∷ rs) attached zero below = sym (from_zero rs attached 0 (omega arith))
next_by (r ∷ rs) attached (suc k) below = next_by rs attached k (omega (arith, below))

pub behind_next : (rs : List Receiver) (attached : Receiver) (k : ℕ) → k < length rs → blocks_behind rs attached k ≡ (get_or rs (k + 1) attached).blocks ++ blocks_behind rs attached (k + 1)
behind_next rs attached k below = next_by rs attached k below ∙ ap (λ (m : ℕ). (get_or rs m attached).blocks ++ blocks_behind rs attached m) (suc-eq-add-one k)

pub behind_last : (rs : List Receiver) (attached : Receiver) (k : ℕ) → length rs ≤ k → blocks_behind rs attached k ≡ []
behind_last [] attached k past = refl
behind_last (r ∷ rs) attached zero past = absurd (omega (arith, past))
behind_last (r ∷ rs) attached (suc k) past = behind_last rs attached k (omega (arith, past))

-- all blocks are some, and behind them those from a place on
pub split_from : (rs : List Receiver) (attached : Receiver) (k n : ℕ) → k ≤ length rs → (front : List (List ℕ)) × (blocks_in rs ++ attached.blocks ≡ front ++ (drop n (get_or rs k attached).blocks ++ blocks_behind rs attached k))
split_from [] attached zero n upto = (
  take n attached.blocks,
  sym (take-append-drop n attached.blocks) ∙ ap (λ (l : List (List ℕ)). take n attached.blocks ++ l) (sym (append-nil (drop n attached.blocks))),
)
split_from [] attached (suc k) n upto = absurd (omega (arith, upto))
split_from (r ∷ rs) attached zero n upto = (
  take n r.blocks,
  append_assoc r.blocks (blocks_in rs) attached.blocks ∙ ap (λ (l : List (List ℕ)). l ++ (blocks_in rs ++ attached.blocks)) (sym (take-append-drop n r.blocks)) ∙ append_assoc (take n r.blocks) (drop n r.blocks) (blocks_in rs ++ attached.blocks),
)
split_from (r ∷ rs) attached (suc k) n upto =
    let more = split_from rs attached k n (omega (arith, upto)) in (
      r.blocks ++ more.0,
      append_assoc r.blocks (blocks_in rs) attached.blocks ∙ ap (λ (l : List (List ℕ)). r.blocks ++ l) more.1 ∙ sym (append_assoc r.blocks more.0 (drop n (get_or rs k attached).blocks ++ blocks_behind rs attached k)),
    )
