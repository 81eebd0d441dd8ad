-- How many blocks a receiver of a chain has, and where they and the receivers stand in their lists.
use Rattle.std.proofs.Common.{◌≡◌, ℕ, ◌+◌, ◌-◌, ◌≤◌, ◌<◌, List, ◌∷◌, length, drop, get_or, suc, ◌∙◌, ap, arith}
use Rattle.std.proofs.Math.Seq.{drop-cons}
use Rattle.std.proofs.Math.Numerals.{suc-eq-add-one}
use Rattle.std.proofs.lemmas.List.{length-map}
use Rattle.store_model.specs.Disk.{Disk}
use Rattle.receiver_chain.specs.Receivers.{Kept, receiver_at}
use Rattle.receiver_chain.specs.Chain.{ChainState, Holds, attached_of, log_at}
use Rattle.receiver_chain.proofs.Kept.{log_of}

pub count_is : (chain : ChainState) (kept : Kept) (disk : Disk) (receiver : ℕ) → Holds chain kept disk → chain.first ≤ receiver → receiver ≤ attached_of chain → length (log_at chain receiver).lengths ≡ length (receiver_at chain.first kept receiver).blocks
count_is chain kept disk receiver holds from upto =
    ap (λ (l : List ℕ). length l) (log_of chain kept disk receiver holds from upto).settled.lengths ∙ length-map (receiver_at chain.first kept receiver).blocks (λ (b : List ℕ). length b)

-- the nth one and those behind it
pub from_nth : {A : Type 0} (xs : List A) (n : ℕ) (d : A) → n < length xs → drop n xs ≡ get_or xs n d ∷ drop (n + 1) xs
from_nth xs n d below = drop-cons xs n d below ∙ ap (λ (m : ℕ). get_or xs n d ∷ drop m xs) (suc-eq-add-one n)
