-- A capped count passes the same small bounds as the count.
use Rattle.std.proofs.Common.{◌≡◌, ℕ, ◌+◌, ◌-◌, ◌^◌, ◌<◌, ◌≤◌, Bool, ◌||◌, List, min, leb, refl, sym, ◌∙◌, arith, rules}
use Rattle.std.proofs.lemmas.Grind.{common_steps}
use Rattle.library_model.specs.declared.calls.Call.{Call}
use Rattle.job_history.specs.Counting.{capped, is_full, IsCounted}

pub leb-capped : (bound n : ℕ) → bound ≤ 2 ^ 63 → leb bound (capped n) ≡ leb bound n
leb-capped bound n small = grind arith

-- the history is full where one of the kept counts has come to its bound
pub is_full-counted : (calls : List Call) (counted bytes : ℕ) → IsCounted calls counted bytes → (leb 200000 counted || leb 268435456 bytes) ≡ is_full calls
unfolding is_full
is_full-counted calls counted bytes h =
    rw (h.calls_counted, h.bytes_counted, leb-capped 200000 _ (omega arith), leb-capped 268435456 _ (omega arith)) refl

pub is_full-calls : (calls : List Call) (counted bytes : ℕ) → IsCounted calls counted bytes → 200000 ≤ counted → leb 200000 counted ≡ is_full calls
is_full-calls calls counted bytes h enough =
    let whole = is_full-counted calls counted bytes h in grind (arith, whole)

pub is_full-bytes : (calls : List Call) (counted bytes : ℕ) → IsCounted calls counted bytes → counted < 200000 → leb 268435456 bytes ≡ is_full calls
is_full-bytes calls counted bytes h few =
    let whole = is_full-counted calls counted bytes h in grind (arith, whole)
