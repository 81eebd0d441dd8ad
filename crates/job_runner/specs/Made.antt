-- Whether the clock gave the timestamps of the calls that a run adds to a history. (Our own: IBM i takes the time of day.)
use Rattle.std.specs.Prelude.{◌≡◌, ℕ, List, [], ◌∷◌}
use Rattle.library_model.specs.declared.calls.Call.{Call}

-- the clock gave the timestamp of each call in turn, nothing besides, and then was the last
abbrev pub AreGiven : {C : Type 0} → (C → ℕ → C → Type 0) → (clock last : C) → List Call → Type 0
AreGiven gives clock last [] = last ≡ clock
AreGiven {C = C} gives clock last (call ∷ calls) = (next : C) × gives clock call.timestamp next × AreGiven gives next last calls
