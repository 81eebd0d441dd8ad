-- The calls on an object in memory: how many there were, which one is to fail, and how many failed.
use Rattle.std.specs.Prelude.{◌≡◌, ◌+◌, ℕ, min, Some, None}
use Rattle.store_model.specs.Faults.{last_count}
use Rattle.store_model.specs.declared.calls.Calls.{Calls}

-- one more, standing still at the last count
abbrev pub counted : ℕ → ℕ
counted n = min (n + 1) last_count

-- no call yet, and none is to fail
abbrev pub fresh : Calls
fresh = record { made = 0; failing = None; faults = 0 }

-- the next call is the one that is to fail
abbrev pub IsToFail : Calls → Type 0
IsToFail calls = calls.failing ≡ Some (counted calls.made)

-- after a call that went well
abbrev pub passed : Calls → Calls
passed calls = record { made = counted calls.made; failing = calls.failing; faults = calls.faults }

-- after a call that failed though it was not told to: the one that is to fail is still to come
abbrev pub faulted : Calls → Calls
faulted calls = record { made = counted calls.made; failing = calls.failing; faults = counted calls.faults }

-- after the call that was to fail: there is no second one
abbrev pub failed : Calls → Calls
failed calls = record { made = counted calls.made; failing = None; faults = counted calls.faults }
