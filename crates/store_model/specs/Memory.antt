-- What a source and a sink in memory are to their callers.
use Rattle.std.specs.Prelude.{ℕ, List}
use Rattle.store_model.specs.declared.calls.Calls.{Calls}

-- the bytes that are left, and the calls so far
pub record Input : Type 0 where
  pub left : List ℕ
  pub calls : Calls

-- the bytes that were taken, and the calls so far
pub record Output : Type 0 where
  pub taken : List ℕ
  pub calls : Calls
