-- What does a part of the writer do to the bytes that are there?
use Rattle.std.specs.Prelude.{◌≡◌, ℕ, ◌+◌, ◌≤◌, List, ◌++◌, length, vec_len, vec_capacity}
use Rattle.std.specs.Global.{Vec}

-- the bytes fit without more memory
abbrev pub HasRoom : Vec ℕ → List ℕ → Type 0
HasRoom out bytes = vec_len out + length bytes ≤ vec_capacity out

-- new is old with the bytes at its end
pub record Appends (old new : Vec ℕ) (bytes : List ℕ) : Type 0 where
  pub items : new.items ≡ old.items ++ bytes
  pub len : vec_len new ≡ vec_len old + length bytes
  pub capacity : vec_capacity old ≤ vec_capacity new
