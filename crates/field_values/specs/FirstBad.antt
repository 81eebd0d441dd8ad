-- Where bytes stop being the beginning of a list that passes a test.
use Rattle.std.specs.Prelude.{◌≡◌, ℕ, ◌+◌, ◌<◌, Bool, true, Option, MatchOption, List, ◌++◌, length, take, drop}

-- a list that passes begins with the bytes before this one, and none with them and this one
pub record IsFirstBad (test : List ℕ → Bool) (bytes : List ℕ) (at : ℕ) : Type 0 where
  pub within : at < length bytes
  pub rest : List ℕ
  pub good : test (take at bytes ++ rest) ≡ true
  pub bad : (other : List ℕ) → test (take (at + 1) bytes ++ other) ≡ true → ⊥

-- the bytes pass, or the place is the first bad one
abbrev pub TellsFirstBad : (List ℕ → Bool) → List ℕ → Option ℕ → Type 0
TellsFirstBad test bytes place = MatchOption place (test bytes ≡ true) (IsFirstBad test bytes)

-- the n bytes from place i on
abbrev pub part : ℕ → ℕ → List ℕ → List ℕ
part i n bytes = take n (drop i bytes)

-- the place is the first bad one of the n bytes from place i on
pub record IsBadPart (test : List ℕ → Bool) (i n : ℕ) (bytes : List ℕ) (at : ℕ) : Type 0 where
  pub inner : ℕ
  pub place : at ≡ i + inner
  pub bad : IsFirstBad test (part i n bytes) inner
