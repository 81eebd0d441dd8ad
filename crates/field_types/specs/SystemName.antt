-- System names: which texts name a file, a member, a format, a field or a job.
-- (DDS for Physical and Logical Files, "Naming conventions".)
use Rattle.std.proofs.Common.{arith, length-take-le, take-append-drop}
use Rattle.std.specs.List.{list_all}
use Rattle.std.specs.Prelude.{◌≡◌, ℕ, ◌-◌, ◌≤◌, Bool, false, ◌&&◌, ◌||◌, ◌==◌, nat_le, IsTrue, List, [], ◌∷◌, ◌++◌, length, take, drop, replicate}

-- a letter, $, # or @
abbrev pub begins_name : ℕ → Bool
begins_name b = (nat_le 65 b && nat_le b 90) || (b == 36) || (b == 35) || (b == 64)

-- one of these, a digit, _ or .
abbrev pub continues_name : ℕ → Bool
continues_name b = begins_name b || (nat_le 48 b && nat_le b 57) || (b == 95) || (b == 46)

-- one to ten characters, the first of which may begin a name
abbrev pub is_name : List ℕ → Bool
is_name [] = false
is_name (b ∷ bs) = begins_name b && list_all continues_name bs && nat_le (length bs) 9

-- a name in a field of ten bytes, with zeros behind it
abbrev pub padded : List ℕ → List ℕ
padded name = name ++ replicate (10 - length name) 0

-- the first bytes are a name, and zeros are behind it
pub record IsPadded (bytes : List ℕ) (len : ℕ) : Type 0 where
  pub width : length bytes ≡ 10
  pub fits : len ≤ 10
  pub named : IsTrue (is_name (take len bytes))
  pub zeros : drop len bytes ≡ replicate (10 - len) 0

-- a name's field is its padded name
pub padded-take : (bytes : List ℕ) (len : ℕ) → IsPadded bytes len → padded (take len bytes) ≡ bytes
padded-take bytes len h =
    let fits : len ≤ length bytes = omega (arith, h.width, h.fits) in
    rw (length-take-le len bytes fits, ← h.zeros) (take-append-drop len bytes)
