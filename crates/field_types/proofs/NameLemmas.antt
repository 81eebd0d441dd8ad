-- What follows of a text that is a name.
use Rattle.std.proofs.Common.{ℕ, ◌≤◌, IsTrue, List, [], ◌∷◌, ◌++◌, length, drop, replicate, arith, length-append, length-drop}
use Rattle.std.proofs.lemmas.List.{drop-replicate, length-replicate}
use Rattle.std.proofs.Math.Seq.{take-append_seam, drop-append_seam}
use Rattle.field_types.specs.SystemName.{is_name, IsPadded}

-- a name has at most ten characters
pub length-is_name : (text : List ℕ) → IsTrue (is_name text) → length text ≤ 10
length-is_name [] h = omega arith
length-is_name (b ∷ bs) h = grind arith

-- a name written over ten zeros
pub IsPadded-over_zeros : (text : List ℕ) → IsTrue (is_name text) → IsPadded (text ++ drop (length text) (replicate 10 0)) (length text)
IsPadded-over_zeros text h =
    let fits : length text ≤ 10 = length-is_name text h in
    record {
      width = simp (length-append, length-drop, length-replicate) (omega arith);
      fits = fits;
      named = rw (take-append_seam text (drop (length text) (replicate 10 0))) h;
      zeros = rw (drop-append_seam text (drop (length text) (replicate 10 0))) (drop-replicate (length text) 10 0);
    }
