-- The keys of formats by their numbers.
use Rattle.std.proofs.Common.{◌≡◌, ℕ, zero, suc, ◌+◌, List, [], ◌∷◌, ap, ◌∙◌, arith}
use Rattle.std.specs.List.{slice_get}
use Rattle.view_rules.below.file_model.specs.declared.paths.PathFormat.{PathFormat}
use Rattle.access_path.specs.KeptEntries.{KeyOf}
use Rattle.access_path.specs.PathBytes.{AreKeysFrom}
use Rattle.path_entrants.specs.Formats.{key_by, keys_of}

keys-from : (keys : KeyOf) (number : ℕ) (formats : List PathFormat) → ((k : ℕ) (image : List ℕ) → keys (number + k) image ≡ key_by (slice_get formats k) image) → AreKeysFrom keys number formats
keys-from keys number [] given = tt
keys-from keys number (format ∷ formats) given = (
  λ image. ap (λ (n : ℕ). keys n image) (let e : number ≡ number + zero = omega arith in e) ∙ given zero image,
  keys-from keys (number + 1) formats (λ k image. ap (λ (n : ℕ). keys n image) (let e : number + 1 + k ≡ number + suc k = omega arith in e) ∙ given (suc k) image),
)

-- each format has its own keys
pub keys-formats : (formats : List PathFormat) → AreKeysFrom (keys_of formats) 0 formats
keys-formats formats = keys-from (keys_of formats) 0 formats (λ k image. ap (λ (n : ℕ). keys_of formats n image) (let e : 0 + k ≡ k = omega arith in e))
