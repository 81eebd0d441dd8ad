-- The bytes of hexadecimal digits, pair by pair.
use Rattle.std.proofs.Common.{◌≡◌, ℕ, ◌-◌, ◌≤◌, false, List, [], ◌∷◌, ◌++◌, length, take, drop, get_or, Option, Some, None, is_some, refl, ap, ◌∙◌, append_assoc, arith}
use Rattle.std.proofs.lemmas.List.{take_rest}
use Rattle.text_lines.specs.Characters.{hex_digit_value, hex_byte}
use Rattle.dds_source.specs.ArgumentTexts.{onto_bytes, bytes_of_digits}

-- bytes in front of others
abbrev pub onto_all : List ℕ → Option (List ℕ) → Option (List ℕ)
onto_all front None = None
onto_all front (Some bytes) = Some (front ++ bytes)

pub onto_all-more : (front : List ℕ) (byte : ℕ) (bytes : Option (List ℕ)) → onto_all (front ++ byte ∷ []) bytes ≡ onto_all front (onto_bytes (Some byte) bytes)
onto_all-more front byte None = refl
onto_all-more front byte (Some bytes) = ap Some (append_assoc front (byte ∷ []) bytes)

-- the byte of two digits goes behind those that were decoded
pub onto_all-pair : (front new : List ℕ) (byte : ℕ) (digits : List ℕ) (total : Option (List ℕ)) → 2 ≤ length digits → new ≡ front ++ byte ∷ []
    → Some byte ≡ hex_byte (hex_digit_value (get_or digits 0 0)) (hex_digit_value (get_or digits 1 0))
    → onto_all front (bytes_of_digits digits) ≡ total → onto_all new (bytes_of_digits (take (length digits - 2) (drop 2 digits))) ≡ total
onto_all-pair front new byte [] total long pushed pair so_far = absurd (omega arith)
onto_all-pair front new byte (c ∷ []) total long pushed pair so_far = absurd (omega arith)
onto_all-pair front new byte (c ∷ d ∷ cs) total long pushed pair so_far =
    let rest : take (length (c ∷ d ∷ cs) - 2) (drop 2 (c ∷ d ∷ cs)) ≡ cs = take_rest (c ∷ d ∷ cs) 2 in
    rw (pushed, rest) (onto_all-more front byte (bytes_of_digits cs) ∙ ap (λ b. onto_all front (onto_bytes b (bytes_of_digits cs))) pair ∙ so_far)

-- what isn't there
pub none_from : (bytes : Option (List ℕ)) → is_some bytes ≡ false → None ≡ bytes
none_from None h = refl
none_from (Some bytes) h = absurd (cc)
