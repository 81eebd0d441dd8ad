-- Some image stands in each field that a data description can give.
use Rattle.std.proofs.Common.{◌≡◌, ℕ, zero, suc, ◌<◌, ◌≤◌, ◌^◌, ◌/◌, true, false, ◌==◌, nat_le, is_some, List, [], ◌∷◌, replicate, refl, sym, ◌∙◌, subst, arith, add-one, lit<, inl, inr}
use Rattle.std.proofs.lemmas.List.{length-replicate}
use Rattle.std.proofs.lemmas.Bool.{and_parts, eqb-true, leb-true, lt-ltb}
use Rattle.std.proofs.Math.Nat.{one-le-pow}
use Rattle.field_types.specs.declared.kinds.Kind.{Kind}
use Rattle.field_types.specs.declared.kinds.Kind.TheVariants.{Char, Zoned, Packed, Binary, Date, Time, Stamp}
use Rattle.field_values.specs.FieldTypes.{is_allowed, is_between}
use Rattle.field_values.specs.FieldBytes.{held}
use Rattle.field_values.specs.Zoned.{is_zone_digit, is_signed_digit}
use Rattle.field_values.proofs.FieldLemmas.{field, held-char, held-zoned, held-packed, held-binary, held-date, held-time, held-timestamp}
use Rattle.field_values.proofs.EndsLemmas.{word, passes-word}
use Rattle.field_values.proofs.PackedLemmas.{packs, packs-word}
use Rattle.field_values.proofs.BinaryLemmas.{binary_width-cases}

pub example-of : (kind : Kind) (n d : ℕ) → is_allowed kind n d ≡ true → (bytes : List ℕ) × (is_some (held (field kind n d) bytes) ≡ true)
example-of Char n d h = (replicate n 64, held-char n d (replicate n 64) (length-replicate n 64))
example-of Zoned zero d h = absurd (let some : 1 ≤ 0 = leb-true 1 0 (and_parts false true (and_parts (is_between 1 31 0) (nat_le d 0) h).0).0 in omega arith)
example-of Zoned (suc n) d h = (word 240 240 n, sym (held-zoned (suc n) d (word 240 240 n)) ∙ passes-word is_zone_digit is_signed_digit 240 240 n refl refl)
example-of Packed n d h =
    (word 0 15 (n / 2), sym (held-packed n d (word 0 15 (n / 2))) ∙ subst (λ (m : ℕ). packs n m (word 0 15 (n / 2)) ≡ true) (sym (add-one (n / 2))) (packs-word n (n / 2)))
example-of Binary n d h =
    let some : 0 < 10 ^ n = one-le-pow n 10 (lit< tt) in
    elim (binary_width-cases n) [
      | inl two ↦ (0 ∷ 0 ∷ [], sym (held-binary n d (0 ∷ 0 ∷ [])) ∙ rw (two, lt-ltb 0 (10 ^ n) some) refl)
      | inr more ↦ elim more [
        | inl four ↦ (0 ∷ 0 ∷ 0 ∷ 0 ∷ [], sym (held-binary n d (0 ∷ 0 ∷ 0 ∷ 0 ∷ [])) ∙ rw (four, lt-ltb 0 (10 ^ n) some) refl)
        | inr eight ↦ (0 ∷ 0 ∷ 0 ∷ 0 ∷ 0 ∷ 0 ∷ 0 ∷ 0 ∷ [], sym (held-binary n d (0 ∷ 0 ∷ 0 ∷ 0 ∷ 0 ∷ 0 ∷ 0 ∷ 0 ∷ [])) ∙ rw (eight, lt-ltb 0 (10 ^ n) some) refl)
      ]
    ]
example-of Date n d h =
    let ten : n ≡ 10 = eqb-true n 10 (and_parts (n == 10) (d == 0) h).0 in
    (240 ∷ 240 ∷ 240 ∷ 241 ∷ 96 ∷ 240 ∷ 241 ∷ 96 ∷ 240 ∷ 241 ∷ [], rw ten (sym (held-date d (240 ∷ 240 ∷ 240 ∷ 241 ∷ 96 ∷ 240 ∷ 241 ∷ 96 ∷ 240 ∷ 241 ∷ []))))
example-of Time n d h =
    let eight : n ≡ 8 = eqb-true n 8 (and_parts (n == 8) (d == 0) h).0 in
    (240 ∷ 240 ∷ 75 ∷ 240 ∷ 240 ∷ 75 ∷ 240 ∷ 240 ∷ [], rw eight (sym (held-time d (240 ∷ 240 ∷ 75 ∷ 240 ∷ 240 ∷ 75 ∷ 240 ∷ 240 ∷ []))))
example-of Stamp n d h =
    let twenty_six : n ≡ 26 = eqb-true n 26 (and_parts (n == 26) (d == 0) h).0 in (
      240 ∷ 240 ∷ 240 ∷ 241 ∷ 96 ∷ 240 ∷ 241 ∷ 96 ∷ 240 ∷ 241 ∷ 96 ∷ 240 ∷ 240 ∷ 75 ∷ 240 ∷ 240 ∷ 75 ∷ 240 ∷ 240 ∷ 75 ∷ 240 ∷ 240 ∷ 240 ∷ 240 ∷ 240 ∷ 240 ∷ [],
      rw twenty_six (sym (held-timestamp d (240 ∷ 240 ∷ 240 ∷ 241 ∷ 96 ∷ 240 ∷ 241 ∷ 96 ∷ 240 ∷ 241 ∷ 96 ∷ 240 ∷ 240 ∷ 75 ∷ 240 ∷ 240 ∷ 75 ∷ 240 ∷ 240 ∷ 75 ∷ 240 ∷ 240 ∷ 240 ∷ 240 ∷ 240 ∷ 240 ∷ []))),
    )
