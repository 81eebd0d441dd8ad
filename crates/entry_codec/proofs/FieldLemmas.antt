-- How long the fields are, and what a name's field is made of.
use Rattle.std.proofs.Common.{◌≡◌, ℕ, ◌+◌, ◌-◌, ◌≤◌, Bool, true, false, cond, List, [], ◌∷◌, ◌++◌, length, take, drop, replicate, Option, Some, None, refl, sym, ap, ◌∙◌, arith, length-append, length-take}
use Rattle.std.proofs.lemmas.List.{length-replicate, drop-replicate, take-replicate}
use Rattle.std.proofs.Math.Seq.{take-append-add}
use Rattle.entry_codec.specs.Reading.{is_blank, before_blank}
use Rattle.entry_codec.specs.Spelling.{number4, number8, name_field, job_field}

pub length-number4 : (n : ℕ) → length (number4 n) ≡ 4
unfolding number4
length-number4 n = refl

pub length-number8 : (n : ℕ) → length (number8 n) ≡ 8
unfolding number8
length-number8 n = refl

pub length-name_field : (name : List ℕ) → length (name_field name) ≡ 10
unfolding name_field
length-name_field name = omega (arith, length-take 10 (name ++ replicate 10 32), length-append name (replicate 10 32), length-replicate {A = ℕ} 10 32)

pub length-job_field : (job : Option (List ℕ)) → length (job_field job) ≡ 10
length-job_field None = refl
length-job_field (Some name) = length-name_field name

-- the blanks of a name's field are the last of ten
pub name_field-parts : (name : List ℕ) → length name ≤ 10 → name_field name ≡ name ++ drop (length name) (replicate 10 32)
unfolding name_field
name_field-parts name h =
    let k : 10 ≡ length name + (10 - length name) = omega arith in
    ap (λ (n : ℕ). take n (name ++ replicate 10 32)) k ∙ take-append-add name (replicate 10 32) (10 - length name) ∙ ap (λ (r : List ℕ). name ++ r) (take-replicate (10 - length name) 10 32 (omega arith) ∙ sym (drop-replicate (length name) 10 32))

-- a field begins with what stands before its first blank
pub take-before_blank : (field : List ℕ) → take (length (before_blank field)) field ≡ before_blank field
take-before_blank [] = refl
take-before_blank (b ∷ bs) =
    elim (is_blank b) as (λ (v : Bool). take (length (cond v [] (b ∷ before_blank bs))) (b ∷ bs) ≡ cond v [] (b ∷ before_blank bs)) [ true ↦ refl | false ↦ ap (λ (r : List ℕ). b ∷ r) (take-before_blank bs) ]

pub ruleset lengths = (length-number4, length-number8, length-name_field, length-job_field)
