-- The words of one command are not those of another.
use Rattle.std.proofs.Common.{◌≡◌, ◌⊎◌, ◌∙◌, ◌||◌, ℕ, eqb, eq-eqb, inl, inr, ⊎_elim, Bool, true, false, List, [], ◌∷◌, get_or, refl, sym, ap}
use Rattle.std.proofs.lemmas.Bool.{and_parts}
use Rattle.std.specs.Prelude.{nat_eq, codes}
use Rattle.std.specs.Cmp.Lexicographic.{pointwise, same_text}
use Rattle.ibmi_batch.specs.Words.{names_folder, are_words_of, are_run_words, are_serial_words, are_format_words, are_display_words, are_job_words}

-- texts that begin with other letters are not the same
other-letter : (one other : List ℕ) → eqb (get_or one 0 0) (get_or other 0 0) ≡ false → one ≡ other → ⊥
other-letter one other differ same =
    let alike = eq-eqb (get_or one 0 0) (get_or other 0 0) (ap (λ (l : List ℕ). get_or l 0 0) same) in
    absurd cc

apart : (one other : List ℕ) → (one ≡ other → ⊥) → (words : List (List ℕ)) → are_words_of one words ≡ true → are_words_of other words ≡ true → ⊥
apart one other differ [] first second = absurd cc
apart one other differ (command ∷ []) first second = absurd cc
apart one other differ (command ∷ folder ∷ []) first second =
    let of_one = and_parts (pointwise nat_eq command one) (names_folder folder) first in
    let of_other = and_parts (pointwise nat_eq command other) (names_folder folder) second in
    differ (sym (same_text command one (sym of_one.0)) ∙ same_text command other (sym of_other.0))
apart one other differ (command ∷ folder ∷ more ∷ words) first second = absurd cc

either : (a b : Bool) → (a || b) ≡ true → (a ≡ true) ⊎ (b ≡ true)
either true b h = inl refl
either false b h = inr h

-- those of RUN and SERIAL don't make a library
pub no-format-of-job : (words : List (List ℕ)) → are_job_words words ≡ true → are_format_words words ≡ true → ⊥
no-format-of-job words job format = ⊎_elim
    (λ run. apart (codes "RUN") (codes "INZ") (other-letter (codes "RUN") (codes "INZ") refl) words run format)
    (λ serial. apart (codes "SERIAL") (codes "INZ") (other-letter (codes "SERIAL") (codes "INZ") refl) words serial format)
    (either (are_run_words words) (are_serial_words words) job)

-- nor do those of DSP
pub no-format-of-display : (words : List (List ℕ)) → are_display_words words ≡ true → are_format_words words ≡ true → ⊥
no-format-of-display words display format = apart (codes "DSP") (codes "INZ") (other-letter (codes "DSP") (codes "INZ") refl) words display format
