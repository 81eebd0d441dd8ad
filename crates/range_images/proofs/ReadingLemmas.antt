-- The slot changes of entries, one entry after the other.
use Rattle.std.proofs.Common.{◌≡◌, ℕ, ◌+◌, ◌<◌, List, ◌∷◌, ◌++◌, length, get_or, drop, Option, Some, None, refl, sym, ap, ◌∙◌, subst, arith, append_assoc}
use Rattle.std.specs.Option.{option_map, option_to_list}
use Rattle.std.proofs.lemmas.List.{drop_more}
use Rattle.entry_codec.specs.declared.entries.Entry.{Entry}
use Rattle.journal_model.specs.Acts.{Change, act, acts, change_of}
use Rattle.journal_model.specs.Walks.{Numbered, number_change, numbered}
use Rattle.journal_model.specs.Journal.{AreNumbered}
use Rattle.range_images.specs.Sides.{change_in}

abbrev with_sequence : ℕ → Change → Numbered
with_sequence s c = record { sequence = s; change = c }

number_change-front : (s : ℕ) (o : Option Change) (rest : List Numbered) → number_change s o rest ≡ option_to_list (option_map (with_sequence s) o) ++ rest
number_change-front s None rest = refl
number_change-front s (Some c) rest = refl

-- what is left to be read, and what was read
pub record IsRead (number s : ℕ) (prior : Option Entry) (rest : List Entry) (read whole : List Numbered) : Type 0 where
  pub sequences : AreNumbered s rest
  pub changes : read ++ numbered s (acts number prior rest) ≡ whole

read-more : (number s : ℕ) (prior : Option Entry) (e : Entry) (rest : List Entry) (read more whole : List Numbered) → more ≡ read ++ option_to_list (change_in number prior e)
    → IsRead number s prior (e ∷ rest) read whole → IsRead number (s + 1) (Some e) rest more whole
read-more number s prior e rest read more whole added h = record {
  sequences = h.sequences.1;
  changes =
      let tail = numbered (s + 1) (acts number (Some e) rest) in
      ap (λ xs. xs ++ tail) added
      ∙ append_assoc read (option_to_list (change_in number prior e)) tail
      ∙ ap (λ (n : ℕ). read ++ (option_to_list (option_map (with_sequence n) (change_of (act number prior e))) ++ tail)) h.sequences.0
      ∙ ap (λ xs. read ++ xs) (sym (number_change-front s (change_of (act number prior e)) tail))
      ∙ h.changes;
}

pub read-next : (number s i : ℕ) (prior : Option Entry) (e : Entry) (entries : List Entry) (read more whole : List Numbered) → i < length entries → e ≡ get_or entries i e
    → more ≡ read ++ option_to_list (change_in number prior e)
    → IsRead number (s + i) prior (drop i entries) read whole → IsRead number (s + (i + 1)) (Some e) (drop (i + 1) entries) more whole
read-next number s i prior e entries read more whole below is added h =
    let split : drop i entries ≡ e ∷ drop (i + 1) entries = drop_more entries i e below ∙ ap (λ x. x ∷ drop (i + 1) entries) (sym is) in
    let here : IsRead number (s + i) prior (e ∷ drop (i + 1) entries) read whole = subst (λ (es : List Entry). IsRead number (s + i) prior es read whole) split h in
    let same : s + i + 1 ≡ s + (i + 1) = omega arith in
    subst (λ (n : ℕ). IsRead number n (Some e) (drop (i + 1) entries) more whole) same (read-more number (s + i) prior e (drop (i + 1) entries) read more whole added here)
