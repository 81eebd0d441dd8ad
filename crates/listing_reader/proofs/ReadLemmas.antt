-- The loops of readers: what is read so far, and what is still to be read.
use Rattle.std.proofs.Common.{◌≡◌, ℕ, List, [], ◌∷◌, ◌++◌, Option, Some, None, sym, ap, ◌∙◌, append_assoc, append-nil}
use Rattle.std.specs.Option.{option_map_or}
use Rattle.library_model.specs.declared.calls.Call.{Call}
use Rattle.statement_reader.specs.Lists.{onto_others, with_front}
use Rattle.statement_reader.specs.Words.{words}
use Rattle.statement_reader.proofs.ListLemmas.{with_front_end}
use Rattle.listing_reader.specs.Lines.{call_of, calls_of}

-- the same where what is still to be read is given
pub stopped-by : {B : Type 0} (front : List B) (here there all : Option (List B)) → here ≡ onto_others None there → with_front front here ≡ all → None ≡ all
stopped-by front here there all first so_far = sym (ap (with_front front) first) ∙ so_far

pub ended-by : {B : Type 0} (front : List B) (here all : Option (List B)) → here ≡ Some [] → with_front front here ≡ all → Some front ≡ all
ended-by front here all nothing so_far = sym (with_front_end front) ∙ sym (ap (with_front front) nothing) ∙ so_far

-- ---- calls

module _ (names : List (List ℕ)) where
  -- a line that has no call
  pub stopped-calls : (made : List Call) (lines : List (List ℕ)) (line : List ℕ) (more : List (List ℕ)) (all : List Call) → lines ≡ line ∷ more → None ≡ call_of names (words line) → made ++ calls_of names lines ≡ all → made ≡ all
  stopped-calls made lines line more all first none here =
      let nothing : calls_of names lines ≡ [] = ap (calls_of names) first ∙ ap (λ o. option_map_or (λ c. c ∷ calls_of names more) o []) (sym none) in
      sym (append-nil made) ∙ ap (λ cs. made ++ cs) (sym nothing) ∙ here

  -- the call of the next line
  pub next-calls : (made longer : List Call) (lines : List (List ℕ)) (line : List ℕ) (more : List (List ℕ)) (call : Call) (all : List Call) → lines ≡ line ∷ more → Some call ≡ call_of names (words line) → longer ≡ made ++ call ∷ [] → made ++ calls_of names lines ≡ all → longer ++ calls_of names more ≡ all
  next-calls made longer lines line more call all first some pushed here =
      let next : calls_of names lines ≡ call ∷ calls_of names more = ap (calls_of names) first ∙ ap (λ o. option_map_or (λ c. c ∷ calls_of names more) o []) (sym some) in
      ap (λ l. l ++ calls_of names more) pushed ∙ append_assoc made (call ∷ []) (calls_of names more) ∙ ap (λ cs. made ++ cs) (sym next) ∙ here

  -- no line is left
  pub ended-calls : (made : List Call) (lines : List (List ℕ)) (all : List Call) → lines ≡ [] → made ++ calls_of names lines ≡ all → made ≡ all
  ended-calls made lines all nothing here = sym (append-nil made) ∙ ap (λ ls. made ++ calls_of names ls) (sym nothing) ∙ here
