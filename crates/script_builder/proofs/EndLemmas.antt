-- What is ahead of the ENDDO of each open block, and how one statement more changes it.
use Rattle.std.proofs.Common.{◌≡◌, ℕ, zero, suc, ◌+◌, ◌-◌, ◌≤◌, Bool, true, false, List, [], ◌∷◌, ◌++◌, length, get_or, drop, refl, sym, ap, ◌∙◌, arith}
use Rattle.std.specs.Prelude.{if◌then◌else◌, reverse}
use Rattle.std.specs.Option.{unwrap_or}
use Rattle.std.proofs.lemmas.List.{drop_more}
use Rattle.statement_syntax.specs.declared.Written.{Written}
use Rattle.script_builder.specs.declared.phrases.Nesting.{Nesting}
use Rattle.script_builder.specs.declared.phrases.Nesting.TheVariants.{Opens, Closes, Stays}
use Rattle.script_builder.specs.declared.rests.Landing.{Landing}
use Rattle.script_builder.specs.declared.rests.Ahead.{Ahead}
use Rattle.script_builder.specs.declared.rests.Rest.{Rest}
use Rattle.script_builder.specs.Phrases.{counts, is_else, nesting_of}
use Rattle.script_builder.specs.Nestings.{top, under, depth_after, closes_none, behind_block}
use Rattle.script_builder.specs.Ways.{counted, count_of}
use Rattle.script_builder.specs.Rests.{landing_of, ahead_of, ahead_before, ends_after, rest_of, rests_of}
use Rattle.script_builder.proofs.StackLemmas.{reverse-push}

-- what is ahead of each ENDDO that these statements have no block for
abbrev pub ends_of : List Written → List Ahead
ends_of [] = []
ends_of (w ∷ ws) = ends_after (nesting_of w.phrase) (ahead_of ws) (ends_of ws)

nth : List Ahead → ℕ → Ahead
nth [] k = ahead_of []
nth (a ∷ ends) zero = a
nth (a ∷ ends) (suc k) = nth ends k

nth-under : (ends : List Ahead) (k : ℕ) → nth (under ends) k ≡ nth ends (suc k)
unfolding nth
nth-under [] k = refl
nth-under (a ∷ ends) k = refl

nth-after : (nesting : Nesting) (ws : List Written) (k : ℕ) → ((j : ℕ) → nth (ends_of ws) j ≡ ahead_of (behind_block ws j)) →
    nth (ends_after nesting (ahead_of ws) (ends_of ws)) k ≡ ahead_of (if closes_none k nesting then ws else behind_block ws (depth_after k nesting))
unfolding nth
nth-after (Opens block) ws zero before = nth-under (ends_of ws) zero ∙ before (suc zero)
nth-after (Opens block) ws (suc k) before = nth-under (ends_of ws) (suc k) ∙ before (suc (suc k))
nth-after Closes ws zero before = refl
nth-after Closes ws (suc k) before =
    let same : k ≡ suc k - 1 = omega arith in before k ∙ ap (λ j. ahead_of (behind_block ws j)) same
nth-after Stays ws zero before = before zero
nth-after Stays ws (suc k) before = before (suc k)

nth-ends : (ws : List Written) (k : ℕ) → nth (ends_of ws) k ≡ ahead_of (behind_block ws k)
unfolding nth
nth-ends [] k = refl
nth-ends (w ∷ ws) k = nth-after (nesting_of w.phrase) ws k (λ j. nth-ends ws j)

top-nth : (ends : List Ahead) → unwrap_or (top ends) (ahead_of []) ≡ nth ends zero
unfolding nth
top-nth [] = refl
top-nth (a ∷ ends) = refl

-- the innermost ENDDO closes the block that is open before these statements
pub top-ends : (ws : List Written) → unwrap_or (top (ends_of ws)) (ahead_of []) ≡ ahead_of (behind_block ws 0)
top-ends ws = top-nth (ends_of ws) ∙ nth-ends ws zero

landing-if : (b : Bool) (xs ys : List Written) → (if b then landing_of xs else landing_of ys) ≡ landing_of (if b then xs else ys)
landing-if true xs ys = refl
landing-if false xs ys = refl

-- what is ahead with one statement more
pub ahead-before : (w : Written) (ws : List Written) → ahead_before w.phrase (ahead_of ws) (ahead_of (behind_block ws 0)) ≡ ahead_of (w ∷ ws)
ahead-before w ws =
    let with_past : Landing → Ahead = λ landing. record { here = landing_of (w ∷ ws); past_else = landing } in
    ap with_past (landing-if (is_else w.phrase) (behind_block ws 0) (w ∷ ws))

counted-le : (b : Bool) (n m : ℕ) → n ≤ m → counted b n ≤ suc m
counted-le true n m le = omega arith
counted-le false n m le = omega arith

pub count_of-le : (ws : List Written) → count_of ws ≤ length ws
count_of-le [] = omega arith
count_of-le (w ∷ ws) = counted-le (counts w.phrase) (count_of ws) (length ws) (count_of-le ws)

-- what has been noted of the statements from a place on
pub record Noted (ws : List Written) (left : ℕ) (ahead : Ahead) (ends : List Ahead) (items : List Rest) : Type 0 where
  pub ahead_is : ahead ≡ ahead_of (drop left ws)
  pub ends_is : ends ≡ ends_of (drop left ws)
  pub rests_is : reverse items ≡ rests_of (drop left ws)

pub noted_before : (ws : List Written) (left before : ℕ) (x : Written) (ahead behind new_ahead : Ahead) (ends new_ends : List Ahead) (nesting : Nesting) (items new_items : List Rest) → before + 1 ≡ left →
    left ≤ length ws → Noted ws left ahead ends items → behind ≡ unwrap_or (top ends) (ahead_of []) → nesting ≡ nesting_of (get_or ws before x).phrase → new_ends ≡ ends_after nesting ahead ends →
    new_ahead ≡ ahead_before (get_or ws before x).phrase ahead behind → new_items ≡ items ++ record { here = ahead.here; behind = behind } ∷ [] → Noted ws before new_ahead new_ends new_items
noted_before ws left before x ahead behind new_ahead ends new_ends nesting items new_items less few noted behind_is nesting_is ends_is ahead_is items_is =
    let w = get_or ws before x in
    let rest = drop left ws in
    let split : drop before ws ≡ w ∷ rest = drop_more ws before x (omega arith) ∙ ap (λ n. w ∷ drop n ws) less in
    let block : behind ≡ ahead_of (behind_block rest 0) = behind_is ∙ ap (λ e. unwrap_or (top e) (ahead_of [])) noted.ends_is ∙ top-ends rest in
    let with_here : Ahead → Rest = λ a. record { here = a.here; behind = behind } in
    let with_behind : Ahead → Rest = λ b. record { here = landing_of rest; behind = b } in
    record {
      ahead_is =
          ahead_is
          ∙ ap (λ a. ahead_before w.phrase a behind) noted.ahead_is
          ∙ ap (λ b. ahead_before w.phrase (ahead_of rest) b) block
          ∙ ahead-before w rest
          ∙ ap ahead_of (sym split);
      ends_is =
          ends_is
          ∙ ap (λ n. ends_after n ahead ends) nesting_is
          ∙ ap (λ a. ends_after (nesting_of w.phrase) a ends) noted.ahead_is
          ∙ ap (ends_after (nesting_of w.phrase) (ahead_of rest)) noted.ends_is
          ∙ ap ends_of (sym split);
      rests_is =
          ap reverse items_is
          ∙ reverse-push items (with_here ahead)
          ∙ ap (λ a. with_here a ∷ reverse items) noted.ahead_is
          ∙ ap (λ b. with_behind b ∷ reverse items) block
          ∙ ap (λ rs. rest_of rest ∷ rs) noted.rests_is
          ∙ ap rests_of (sym split);
    }
