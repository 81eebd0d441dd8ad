-- The ways by what was noted are those of the statements.
use Rattle.std.proofs.Common.{◌≡◌, ℕ, zero, suc, ◌+◌, ◌<◌, List, [], ◌∷◌, ◌++◌, length, get_or, drop, refl, sym, ap, ◌∙◌, arith}
use Rattle.std.proofs.lemmas.List.{append_assoc, drop_more}
use Rattle.library_model.specs.Named.{Named}
use Rattle.statement_syntax.specs.declared.Written.{Written}
use Rattle.script_builder.specs.declared.phrases.Block.TheVariants.{ThenBlock, ElseBlock, LoopBlock}
use Rattle.script_builder.specs.declared.phrases.Nesting.{Nesting}
use Rattle.script_builder.specs.declared.phrases.Nesting.TheVariants.{Opens, Closes, Stays}
use Rattle.script_builder.specs.declared.rests.Rest.{Rest}
use Rattle.script_builder.specs.declared.ways.Way.{Way}
use Rattle.script_builder.specs.Phrases.{nesting_of, target_of}
use Rattle.script_builder.specs.Ways.{count_of, place_of, exits_after, goes_on, next_of, otherwise_of, ways_of}
use Rattle.script_builder.specs.Rests.{rest_of, rests_of, exits_by, otherwise_by, way_by}

pub length-rests_of : (ws : List Written) → length (rests_of ws) ≡ length ws
length-rests_of [] = refl
length-rests_of (w ∷ ws) = ap suc (length-rests_of ws)

-- what was noted of a statement is of what follows it
pub get_or-rests_of : (ws : List Written) (i : ℕ) (d : Rest) → i < length ws → get_or (rests_of ws) i d ≡ rest_of (drop (suc i) ws)
get_or-rests_of [] i d within = absurd (omega arith)
get_or-rests_of (w ∷ ws) zero d within = refl
get_or-rests_of (w ∷ ws) (suc i) d within = get_or-rests_of ws i d (omega arith)

pub length-ways_of : (ws : List Written) (labels : Named ℕ) (total : ℕ) (exits : List ℕ) → length (ways_of ws labels total exits) ≡ length ws
length-ways_of [] labels total exits = refl
length-ways_of (w ∷ ws) labels total exits =
    ap suc (length-ways_of ws labels total (exits_after (nesting_of w.phrase) (place_of (w ∷ ws) total) ws total exits))

pub exits_by-rest : (nesting : Nesting) (place : ℕ) (ws : List Written) (total : ℕ) (exits : List ℕ) → exits_by nesting place (rest_of ws) total exits ≡ exits_after nesting place ws total exits
exits_by-rest (Opens ThenBlock) place ws total exits = refl
exits_by-rest (Opens ElseBlock) place ws total exits = refl
exits_by-rest (Opens LoopBlock) place ws total exits = refl
exits_by-rest Closes place ws total exits = refl
exits_by-rest Stays place ws total exits = refl

pub otherwise_by-rest : (nesting : Nesting) (ws : List Written) (total : ℕ) (exits : List ℕ) → otherwise_by nesting (rest_of ws) total exits ≡ otherwise_of nesting ws total exits
otherwise_by-rest (Opens block) ws total exits = refl
otherwise_by-rest Closes ws total exits = refl
otherwise_by-rest Stays ws total exits = refl

-- the way of a statement, with the exits after it
abbrev pub way_of : Written → List Written → Named ℕ → ℕ → List ℕ → List ℕ → Way
way_of w ws labels total exits inside =
    record { next = next_of (target_of w.phrase) labels (goes_on ws total inside); otherwise = otherwise_of (nesting_of w.phrase) ws total exits }

pub way_by-rest : (w : Written) (ws : List Written) (labels : Named ℕ) (total : ℕ) (exits inside : List ℕ) → way_by w.phrase (rest_of ws) labels total exits inside ≡ way_of w ws labels total exits inside
way_by-rest w ws labels total exits inside =
    let with_otherwise : ℕ → Way = λ otherwise. record { next = next_of (target_of w.phrase) labels (goes_on ws total inside); otherwise = otherwise } in
    ap with_otherwise (otherwise_by-rest (nesting_of w.phrase) ws total exits)

pub ways_of-more : (w : Written) (ws : List Written) (labels : Named ℕ) (total place : ℕ) (exits inside : List ℕ) (way : Way) → place + count_of (w ∷ ws) ≡ total →
    inside ≡ exits_by (nesting_of w.phrase) place (rest_of ws) total exits → way ≡ way_by w.phrase (rest_of ws) labels total exits inside →
    ways_of (w ∷ ws) labels total exits ≡ way ∷ ways_of ws labels total inside
ways_of-more w ws labels total place exits inside way here inside_is way_is =
    let at : place_of (w ∷ ws) total ≡ place = omega arith in
    let same : exits_after (nesting_of w.phrase) (place_of (w ∷ ws) total) ws total exits ≡ inside =
    ap (λ p. exits_after (nesting_of w.phrase) p ws total exits) at ∙ sym (exits_by-rest (nesting_of w.phrase) place ws total exits) ∙ sym inside_is in
    ap (λ after. way_of w ws labels total exits after ∷ ways_of ws labels total after) same
    ∙ ap (λ first. first ∷ ways_of ws labels total inside) (sym (way_by-rest w ws labels total exits inside) ∙ sym way_is)

-- one way more
pub ways_step : (ws : List Written) (rests : List Rest) (i : ℕ) (x : Written) (d : Rest) (labels : Named ℕ) (total place : ℕ) (exits inside : List ℕ) (way : Way) (made new whole : List Way) →
    rests ≡ rests_of ws → i < length ws → place + count_of (drop i ws) ≡ total →
    inside ≡ exits_by (nesting_of (get_or ws i x).phrase) place (get_or rests i d) total exits →
    way ≡ way_by (get_or ws i x).phrase (get_or rests i d) labels total exits inside →
    new ≡ made ++ way ∷ [] → made ++ ways_of (drop i ws) labels total exits ≡ whole →
    new ++ ways_of (drop (i + 1) ws) labels total inside ≡ whole
ways_step ws rests i x d labels total place exits inside way made new whole rests_is within here inside_is way_is new_is before =
    let w = get_or ws i x in
    let rest = drop (i + 1) ws in
    let split : drop i ws ≡ w ∷ rest = drop_more ws i x within in
    let same : suc i ≡ i + 1 = omega arith in
    let noted : get_or rests i d ≡ rest_of rest = ap (λ r. get_or r i d) rests_is ∙ get_or-rests_of ws i d within ∙ ap (λ n. rest_of (drop n ws)) same in
    let more : ways_of (w ∷ rest) labels total exits ≡ way ∷ ways_of rest labels total inside =
    ways_of-more w rest labels total place exits inside way
    (ap (λ ys. place + count_of ys) (sym split) ∙ here)
    (inside_is ∙ ap (λ r. exits_by (nesting_of w.phrase) place r total exits) noted)
    (way_is ∙ ap (λ r. way_by w.phrase r labels total exits inside) noted) in
    ap (λ n. n ++ ways_of rest labels total inside) new_is
    ∙ append_assoc made (way ∷ []) (ways_of rest labels total inside)
    ∙ ap (λ l. made ++ l) (sym more)
    ∙ ap (λ ys. made ++ ways_of ys labels total exits) (sym split)
    ∙ before
