-- Where each statement leads. Places count the statements of the script from 0; past the last the script ends.
-- (CL programs: IF, ELSE, DOWHILE, GOTO; places are our own.)
use Rattle.std.specs.Prelude.{ℕ, zero, suc, ◌-◌, Bool, true, false, if◌then◌else◌, ◌&&◌, ◌||◌, not, Option, Some, None, List, [], ◌∷◌, ◌++◌}
use Rattle.std.specs.Option.{is_some, unwrap_or}
use Rattle.library_model.specs.Named.{Named, named}
use Rattle.statement_syntax.specs.declared.Written.{Written}
use Rattle.script_builder.specs.declared.phrases.Block.{Block}
use Rattle.script_builder.specs.declared.phrases.Block.TheVariants.{ThenBlock, ElseBlock, LoopBlock}
use Rattle.script_builder.specs.declared.phrases.Nesting.{Nesting}
use Rattle.script_builder.specs.declared.phrases.Nesting.TheVariants.{Opens, Closes, Stays}
use Rattle.script_builder.specs.declared.ways.Way.{Way}
use Rattle.script_builder.specs.Phrases.{counts, is_else, nesting_of, target_of}
use Rattle.script_builder.specs.Nestings.{top, under, depth_after, behind_block}

abbrev pub counted : Bool → ℕ → ℕ
counted true n = suc n
counted false n = n

-- how many of these statements count
abbrev pub count_of : List Written → ℕ
count_of [] = 0
count_of (w ∷ ws) = counted (counts w.phrase) (count_of ws)

-- the place of the first that counts from here on: the script has this length
abbrev pub place_of : List Written → ℕ → ℕ
place_of rest total = total - count_of rest

-- one name more, unless it's there already
abbrev pub with_new : List ℕ → ℕ → Named ℕ → Named ℕ
with_new name number names = if is_some (named name names) then names else names ++ (name, number) ∷ []

abbrev pub with_label : ℕ → Option (List ℕ) → ℕ → Named ℕ → Named ℕ
with_label zero None place labels = labels
with_label zero (Some label) place labels = with_new label place labels
with_label (suc depth) label place labels = labels

-- the labels that stand outside blocks, after those before; each names the place of the next statement that counts
abbrev pub labels_of : List Written → ℕ → ℕ → Named ℕ → Named ℕ
labels_of [] total depth before = before
labels_of (w ∷ ws) total depth before =
    labels_of ws total (depth_after depth (nesting_of w.phrase)) (with_label depth w.label (place_of (w ∷ ws) total) before)

abbrev pub label_place : Named ℕ → List ℕ → ℕ
label_place labels label = unwrap_or (named label labels) 0

abbrev pub is_closing : Nesting → Bool
is_closing (Opens block) = false
is_closing Closes = true
is_closing Stays = false

-- an ENDDO comes before the next statement that counts
abbrev pub leaves : List Written → Bool
leaves [] = false
leaves (w ∷ ws) = not (counts w.phrase) && (is_closing (nesting_of w.phrase) || leaves ws)

abbrev pub leading : Bool → Option ℕ → ℕ → ℕ
leading true (Some exit) place = exit
leading true None place = place
leading false exit place = place

-- where the script goes on that comes to these statements: at the next that counts, but an ENDDO before it leads to the exit of its
-- block. The exits of the open blocks come the innermost first.
abbrev pub goes_on : List Written → ℕ → List ℕ → ℕ
goes_on rest total exits = leading (leaves rest) (top exits) (place_of rest total)

-- what comes after these statements' ELSE and its block, if they begin with one
abbrev pub past_else : List Written → List Written
past_else [] = []
past_else (w ∷ ws) = if is_else w.phrase then behind_block ws 0 else w ∷ ws

-- where a block that opens before the rest leads at its ENDDO: past the ELSE of an IF, or back to the DOWHILE
abbrev pub exit_of : Block → ℕ → List Written → ℕ → List ℕ → ℕ
exit_of ThenBlock place rest total exits = goes_on (past_else (behind_block rest 0)) total exits
exit_of ElseBlock place rest total exits = goes_on (behind_block rest 0) total exits
exit_of LoopBlock place rest total exits = place

-- the exits of the open blocks after a statement at this place
abbrev pub exits_after : Nesting → ℕ → List Written → ℕ → List ℕ → List ℕ
exits_after (Opens block) place rest total exits = exit_of block place rest total exits ∷ exits
exits_after Closes place rest total exits = under exits
exits_after Stays place rest total exits = exits

-- a statement with a label leads to it, any other on
abbrev pub next_of : Option (List ℕ) → Named ℕ → ℕ → ℕ
next_of None labels on = on
next_of (Some label) labels on = label_place labels label

-- where a condition that doesn't hold leads: after the block, or on
abbrev pub otherwise_of : Nesting → List Written → ℕ → List ℕ → ℕ
otherwise_of (Opens block) rest total exits = goes_on (behind_block rest 0) total exits
otherwise_of Closes rest total exits = goes_on rest total exits
otherwise_of Stays rest total exits = goes_on rest total exits

-- where each statement leads; what stands here of one that doesn't count is not used
abbrev pub ways_of : List Written → Named ℕ → ℕ → List ℕ → List Way
ways_of [] labels total exits = []
ways_of (w ∷ ws) labels total exits =
    let nesting = nesting_of w.phrase in
    let inside = exits_after nesting (place_of (w ∷ ws) total) ws total exits in
    let way : Way = record {
      next = next_of (target_of w.phrase) labels (goes_on ws total inside);
      otherwise = otherwise_of nesting ws total exits;
    } in
    way ∷ ways_of ws labels total inside
