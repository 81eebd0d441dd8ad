-- What the pass from the last statement to the first notes, so that each way is known without another look at the statements. (Our own.)
use Rattle.std.specs.Prelude.{ℕ, ◌-◌, if◌then◌else◌, ◌&&◌, ◌||◌, not, List, [], ◌∷◌}
use Rattle.library_model.specs.Named.{Named}
use Rattle.statement_syntax.specs.declared.Phrase.{Phrase}
use Rattle.statement_syntax.specs.declared.Written.{Written}
use Rattle.script_builder.specs.declared.phrases.Block.{Block}
use Rattle.script_builder.specs.declared.phrases.Block.TheVariants.{ThenBlock, ElseBlock, LoopBlock}
use Rattle.script_builder.specs.declared.phrases.Nesting.{Nesting}
use Rattle.script_builder.specs.declared.phrases.Nesting.TheVariants.{Opens, Closes, Stays}
use Rattle.script_builder.specs.declared.rests.Landing.{Landing}
use Rattle.script_builder.specs.declared.rests.Ahead.{Ahead}
use Rattle.script_builder.specs.declared.rests.Rest.{Rest}
use Rattle.script_builder.specs.declared.ways.Way.{Way}
use Rattle.script_builder.specs.Phrases.{counts, is_else, nesting_of, target_of}
use Rattle.script_builder.specs.Nestings.{top, under, behind_block}
use Rattle.script_builder.specs.Ways.{counted, count_of, leaves, is_closing, leading, past_else, next_of}

abbrev pub landing_of : List Written → Landing
landing_of ws = record { count = count_of ws; leaves = leaves ws }

abbrev pub ahead_of : List Written → Ahead
ahead_of ws = record { here = landing_of ws; past_else = landing_of (past_else ws) }

-- what follows a statement, and what follows the block that opens with it
abbrev pub rest_of : List Written → Rest
rest_of ws = record { here = landing_of ws; behind = ahead_of (behind_block ws 0) }

abbrev pub rests_of : List Written → List Rest
rests_of [] = []
rests_of (w ∷ ws) = rest_of ws ∷ rests_of ws

-- what is ahead with one statement more
abbrev pub landing_before : Phrase → Landing → Landing
landing_before phrase here =
    record { count = counted (counts phrase) here.count; leaves = not (counts phrase) && (is_closing (nesting_of phrase) || here.leaves) }

abbrev pub ahead_before : Phrase → Ahead → Ahead → Ahead
ahead_before phrase ahead behind =
    let here = landing_before phrase ahead.here in
    record { here = here; past_else = if is_else phrase then behind.here else here }

-- what is ahead of the ENDDO of each block that is open before some statements, the innermost first
abbrev pub ends_after : Nesting → Ahead → List Ahead → List Ahead
ends_after (Opens block) ahead ends = under ends
ends_after Closes ahead ends = ahead ∷ ends
ends_after Stays ahead ends = ends

-- the ways, by what was noted
abbrev pub lead : Landing → ℕ → List ℕ → ℕ
lead landing total exits = leading landing.leaves (top exits) (total - landing.count)

abbrev pub exit_by : Block → ℕ → Rest → ℕ → List ℕ → ℕ
exit_by ThenBlock place rest total exits = lead rest.behind.past_else total exits
exit_by ElseBlock place rest total exits = lead rest.behind.here total exits
exit_by LoopBlock place rest total exits = place

abbrev pub exits_by : Nesting → ℕ → Rest → ℕ → List ℕ → List ℕ
exits_by (Opens block) place rest total exits = exit_by block place rest total exits ∷ exits
exits_by Closes place rest total exits = under exits
exits_by Stays place rest total exits = exits

abbrev pub otherwise_by : Nesting → Rest → ℕ → List ℕ → ℕ
otherwise_by (Opens block) rest total exits = lead rest.behind.here total exits
otherwise_by Closes rest total exits = lead rest.here total exits
otherwise_by Stays rest total exits = lead rest.here total exits

abbrev pub way_by : Phrase → Rest → Named ℕ → ℕ → List ℕ → List ℕ → Way
way_by phrase rest labels total exits inside =
    record { next = next_of (target_of phrase) labels (lead rest.here total inside); otherwise = otherwise_by (nesting_of phrase) rest total exits }
