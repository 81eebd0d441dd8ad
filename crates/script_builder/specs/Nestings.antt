-- Blocks within blocks. An ENDDO closes the innermost block that is open; where none is, it closes none. (CL programs: DO groups.)
use Rattle.std.specs.Prelude.{ℕ, zero, suc, ◌-◌, Bool, true, false, if◌then◌else◌, Option, Some, None, List, [], ◌∷◌}
use Rattle.statement_syntax.specs.declared.Written.{Written}
use Rattle.script_builder.specs.declared.phrases.Block.{Block}
use Rattle.script_builder.specs.declared.phrases.Block.TheVariants.{ThenBlock, ElseBlock, LoopBlock}
use Rattle.script_builder.specs.declared.phrases.Nesting.{Nesting}
use Rattle.script_builder.specs.declared.phrases.Nesting.TheVariants.{Opens, Closes, Stays}
use Rattle.script_builder.specs.Phrases.{nesting_of}

-- the first of a list, and the others
abbrev pub top : {A : Type 0} → List A → Option A
top [] = None
top (x ∷ xs) = Some x

abbrev pub under : {A : Type 0} → List A → List A
under [] = []
under (x ∷ xs) = xs

-- how many blocks are open after a statement
abbrev pub depth_after : ℕ → Nesting → ℕ
depth_after depth (Opens block) = suc depth
depth_after depth Closes = depth - 1
depth_after depth Stays = depth

-- an ENDDO where no block is open
abbrev pub closes_none : ℕ → Nesting → Bool
closes_none zero (Opens block) = false
closes_none zero Closes = true
closes_none zero Stays = false
closes_none (suc depth) nesting = false

-- the open blocks after a statement, the innermost first
abbrev pub blocks_after : List Block → Nesting → List Block
blocks_after blocks (Opens block) = block ∷ blocks
blocks_after blocks Closes = under blocks
blocks_after blocks Stays = blocks

abbrev pub is_then : Option Block → Bool
is_then None = false
is_then (Some ThenBlock) = true
is_then (Some ElseBlock) = false
is_then (Some LoopBlock) = false

-- the ENDDO of an IF
abbrev pub closes_then : List Block → Nesting → Bool
closes_then blocks (Opens block) = false
closes_then blocks Closes = is_then (top blocks)
closes_then blocks Stays = false

-- how many blocks are open after these statements
abbrev pub depth_behind : List Written → ℕ → ℕ
depth_behind [] depth = depth
depth_behind (w ∷ ws) depth = depth_behind ws (depth_after depth (nesting_of w.phrase))

-- what stands behind the ENDDO that closes the block which is open before these statements, where so many more have opened
abbrev pub behind_block : List Written → ℕ → List Written
behind_block [] depth = []
behind_block (w ∷ ws) depth =
    let nesting = nesting_of w.phrase in
    if closes_none depth nesting then ws else behind_block ws (depth_after depth nesting)
