use Rattle.std.proofs.Common.{arith, rules}
use Rattle.text_lines.specs.Characters.{folded}
use Rattle.dds_source.proofs.LineLemmas.{fold_more}
use Rattle.dds_source.proofs.lines.fold.Goals as goal

pub loop-i-preserved : goal.loop-i-preserved
loop-i-preserved c = fold_more folded c.args.text.now c.loop-i.text c.loop-i.i c.folded.result (omega arith) c.loop-i.invariant (search rules)
