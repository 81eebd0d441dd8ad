use Rattle.std.proofs.Common.{◌≤◌, length, sym, arith}
use Rattle.std.proofs.lemmas.List.{take_all}
use Rattle.dds_source.proofs.lines.first_80.Goals as goal

pub returns-then-text-lt80-clause-value : goal.returns-then-text-lt80-clause-value
returns-then-text-lt80-clause-value c = let fits : length c.args.text.now ≤ 80 = omega arith in sym (take_all 80 c.args.text.now fits)
