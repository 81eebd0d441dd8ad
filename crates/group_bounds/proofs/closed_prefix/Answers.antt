use Rattle.std.proofs.Common.{None, arith}
use Rattle.journal_model.specs.Acts.{acts}
use Rattle.group_bounds.proofs.PartLemmas.{prefix-some, prefix-within}
use Rattle.group_bounds.proofs.closed_prefix.Goals as goal

pub overflow_sub-closed : goal.overflow_sub-closed
overflow_sub-closed c =
    let some = prefix-some c.args.member c.args.entries.now c.requires.some None c.in_ok-walk_forward.field-0 (c.in_ok-walk_forward.ensures.walked None) c.in_ok-closed.ensures.cut in
    omega (arith, c.in_ok-closed.ensures.count, some)

pub sequence_at-requires-2-clause-there : goal.sequence_at-requires-2-clause-there
sequence_at-requires-2-clause-there c =
    let within = prefix-within c.args.member c.args.entries.now c.requires.some None c.in_ok-walk_forward.field-0 (c.in_ok-walk_forward.ensures.walked None) in
    omega (arith, c.requires.some, c.in_ok-closed.ensures.count, within)

pub returns-clause-nonempty : goal.returns-clause-nonempty
returns-clause-nonempty c = λ prior.
    let w = c.in_ok-walk_forward.field-0 in
    let range = acts c.args.member prior c.args.entries.now in
    let h = c.in_ok-walk_forward.ensures.walked prior in
    let some = prefix-some c.args.member c.args.entries.now c.requires.some prior w h c.in_ok-closed.ensures.cut in
    omega (arith, some, h.closed)
