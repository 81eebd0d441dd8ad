use Rattle.std.proofs.Common.{◌≡◌, None, ◌∙◌, arith}
use Rattle.journal_model.specs.Acts.{acts}
use Rattle.group_bounds.proofs.PartLemmas.{same_part, suffix-some, suffix-within, suffix-part}
use Rattle.group_bounds.proofs.ReverseLemmas.{closed_suffix-reverse}
use Rattle.group_bounds.proofs.closed_suffix.Goals as goal

pub overflow_sub-entries : goal.overflow_sub-entries
overflow_sub-entries c =
    let within = suffix-within c.args.member c.args.entries.now c.requires.some None c.in_ok-walk_back.field-0 (c.in_ok-walk_back.ensures.walked None) in
    omega (arith, c.in_ok-closed.ensures.count, within)

pub sequence_at-requires-clause-there : goal.sequence_at-requires-clause-there
sequence_at-requires-clause-there c =
    let some = suffix-some c.args.member c.args.entries.now c.requires.some None c.in_ok-walk_back.field-0 (c.in_ok-walk_back.ensures.walked None) c.in_ok-closed.ensures.cut in
    omega (arith, c.requires.some, c.in_ok-closed.ensures.count, some)

pub returns-clause-part : goal.returns-clause-part
returns-clause-part c = λ prior.
    let w = c.in_ok-walk_back.field-0 in
    let some = suffix-some c.args.member c.args.entries.now c.requires.some None w (c.in_ok-walk_back.ensures.walked None) c.in_ok-closed.ensures.cut in
    let within = suffix-within c.args.member c.args.entries.now c.requires.some None w (c.in_ok-walk_back.ensures.walked None) in
    let count : c.in_ok-closed.closed ≡ w.closed = c.in_ok-closed.ensures.count in
    same_part _ _ _ _ c.sequence_at.ensures c.sequence_at-2.ensures
    ∙ suffix-part c.args.member c.args.entries.now prior w c.in_ok-closed.closed (c.in_ok-walk_back.ensures.walked prior) count (omega (arith, some)) (omega (arith, within))

pub returns-clause-nonempty : goal.returns-clause-nonempty
returns-clause-nonempty c = λ prior.
    let w = c.in_ok-walk_back.field-0 in
    let range = acts c.args.member prior c.args.entries.now in
    let h = c.in_ok-walk_back.ensures.walked prior in
    let some = suffix-some c.args.member c.args.entries.now c.requires.some prior w h c.in_ok-closed.ensures.cut in
    omega (arith, some, h.closed, closed_suffix-reverse range)
