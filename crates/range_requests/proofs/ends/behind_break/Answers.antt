use Rattle.std.proofs.Common.{◌≡◌, ◌+◌, ◌-◌, ◌<◌, cond, length, take, arith, sym, ◌∙◌, ap}
use Rattle.range_requests.specs.Ends.{behind_break}
use Rattle.range_requests.proofs.EndLemmas.{behind-step}
use Rattle.range_requests.proofs.ends.behind_break.Goals as goal

pub returns-then-breaks : goal.returns-then-breaks
returns-then-breaks c = λ now.
    let entries = c.args.entries.now in
    let i = c.loop-left.left - 1 in
    let next : c.loop-left.left ≡ i + 1 = omega arith in
    let below : i < length entries = omega (arith, c.loop-left.invariant.0) in
    let before = behind_break c.args.member now c.args.first (take i entries) in
    sym (c.loop-left.invariant.1 now)
    ∙ behind-step c.args.member now c.args.first entries c.loop-left.left i c.index-entries-left.result next below c.index-entries-left.is
    ∙ ap (λ b. cond b (c.args.first + i + 1) before) (sym c.breaks.ensures ∙ c.if-breaks.true)

pub loop-left-preserved : goal.loop-left-preserved
loop-left-preserved c =
    let entries = c.args.entries.now in
    let i = c.loop-left.left - 1 in
    let next : c.loop-left.left ≡ i + 1 = omega arith in
    let below : i < length entries = omega (arith, c.loop-left.invariant.0) in (
      omega (arith, c.loop-left.invariant.0),
      λ now.
          sym (behind-step c.args.member now c.args.first entries c.loop-left.left i c.index-entries-left.result next below c.index-entries-left.is
          ∙ ap (λ b. cond b (c.args.first + i + 1) (behind_break c.args.member now c.args.first (take i entries))) (sym c.breaks.ensures ∙ c.if-breaks.false))
          ∙ c.loop-left.invariant.1 now,
    )
