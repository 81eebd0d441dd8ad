use Rattle.std.proofs.Common.{◌<◌, nat_lt, Some, ap, ◌∙◌, arith}
use Rattle.member_slots.specs.declared.member.TheConstants.{MOST_SLOTS}
use Rattle.file_cursor.proofs.NumberedLemmas.{prior-numbered, prior-all}
use Rattle.file_cursor.proofs.numbered.prior.Goals as goal
use Rattle.file_cursor.proofs.numbered.prior.Goals.{in-Some, in-None}

pub returns-in_default : goal.returns-in_default
returns-in_default c =
    c.in_default.ensures
    ∙ elim c.match-by_numbers.branch [
      | in-Some w ↦
          prior-numbered c.args.pages.now c.requires c.args.spot.now.position c.on_number.result w.in-Some.gap w.in-Some.ensures
          (λ e by few. c.on_number.ensures.before e by few ∙ ap (λ u. nat_lt e.rrn u) w.until-is)
      | in-None w ↦
          prior-all c.args.pages.now c.requires c.args.spot.now.position c.on_number.result c.match-by_numbers.until
          (let is = w.until-is in let far : MOST_SLOTS < c.match-by_numbers.until = omega (arith, is) in far)
          w.in-None.ensures c.on_number.ensures.before
    ]

pub returns : goal.returns
returns c =
    ap Some c.hit_on.ensures
    ∙ c.in-Some-prior_entry.ensures
    ∙ elim c.match-by_numbers.branch [
      | in-Some w ↦
          prior-numbered c.args.pages.now c.requires c.args.spot.now.position c.on_number.result w.in-Some.gap w.in-Some.ensures
          (λ e by few. c.on_number.ensures.before e by few ∙ ap (λ u. nat_lt e.rrn u) w.until-is)
      | in-None w ↦
          prior-all c.args.pages.now c.requires c.args.spot.now.position c.on_number.result c.match-by_numbers.until
          (let is = w.until-is in let far : MOST_SLOTS < c.match-by_numbers.until = omega (arith, is) in far)
          w.in-None.ensures c.on_number.ensures.before
    ]
