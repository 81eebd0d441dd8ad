use Rattle.std.proofs.Common.{ℕ, nat_lt, reverse, ap, ◌∙◌, arith}
use Rattle.std.specs.Prelude.{find}
use Rattle.std.specs.Option.{option_map}
use Rattle.std.proofs.lemmas.Grind.{common_steps}
use Rattle.file_cursor.specs.Reading.{numbered, numbers}
use Rattle.file_cursor.proofs.ReadLemmas.{prior-gap, prior-all}
use Rattle.file_cursor.proofs.arrival.prior.Goals as goal
use Rattle.file_cursor.proofs.arrival.prior.Goals.{in-Some, in-None}

pub returns : goal.returns
returns c =
    c.hit_on.ensures
    ∙ ap (option_map numbered) c.last_below.ensures
    ∙ elim c.match-by_numbers.branch [
      | in-Some w ↦
          ap (λ (until : ℕ). option_map numbered (find (λ n. nat_lt n until) (reverse (numbers c.args.member.now.state)))) w.until-is
          ∙ prior-gap c.args.spot.now.position c.args.member.now.state w.in-Some.gap w.in-Some.ensures
      | in-None w ↦
          prior-all c.args.spot.now.position c.args.member.now.state c.match-by_numbers.until w.in-None.ensures (grind (arith, common_steps))
    ]
