use Rattle.std.proofs.Common.{◌≡◌, ◌==◌, ◌≤◌, ℕ, Some, ap, ◌∙◌, arith}
use Rattle.std.specs.Prelude.{find}
use Rattle.std.proofs.lemmas.Bool.Decides.{nat_tests}
use Rattle.std.proofs.lemmas.Grind.{common_steps}
use Rattle.file_cursor.specs.Reading.{numbers}
use Rattle.file_cursor.proofs.ArrivalLemmas.{equal-zero, equal-past, equal-live, equal-deleted}
use Rattle.file_cursor.proofs.arrival.is_record.Goals as goal
use Rattle.file_cursor.proofs.arrival.is_record.Goals.{then-rrn-eq0-via-then-rrn-eq0, then-rrn-eq0-via-else-rrn-eq0+then-rrn-slots}

pub returns-then-rrn-eq0 : goal.returns-then-rrn-eq0
returns-then-rrn-eq0 c =
    elim c.then-rrn-eq0.branch [
      | then-rrn-eq0-via-then-rrn-eq0 w ↦
          let zero_is : c.args.rrn ≡ 0 = grind (arith, nat_tests) in
          ap (λ (k : ℕ). find (λ n. n == k) (numbers c.args.member.now.state)) zero_is ∙ equal-zero c.args.member.now.state.slots
      | then-rrn-eq0-via-else-rrn-eq0+then-rrn-slots w ↦ equal-past c.args.rrn c.args.member.now.state.slots (grind (arith, common_steps))
    ]

pub returns-in-Live : goal.returns-in-Live
returns-in-Live c =
    let some : 1 ≤ c.args.rrn = grind (arith, nat_tests) in
    equal-live c.args.rrn c.args.member.now.state _ some (c.slot.ensures.value ∙ ap Some c.in-Live.is)

pub returns-in-Deleted : goal.returns-in-Deleted
returns-in-Deleted c =
    let some : 1 ≤ c.args.rrn = grind (arith, nat_tests) in
    equal-deleted c.args.rrn c.args.member.now.state some (c.slot.ensures.value ∙ ap Some c.in-Deleted.is)
