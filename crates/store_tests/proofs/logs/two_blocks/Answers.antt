use Rattle.std.proofs.Common.{[], ◌∙◌}
use Rattle.gated_log.proofs.Kept.{settled_same, is_settled_same}
use Rattle.store_tests.proofs.logs.two_blocks.Goals as goal

pub append-requires-clause-settled : goal.append-requires-clause-settled
append-requires-clause-settled g c = λ tells.
    let one = c.reserve.ensures in
    let two = c.reserve-2.ensures in
    is_settled_same c.reserve.new.self c.reserve-2.new.self _ two.same_area two.same_first two.same_version two.same_lengths
    (is_settled_same c.in_ok-log.log c.reserve.new.self _ one.same_area one.same_first one.same_version one.same_lengths ∣ ([], c.in_ok-log.ensures.created tells) ∣₁)

pub append-requires-2-clause-settled : goal.append-requires-2-clause-settled
append-requires-2-clause-settled g c = λ tells.
    let one = c.reserve.ensures in
    let two = c.reserve-2.ensures in
    let disk = g.S.Store.disk c.create.new.store in
    let once = settled_same c.in_ok-log.log c.reserve.new.self [] disk one.same_area one.same_first one.same_version one.same_lengths (c.in_ok-log.ensures.created tells) in
    let twice = settled_same c.reserve.new.self c.reserve-2.new.self [] disk two.same_area two.same_first two.same_version two.same_lengths once in
    ∣ (_, c.in_ok-append.ensures.appended tells [] _ (c.deref.ensures.value ∙ c.in_ok-first.ensures.framed) twice) ∣₁
