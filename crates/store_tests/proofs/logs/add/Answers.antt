use Rattle.gated_log.proofs.Kept.{is_settled_same}
use Rattle.store_tests.proofs.logs.add.Goals as goal

pub append-requires-clause-settled : goal.append-requires-clause-settled
append-requires-clause-settled g c = λ tells.
    is_settled_same c.in_ok-log.log c.reserve.new.self _ c.reserve.ensures.same_area c.reserve.ensures.same_first c.reserve.ensures.same_version c.reserve.ensures.same_lengths ∣ c.in_ok-log.ensures.opened tells ∣₁
