use Rattle.store_tests.proofs.logs.nth.Goals as goal

pub block-requires-clause-settled : goal.block-requires-clause-settled
block-requires-clause-settled g c = λ tells. ∣ c.in_ok-log.ensures.opened tells ∣₁
