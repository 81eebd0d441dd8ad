use Rattle.lock_table.proofs.LawLemmas.{AreCompatible-call, HoldsChange-call, HoldsChange-changed, HoldsChange-others}
use Rattle.lock_table.proofs.laws.calls.Goals as goal

pub returns-clause-compatible : goal.returns-clause-compatible
returns-clause-compatible c = λ call level holder at is_committed. AreCompatible-call holder at is_committed call level

pub returns-clause-others : goal.returns-clause-others
returns-clause-others c = λ call level holder at is_committed job changed. HoldsChange-others holder at is_committed job changed call level

pub returns-clause-own : goal.returns-clause-own
returns-clause-own c = λ call level holder at is_committed job changed. HoldsChange-call holder at is_committed job changed call level

pub returns-clause-changed : goal.returns-clause-changed
returns-clause-changed c = λ call level holder at is_committed. HoldsChange-changed holder at is_committed call level
