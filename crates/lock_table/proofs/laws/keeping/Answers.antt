use Rattle.lock_table.proofs.LawLemmas.{AreCompatible-kept, HoldsChange-kept}
use Rattle.lock_table.proofs.laws.keeping.Goals as goal

pub returns-clause-compatible : goal.returns-clause-compatible
returns-clause-compatible c = AreCompatible-kept

pub returns-clause-changes : goal.returns-clause-changes
returns-clause-changes c = HoldsChange-kept
