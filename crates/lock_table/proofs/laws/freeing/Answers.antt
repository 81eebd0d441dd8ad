use Rattle.std.proofs.Common.{not}
use Rattle.lock_table.proofs.LawLemmas.{HoldsChange-freed}
use Rattle.lock_table.proofs.Releases.{AreCompatible-filter}
use Rattle.lock_table.proofs.laws.freeing.Goals as goal

pub returns-clause-compatible : goal.returns-clause-compatible
returns-clause-compatible c = λ gone. AreCompatible-filter (λ l. not (gone l))

pub returns-clause-changes : goal.returns-clause-changes
returns-clause-changes c = HoldsChange-freed
