use Rattle.deposited_entries.specs.Deposits.{AreShort}
use Rattle.bench.proofs.requests.Asker.sources.Given as goal

abbrev pub invariant-loop-digit : goal.invariant-loop-digit
invariant-loop-digit l = AreShort l.sources
