use Rattle.bench.specs.Ready.{HasBegun}
use Rattle.bench.proofs.library.begin_jobs.Given as goal

abbrev pub invariant-loop : goal.invariant-loop
invariant-loop l = HasBegun l.counter l.library
