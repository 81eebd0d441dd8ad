use Rattle.cycles_kept.proofs.HoldLemmas.{holds-done}
use Rattle.cycles_kept.proofs.JournalLemmas.{IsJournaled}
use Rattle.cycles_kept.proofs.JournalSteps.{change-journaled}
use Rattle.library_steps.specs.State.{memory_of}
use Rattle.library_steps.specs.Step.{change}
use Rattle.deposited_entries.proofs.deposits_are_numbered.Goals as goal

pub returns : goal.returns
returns c = λ s done d.
    (holds-done (change d.sources d.read (memory_of s) d.job d.timestamp d.request) (IsJournaled s) done d.does
    (change-journaled s d.sources d.job d.timestamp d.read d.reads d.request)).numbered
