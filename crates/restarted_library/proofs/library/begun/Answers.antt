use Rattle.memory_journal.specs.Blanks.{blanks}
use Rattle.restarted_library.proofs.StepLemmas.{built-none}
use Rattle.restarted_library.proofs.library.begun.Goals as goal

pub returns : goal.returns
returns c = built-none (blanks 1 c.args.count) c.args.attached c.restarted.result.state c.restarted.ensures
