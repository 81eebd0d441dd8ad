use Rattle.opened_library.proofs.JudgedLemmas.{counted-members}
use Rattle.opened_library.proofs.judging.are_counted.Goals as goal

pub returns-in-None : goal.returns-in-None
returns-in-None c = λ is. counted-members c.args.members.now.members c.in-None.ensures.found
