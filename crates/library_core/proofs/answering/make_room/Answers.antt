use Rattle.library_core.proofs.JournalLemmas.{more-none}
use Rattle.library_core.proofs.answering.make_room.Goals as goal

pub returns-else-wants_memory-clause-same : goal.returns-else-wants_memory-clause-same
returns-else-wants_memory-clause-same c = more-none c.args.journal.now
