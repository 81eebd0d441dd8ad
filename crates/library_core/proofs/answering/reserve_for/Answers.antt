use Rattle.library_core.proofs.JournalLemmas.{more-none}
use Rattle.library_core.proofs.answering.reserve_for.Goals as goal

pub returns-then-jobs-gt-MOST_JOBS-clause-same : goal.returns-then-jobs-gt-MOST_JOBS-clause-same
returns-then-jobs-gt-MOST_JOBS-clause-same c = more-none c.args.journal.now
