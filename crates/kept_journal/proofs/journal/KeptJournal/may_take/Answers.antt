use Rattle.kept_journal.proofs.Following.{follow-wait}
use Rattle.kept_journal.proofs.journal.KeptJournal.may_take.Goals as goal

pub returns : goal.returns
returns c = λ is. follow-wait c.args.self.now c.args.entries.now c.bounds-last.result.1 c.waiting_bytes.result c.bounds-last.ensures.last c.bounds-last.ensures.least c.waiting_bytes.ensures (c.may_follow.ensures is)
