use Rattle.journal_model.proofs.MemberLemmas.{acts-append}
use Rattle.journal_model.proofs.members.entries_are_read_alike.Goals as goal

pub returns : goal.returns
returns c = acts-append
