use Rattle.deposited_entries.proofs.SpelledRequests.{deposits-spelled}
use Rattle.deposited_entries.proofs.deposits_have_spellings.Goals as goal

pub returns : goal.returns
returns c = deposits-spelled
