use Rattle.deposited_entries.proofs.BlockRequests.{deposits-blocked}
use Rattle.deposited_entries.proofs.deposits_fit_a_block.Goals as goal

pub returns : goal.returns
returns c = deposits-blocked
