use Rattle.std.proofs.Common.{map, sym}
use Rattle.journal_replay.specs.Standing.{catalog_member}
use Rattle.journaled_entries.proofs.DepositedLemmas.{none-journaled}
use Rattle.journal_opening.proofs.deposited.is_journaled.Goals as goal

pub returns-in-None : goal.returns-in-None
returns-in-None c = rw c.in-None.is (sym (none-journaled (map catalog_member c.args.replay.now.members)))
