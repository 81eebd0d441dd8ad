use Rattle.std.proofs.Common.{map, sym, ap}
use Rattle.std.specs.Option.{is_some}
use Rattle.journal_replay.specs.Standing.{catalog_member}
use Rattle.replay_members.proofs.HeldLemmas.{none-numbered}
use Rattle.replay_step.proofs.replay.Replay.is_of_member.Goals as goal

pub returns-in-None : goal.returns-in-None
returns-in-None c = rw c.in-None.is (sym (ap is_some (none-numbered (map catalog_member c.args.self.now.members))))
