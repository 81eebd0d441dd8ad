use Rattle.std.proofs.Common.{rules}
use Rattle.replay_members.proofs.PutLemmas.{put-filled}
use Rattle.replay_members.proofs.member.put_slot.Goals as goal

pub returns : goal.returns
returns c = rw c.in_ok-fill.ensures (put-filled _ _ _ _ (search rules))
