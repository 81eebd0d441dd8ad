use Rattle.member_slots.specs.Members.{with_member}
use Rattle.path_set.proofs.RebuildLemmas.{IsMaking}
use Rattle.path_set.proofs.set.PathSet.prepare_rebuild.Given as goal

abbrev pub invariant-loop-turn : goal.invariant-loop-turn
invariant-loop-turn l = IsMaking (with_member l.number l.member.state l.members.members) l.number l.held l.self.paths l.turn l.rebuilt
