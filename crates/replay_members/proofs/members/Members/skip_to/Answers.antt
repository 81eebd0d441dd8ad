use Rattle.replay_members.proofs.HeldLemmas.{below-weaker}
use Rattle.replay_members.proofs.members.Members.skip_to.Goals as goal

pub invariant_of-self : goal.invariant_of-self
invariant_of-self c = below-weaker _ _ _ (rw (← c.self.view_is) at c.requires) c.self.invariant
