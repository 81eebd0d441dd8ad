use Rattle.std.proofs.Common.{◌∙◌, nat_eq, map, ap}
use Rattle.indexmap.proofs.CallerLemmas.{insert_entry-new}
use Rattle.replay_members.specs.Bodies.{held}
use Rattle.replay_members.proofs.HeldLemmas.{held-push, below-absent, below-more}
use Rattle.replay_members.proofs.members.Members.restore.Goals as goal

pub invariant_of-self-2 : goal.invariant_of-self-2
invariant_of-self-2 c =
    let entries = c.self.inside.members.entries in
    let above = rw (← c.self.view_is) at c.requires.above in
    rw (
      c.in_ok-_replaced.ensures.entries
          ∙ insert_entry-new nat_eq c.self.inside.members c.args.number c.args.member (below-absent _ c.args.number entries above c.self.invariant),
      held-push c.args.number c.args.member entries,
    )
    (below-more _ c.args.number c.args.member (map held entries) above c.self.invariant)

pub returns-clause-members : goal.returns-clause-members
returns-clause-members c =
    let entries = c.self.inside.members.entries in
    let above = rw (← c.self.view_is) at c.requires.above in
    rw (← c.self.view_is)
    (ap (map held) (c.in_ok-_replaced.ensures.entries
    ∙ insert_entry-new nat_eq c.self.inside.members c.args.number c.args.member (below-absent _ c.args.number entries above c.self.invariant))
    ∙ held-push c.args.number c.args.member entries)
