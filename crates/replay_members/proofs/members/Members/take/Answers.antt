use Rattle.std.proofs.Common.{◌∙◌, nat_eq, map, sym, ap}
use Rattle.std.specs.Map.{set_value}
use Rattle.std.specs.Option.{option_copied_mut}
use Rattle.replay_members.specs.Bodies.{held}
use Rattle.journal_replay.specs.MemberActs.{act_of}
use Rattle.replay_members.proofs.HeldLemmas.{held-acted, held-missing, below-set}
use Rattle.replay_members.proofs.members.Members.take.Goals as goal

pub invariant_of-self : goal.invariant_of-self
invariant_of-self c = rw c.get_mut.follows.holds-at-none c.self.invariant

pub invariant_of-self-in_err-take : goal.invariant_of-self-in_err-take
invariant_of-self-in_err-take c = rw ((c.get_mut.follows.holds c.take.new.self).0) (below-set _ _ _ _ c.self.invariant)

pub invariant_of-self-2 : goal.invariant_of-self-2
invariant_of-self-2 c = rw ((c.get_mut.follows.holds c.take.new.self).0) (below-set _ _ _ _ c.self.invariant)

pub returns-in_default-clause-members : goal.returns-in_default-clause-members
returns-in_default-clause-members c = rw (← c.self.view_is, c.get_mut.follows.holds-at-none)
    (sym (held-missing c.args.number (act_of c.args.act) c.args.sequence c.self.inside.members.entries (sym c.get_mut.ensures.value ∙ ap option_copied_mut c.in_default.is)))

pub returns-clause-members : goal.returns-clause-members
returns-clause-members c =
    let there = sym c.get_mut.ensures.value ∙ ap option_copied_mut c.in-Some.is in
    let entries = c.self.inside.members.entries in
    rw (← c.self.view_is)
    (ap (map held) ((c.get_mut.follows.holds c.take.new.self).0 ∙ ap (set_value (nat_eq c.args.number) entries) c.in_ok-take.ensures)
    ∙ held-acted c.args.number (act_of c.args.act) c.args.sequence c.in-Some.member.now entries c.get_mut.ensures.unique there)
