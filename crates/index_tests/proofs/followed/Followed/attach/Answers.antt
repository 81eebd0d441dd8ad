use Rattle.std.proofs.Common.{ap, refl}
use Rattle.path_set.specs.KeptPaths.{KeptPaths}
use Rattle.index_tests.proofs.FollowLemmas.{can-keep, followed-attached, followed-moved}
use Rattle.index_tests.proofs.followed.Followed.attach.Goals as goal

pub attach-requires : goal.attach-requires
attach-requires c = can-keep c.args.spec c.self.inside.members.members c.self.inside.paths.paths c.requires c.self.invariant

pub invariant_of-self : goal.invariant_of-self
invariant_of-self c =
    followed-moved c.self.inside.members.members c.self.inside.members.members c.self.inside.paths.paths c.attach.new.self.paths refl (ap (λ (k : KeptPaths). k.paths) c.in_err-id.ensures.refused)
    c.self.invariant

pub invariant_of-self-2 : goal.invariant_of-self-2
invariant_of-self-2 c =
    followed-attached c.args.spec c.in_ok-id.id c.self.inside.members.members c.self.inside.paths.paths c.attach.new.self.paths c.requires c.in_ok-id.ensures.attached c.self.invariant
