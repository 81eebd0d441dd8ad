use Rattle.std.proofs.Common.{ap}
use Rattle.path_set.specs.KeptPaths.{KeptPaths}
use Rattle.index_tests.proofs.FollowLemmas.{followed-new}
use Rattle.index_tests.proofs.followed.Followed.new.Goals as goal

pub invariant_of-result : goal.invariant_of-result
invariant_of-result c =
    followed-new c.put.new.self.members c.new-members.result.members c.new.result.state c.new-paths.result.paths c.new.ensures c.new-members.ensures.members c.in_ok-put.ensures.put
    (ap (λ (k : KeptPaths). k.paths) c.new-paths.ensures)
