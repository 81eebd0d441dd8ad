use Rattle.index_tests.proofs.FollowLemmas.{record-asked}
use Rattle.index_tests.proofs.followed.Followed.clash.Goals as goal

pub clash-requires : goal.clash-requires
clash-requires c = record-asked c.args.id c.args.image.now c.self.inside.paths.paths c.requires c.self.invariant.asked
