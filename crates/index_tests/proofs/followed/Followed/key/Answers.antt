use Rattle.index_tests.proofs.FollowLemmas.{record-asked}
use Rattle.index_tests.proofs.followed.Followed.key.Goals as goal

pub key-requires : goal.key-requires
key-requires c = record-asked c.args.id c.args.image.now c.self.inside.paths.paths c.requires c.self.invariant.asked
