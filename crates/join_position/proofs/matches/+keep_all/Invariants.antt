use Rattle.std.proofs.Common.{length}
use Rattle.join_position.proofs.matches.+keep_all.Given as goal

abbrev pub decreases-keep_all : goal.decreases-keep_all
decreases-keep_all l = length l.files.now
