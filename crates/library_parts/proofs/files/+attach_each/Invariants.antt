use Rattle.std.proofs.Common.{vec_len}
use Rattle.library_parts.proofs.files.+attach_each.Given as goal

abbrev pub decreases-attach_each : goal.decreases-attach_each
decreases-attach_each l = vec_len l.specs.now
