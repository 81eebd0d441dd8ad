use Rattle.std.proofs.Common.{length}
use Rattle.library_parts.proofs.files.+detach_each.Given as goal

abbrev pub decreases-detach_each : goal.decreases-detach_each
decreases-detach_each l = length l.ids.now
