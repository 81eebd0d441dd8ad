use Rattle.std.proofs.Common.{length}
use Rattle.hints.proofs.job_lines.JobLines.command_before.Given as goal

abbrev pub decreases-loop-statement : goal.decreases-loop-statement
decreases-loop-statement l = length l.rest
