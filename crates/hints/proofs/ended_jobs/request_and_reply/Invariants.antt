use Rattle.std.proofs.Common.{◌≤◌, length}
use Rattle.hints.proofs.ended_jobs.request_and_reply.Given as goal

abbrev pub invariant-loop-i : goal.invariant-loop-i
invariant-loop-i l = l.last ≤ length l.answered
