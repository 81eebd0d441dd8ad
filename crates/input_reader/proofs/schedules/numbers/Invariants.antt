use Rattle.std.proofs.Common.{◌≡◌, ◌++◌, drop, map}
use Rattle.input_reader.specs.Input.{job_number}
use Rattle.input_reader.proofs.schedules.numbers.Given as goal

abbrev pub invariant-loop-name : goal.invariant-loop-name
invariant-loop-name l = l.numbers ++ map (job_number l.jobs) (drop l.name-index l.names) ≡ map (job_number l.jobs) l.names
