use Rattle.std.proofs.Common.{◌≡◌, map, take}
use Rattle.job_runner.specs.Places.{first_place}
use Rattle.job_runner.proofs.session.first_places.Given as goal

abbrev pub invariant-loop-script : goal.invariant-loop-script
invariant-loop-script l = l.places.items ≡ map first_place (take l.script-index l.scripts)
