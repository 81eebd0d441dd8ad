use Rattle.std.proofs.Common.{length}
use Rattle.std.specs.List.{AllByRecursion}
use Rattle.range_requests.specs.Fits.{IsFit}
use Rattle.range_requests.proofs.fits.check_fit.Given as goal

abbrev pub invariant-loop-rest : goal.invariant-loop-rest
invariant-loop-rest l = AllByRecursion (IsFit l.format.fields) l.rest → AllByRecursion (IsFit l.format.fields) l.fn.given

abbrev pub decreases-loop-rest : goal.decreases-loop-rest
decreases-loop-rest l = length l.rest
