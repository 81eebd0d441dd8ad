use Rattle.std.proofs.Common.{◌≡◌, ◌++◌, drop, map}
use Rattle.logical_laws.specs.FilePaths.{secondary_of}
use Rattle.logical_paths.specs.Steps.{HaveDefaults}
use Rattle.logical_paths.proofs.readings.secondaries_of.Given as goal

abbrev pub invariant-loop-joined : goal.invariant-loop-joined
invariant-loop-joined g l = record {
  fits : HaveDefaults (g.B.BaseFiles.bases l.bases) (drop l.joined-index l.files);
  same : l.secondaries ++ map (secondary_of (g.B.BaseFiles.bases l.bases)) (drop l.joined-index l.files) ≡ map (secondary_of (g.B.BaseFiles.bases l.bases)) l.files;
}
