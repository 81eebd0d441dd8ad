use Rattle.std.proofs.Common.{◌≡◌, ◌++◌, drop, map}
use Rattle.logical_laws.specs.FilePaths.{view_format}
use Rattle.logical_paths.proofs.paths.view_formats.Given as goal

abbrev pub invariant-loop-view : goal.invariant-loop-view
invariant-loop-view g l = l.formats ++ map (view_format (g.B.BaseFiles.bases l.bases)) (drop l.view-index l.views) ≡ map (view_format (g.B.BaseFiles.bases l.bases)) l.views
