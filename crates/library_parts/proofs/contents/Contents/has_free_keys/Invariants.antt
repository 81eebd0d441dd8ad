use Rattle.library_steps.specs.State.{memory_of}
use Rattle.parts_model.proofs.FreePaths.{IsFreeAt}
use Rattle.parts_model.proofs.UniqueOver.{AreDoneTo, left_from}
use Rattle.library_parts.proofs.contents.Contents.has_free_keys.Given as goal

abbrev pub invariant-loop-path : goal.invariant-loop-path
invariant-loop-path l =
    AreDoneTo l.new.member l.self.room.paths.paths (IsFreeAt (memory_of l.self.state) l.self.room.paths.paths l.new.job l.new.commit l.new.member l.new.rrn l.new.image.now) l.path

abbrev pub decreases-loop-path : goal.decreases-loop-path
decreases-loop-path l = left_from l.path l.self.room.paths.paths
