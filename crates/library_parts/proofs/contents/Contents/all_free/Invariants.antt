use Rattle.library_steps.specs.State.{memory_of}
use Rattle.parts_model.proofs.FreePaths.{AreTestedTo}
use Rattle.library_parts.proofs.contents.Contents.all_free.Given as goal

abbrev pub invariant-loop-place : goal.invariant-loop-place
invariant-loop-place l = AreTestedTo l.test l.new.job l.new.commit l.new.member l.new.rrn l.new.image.now (memory_of l.self.state) l.place
