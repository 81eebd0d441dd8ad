use Rattle.parts_model.proofs.FilledLemmas.{AreOne-passed}
use Rattle.library_parts.proofs.contents.Contents.pass_numbers.Goals as goal

pub invariant_of-self : goal.invariant_of-self
invariant_of-self c = (AreOne-passed _ _ c.args.next (rw (← c.self.view_is) at c.requires) c.self.invariant.0, c.self.invariant.1, c.self.invariant.2)
