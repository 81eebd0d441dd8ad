use Rattle.std.proofs.Common.{◌∙◌, sym}
use Rattle.library_steps.specs.State.{memory_of}
use Rattle.parts_model.specs.Parts.{state_of}
use Rattle.parts_model.proofs.ManyPaths.{counted-now}
use Rattle.library_parts.proofs.contents.Contents.count_now.Goals as goal

pub returns : goal.returns
returns c =
    let parts = c.self.inside in
    let m = memory_of (state_of parts.catalogue parts.members parts.next_member parts.journal parts.locks parts.jobs) in
    rw (← c.self.view_is) (c.count_over.ensures ∙ sym (counted-now c.args.member m parts.paths.paths c.kept-kept.ensures.shared c.self.invariant.2.paths))
