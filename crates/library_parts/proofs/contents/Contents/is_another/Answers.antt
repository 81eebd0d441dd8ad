use Rattle.std.proofs.Common.{◌∙◌, take, sym}
use Rattle.library_steps.specs.LogicalFiles.{paths_over}
use Rattle.library_steps.specs.State.{memory_of}
use Rattle.parts_model.specs.Parts.{state_of}
use Rattle.parts_model.proofs.ManyPaths.{kept-told, new-told}
use Rattle.library_parts.proofs.contents.Contents.is_another.Goals as goal

pub returns : goal.returns
returns c =
    let parts = c.self.inside in
    let m = memory_of (state_of parts.catalogue parts.members parts.next_member parts.journal parts.locks parts.jobs) in
    let path = c.args.path.now in
    rw (← c.self.view_is)
    (new-told c.args.member path (paths_over c.args.member m) (take c.args.place c.args.paths.now) c.is_new.result c.is_over.result c.is_some.result c.stands_before.result c.is_new.ensures c.is_over.ensures
    (λ over. kept-told c.args.member m parts.paths.paths c.kept-kept.ensures.shared c.self.invariant.2.paths path c.number_of-kept.result over c.number_of-kept.ensures ∙ sym c.is_some.ensures)
    c.stands_before.ensures)
