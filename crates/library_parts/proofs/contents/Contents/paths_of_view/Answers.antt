use Rattle.std.proofs.Common.{◌≡◌, ◌∙◌, Some, sym, ap}
use Rattle.std.specs.Option.{option_copied}
use Rattle.parts_model.specs.Bodies.{logical_in}
use Rattle.parts_model.specs.PathChanges.{AreNumbers}
use Rattle.parts_model.proofs.IndexDeleted.{view-numbered}
use Rattle.library_parts.proofs.contents.Contents.paths_of_view.Goals as goal

pub returns-in_ok-ids-in-Some : goal.returns-in_ok-ids-in-Some
returns-in_ok-ids-in-Some c =
    let inside = c.self.inside in
    let logical : logical_in c.args.file.now.spec ≡ Some c.in-Some.view.now = sym c.logical.ensures ∙ ap option_copied c.in-Some.is in
    rw (← c.self.view_is)
    (view-numbered inside.catalogue.files inside.paths.paths c.args.file.now.spec c.in-Some.view.now c.in_ok-specs-in-Some.specs.items c.in_ok-ids-in-Some.ids.items logical
    (rw (← c.self.view_is) at c.in_ok-specs-in-Some.ensures) (rw c.as_slice.ensures.value at c.in_ok-ids-in-Some.ensures))
