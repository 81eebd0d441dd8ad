use Rattle.std.proofs.Common.{length, refl}
use Rattle.std.proofs.lemmas.Option.{slice_get_read}
use Rattle.library_steps.specs.LogicalFiles.{bases_of}
use Rattle.library_steps.specs.State.{memory_of}
use Rattle.parts_model.proofs.UnderLemmas.{each-under}
use Rattle.library_parts.proofs.contents.Contents.base_among.Goals as goal

pub returns : goal.returns
returns c =
    let views = c.args.views.now in
    let view = c.index-views-place.result in
    let at = slice_get_read views (length views) c.args.place view refl c.requires c.index-views-place.is in
    each-under (bases_of (memory_of c.args.self.now.state)) views c.args.place c.base_of_view.result view at c.base_of_view.ensures
