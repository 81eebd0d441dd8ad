use Rattle.std.proofs.Common.{◌≡◌, ◌<◌, Some, arith, length, slice_get, subst, sym}
use Rattle.library_steps.below.dds_logical.specs.declared.views.LogicalSpec.{LogicalSpec}
use Rattle.library_steps.specs.Bases.{base_members, base_names}
use Rattle.library_steps.specs.LogicalFiles.{bases_of}
use Rattle.library_steps.specs.State.{memory_of}
use Rattle.parts_model.proofs.UnderLemmas.{first-under}
use Rattle.library_parts.proofs.contents.Contents.base_at.Goals as goal

pub returns-in-Simple : goal.returns-in-Simple
returns-in-Simple c =
    let bases = bases_of (memory_of c.args.self.now.state) in
    let within = subst (λ (view : LogicalSpec). c.args.place < length (base_names view)) c.in-Simple.is c.requires in
    let first : c.args.place ≡ 0 = omega (arith, within) in
    subst (λ (view : LogicalSpec). slice_get (base_members bases view) c.args.place ≡ Some c.base_of_view.result) (sym c.in-Simple.is)
    (first-under bases c.in-Simple.view c.args.place c.base_of_view.result first c.base_of_view.ensures)
