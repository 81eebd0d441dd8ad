use Rattle.std.proofs.Common.{◌∙◌, ℕ, Bool, Option, None, if◌then◌else◌, ap}
use Rattle.logical_model.specs.FilePaths.{logical_paths}
use Rattle.library_steps.specs.CreateLogicalFile.{first_undone, is_unique}
use Rattle.library_steps.specs.LogicalFiles.{bases_of}
use Rattle.library_steps.specs.State.{memory_of}
use Rattle.file_requests.proofs.views.undone_under.Goals as goal

pub returns : goal.returns
returns c =
    let m = memory_of c.args.contents.now.state in
    let paths = logical_paths (bases_of m) c.args.view.now in
    c.undone_if.ensures
    ∙ ap (λ (unique : Bool). if unique then c.first_undone-undone.result else None) (c.is_unique.ensures (bases_of m))
    ∙ ap (λ (undone : Option ℕ). if is_unique paths then undone else None) (c.first_undone-undone.ensures ∙ ap (first_undone m) (c.as_slice.ensures ∙ c.in_ok-members.ensures))
