use Rattle.std.proofs.Common.{◌≡◌, ◌∙◌, ◌&&◌, ◌++◌, not, length, refl, subst, sym, take}
use Rattle.std.specs.List.{list_any}
use Rattle.std.specs.Prelude.{filter}
use Rattle.std.proofs.lemmas.Option.{slice_get_read}
use Rattle.file_model.specs.declared.paths.PathSpec.{PathSpec}
use Rattle.library_steps.specs.FilePaths.{is_over}
use Rattle.library_steps.specs.SamePaths.{same_path}
use Rattle.library_steps.specs.LogicalFiles.{paths_over}
use Rattle.library_steps.specs.State.{memory_of}
use Rattle.lawful_states.proofs.NameLemmas.{some-equal}
use Rattle.library_parts.proofs.contents.Contents.is_new_over.Goals as goal

pub returns : goal.returns
returns c = λ path at.
    let paths = c.args.paths.now in
    let own = c.index-paths-place.result in
    let same : own ≡ path = some-equal (sym (slice_get_read paths (length paths) c.args.place own refl c.requires c.index-paths-place.is) ∙ at) in
    subst (λ (p : PathSpec). c.is_another.result ≡ (is_over c.args.member p && not (list_any (same_path p) (paths_over c.args.member (memory_of c.args.self.now.state)
    ++ filter (is_over c.args.member) (take c.args.place paths))))) same c.is_another.ensures
