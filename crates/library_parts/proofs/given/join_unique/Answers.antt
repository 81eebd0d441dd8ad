use Rattle.std.proofs.Common.{◌≡◌, ◌∙◌, ap}
use Rattle.library_steps.specs.LogicalFiles.{bases_in}
use Rattle.library_steps.specs.FilePaths.{primary_path}
use Rattle.parts_model.specs.Steps.{own_path}
use Rattle.parts_model.proofs.JoinedUnique.{join-none, join-some}
use Rattle.library_parts.proofs.given.join_unique.Goals as goal

pub returns-in_ok-path : goal.returns-in_ok-path
returns-in_ok-path c = λ m name same.
    let files = c.args.catalogue.now.files in
    let path : c.in_ok-path.path ≡ primary_path (bases_in files) c.args.view.now = c.in_ok-path.ensures ∙ ap (own_path (bases_in files)) c.requires in
    join-some files c.args.view.now c.args.member c.base_of-base.result.0 c.base_of-base.ensures.member m name same c.in_ok-path.path path c.if-view.true c.if-base-member.true

pub returns-else-view : goal.returns-else-view
returns-else-view c = λ m name same.
    join-none c.args.catalogue.now.files c.args.view.now c.args.member c.base_of-base.result.0 c.base_of-base.ensures.member m name same c.else-view.either
