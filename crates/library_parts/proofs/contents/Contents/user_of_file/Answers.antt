use Rattle.std.proofs.Common.{◌∙◌, sym, ap}
use Rattle.std.specs.Option.{option_copied}
use Rattle.library_steps.specs.State.{memory_of}
use Rattle.parts_model.proofs.UserKinds.{user-logical, user-physical}
use Rattle.library_parts.proofs.contents.Contents.user_of_file.Goals as goal

pub returns-in-Some : goal.returns-in-Some
returns-in-Some c =
    let file = c.args.file.now in
    let is = sym (ap option_copied c.in-Some.is) ∙ c.logical.ensures in
    c.user_of_view.ensures ∙ sym (user-logical file.spec c.in-Some.view.now c.args.name.now file (memory_of c.args.self.now.state) is)

pub returns-in-None : goal.returns-in-None
returns-in-None c =
    let file = c.args.file.now in
    let is = sym (ap option_copied c.in-None.is) ∙ c.logical.ensures in
    rw c.members.ensures at c.user_of_any.ensures ∙ sym (user-physical file.spec c.args.name.now file (memory_of c.args.self.now.state) is)
