use Rattle.std.proofs.Common.{◌∙◌, sym, ap}
use Rattle.library_steps.specs.Bases.{base_members}
use Rattle.parts_model.specs.Users.{first_opener}
use Rattle.library_steps.specs.Checkpoint.{lesser}
use Rattle.library_steps.specs.LogicalFiles.{bases_of}
use Rattle.library_steps.specs.State.{memory_of}
use Rattle.parts_model.specs.Parts.{state_of}
use Rattle.library_parts.proofs.contents.Contents.user_of_view.Goals as goal

pub returns : goal.returns
returns c =
    let parts = c.self.inside in
    let memory = memory_of (state_of parts.catalogue parts.members parts.next_member parts.journal parts.locks parts.jobs) in
    let name = c.args.name.now in
    let under = rw (← c.self.view_is) at c.changer_under.ensures in
    rw (← c.self.view_is, c.lesser.ensures, c.first_opener.ensures)
    (ap (lesser (first_opener name memory.jobs)) under ∙ sym (c.view_users_are_joined.ensures.user name (base_members (bases_of memory) c.args.view.now) memory))
