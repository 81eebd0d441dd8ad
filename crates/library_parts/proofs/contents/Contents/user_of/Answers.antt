use Rattle.std.proofs.Common.{sym}
use Rattle.library_steps.specs.State.{memory_of}
use Rattle.parts_model.specs.Parts.{state_of}
use Rattle.library_parts.proofs.contents.Contents.user_of.Goals as goal

pub returns : goal.returns
returns c =
    let parts = c.self.inside in
    let memory = memory_of (state_of parts.catalogue parts.members parts.next_member parts.journal parts.locks parts.jobs) in
    rw (← c.self.view_is, c.lesser.ensures, c.first_user.ensures, c.boundary_in.ensures) (sym (c.users_are_joined.ensures.user c.args.member memory c.self.invariant.0.lawful.keepers))
