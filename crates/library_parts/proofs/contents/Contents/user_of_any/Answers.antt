use Rattle.std.proofs.Common.{sym}
use Rattle.library_steps.specs.State.{memory_of}
use Rattle.library_parts.proofs.contents.Contents.user_of_any.Goals as goal

pub returns : goal.returns
returns c = rw c.least_user.ensures (sym (c.users_are_joined.ensures.any c.args.members.now (memory_of c.args.self.now.state)))
