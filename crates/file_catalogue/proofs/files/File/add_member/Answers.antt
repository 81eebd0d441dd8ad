use Rattle.lawful_states.specs.CreatePhysicalFile.{new_status}
use Rattle.file_catalogue.specs.Bodies.{spec_in}
use Rattle.file_catalogue.proofs.OwnMemberLemmas.{some-member, member-more}
use Rattle.file_catalogue.proofs.files.File.add_member.Goals as goal

pub push-requires-clause-some : goal.push-requires-clause-some
push-requires-clause-some c =
    some-member (spec_in c.self.inside.body) c.self.inside.members (rw (← c.self.view_is) at c.requires.physical) c.self.invariant.1

pub invariant_of-self : goal.invariant_of-self
invariant_of-self c =
    rw c.push.ensures (
      c.self.invariant.0,
      member-more (spec_in c.self.inside.body) c.self.inside.members (c.args.member, new_status c.args.number) (rw (← c.self.view_is) at c.requires.physical),
    )
