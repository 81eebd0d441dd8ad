use Rattle.file_catalogue.specs.Bodies.{spec_in}
use Rattle.lawful_states.specs.Statuses.{after}
use Rattle.file_catalogue.proofs.OwnMemberLemmas.{members-changed}
use Rattle.file_catalogue.proofs.files.File.change.Goals as goal

pub invariant_of-self : goal.invariant_of-self
invariant_of-self c =
    rw c.change.ensures (
      c.self.invariant.0,
      members-changed c.args.number (after c.args.change) (spec_in c.self.inside.body) c.self.inside.members c.self.invariant.1,
    )
