use Rattle.lawful_states.proofs.MemberLemmas.{weight-part, is_some-IsSome}
use Rattle.library_parts.proofs.contents.Contents.weight.Goals as goal

pub returns-clause-few : goal.returns-clause-few
returns-clause-few c =
    rw (← c.self.view_is, c.weight.ensures.value) (weight-part c.args.member c.self.inside.members.members (is_some-IsSome _ (rw (← c.self.view_is) at c.requires)))
