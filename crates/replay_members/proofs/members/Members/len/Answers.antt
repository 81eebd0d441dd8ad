use Rattle.std.proofs.Common.{◌∙◌, sym}
use Rattle.std.proofs.lemmas.List.{length-map}
use Rattle.replay_members.specs.Bodies.{held}
use Rattle.replay_members.proofs.members.Members.len.Goals as goal

pub returns : goal.returns
returns c = rw (← c.self.view_is) (c.len.ensures.len ∙ sym (length-map c.self.inside.members.entries held))
