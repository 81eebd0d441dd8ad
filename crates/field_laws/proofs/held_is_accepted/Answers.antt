use Rattle.field_laws.proofs.AcceptedLemmas.{held-kept}
use Rattle.field_laws.proofs.held_is_accepted.Goals as goal

pub returns : goal.returns
returns c = record {
  accepted = λ t v image there. (held-kept t v image there).accepted;
  same = λ t v image there. (held-kept t v image there).same;
}
