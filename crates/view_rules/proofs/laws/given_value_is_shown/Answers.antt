use Rattle.view_rules.proofs.ShownLemmas.{given-shown, given-equal}
use Rattle.view_rules.proofs.laws.given_value_is_shown.Goals as goal

pub returns-clause-shown : goal.returns-clause-shown
returns-clause-shown c = given-shown

pub returns-clause-equal : goal.returns-clause-equal
returns-clause-equal c = given-equal
