use Rattle.std.proofs.Common.{◌∙◌, ap, position}
use Rattle.library_model.specs.Named.{same_name}
use Rattle.input_cards.proofs.NameLemmas.{position-within}
use Rattle.input_cards.proofs.names.NameList.place.Goals as goal

pub returns-clause-within : goal.returns-clause-within
returns-clause-within c =
    position-within c.args.self.now c.args.name.now c.place.result
    (c.place.ensures ∙ c.self.invariant c.args.name.now ∙ ap (position (same_name c.args.name.now)) c.self.view_is)
