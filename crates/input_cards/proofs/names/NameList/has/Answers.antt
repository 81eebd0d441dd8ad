use Rattle.std.proofs.Common.{◌∙◌, ap}
use Rattle.std.specs.Option.{is_some}
use Rattle.library_model.specs.Named.{same_name}
use Rattle.input_cards.proofs.NameLemmas.{position-some}
use Rattle.input_cards.proofs.names.NameList.has.Goals as goal

pub returns : goal.returns
returns c = c.is_some.ensures ∙ ap (λ o. is_some o) c.place.ensures.place ∙ position-some (same_name c.args.name.now) c.args.self.now
