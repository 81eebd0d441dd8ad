use Rattle.std.proofs.Common.{◌∙◌, Option, [], sym, ap}
use Rattle.std.specs.Option.{is_some, option_map, option_map_or}
use Rattle.journal_replay.specs.Standing.{catalog_member}
use Rattle.replay_members.specs.Bodies.{Body, held}
use Rattle.replay_members.proofs.HeldLemmas.{held-there, held-slots, held-catalogued}
use Rattle.replay_members.proofs.members.Members.numbered.Goals as goal

pub returns-clause-there : goal.returns-clause-there
returns-clause-there c = rw (← c.self.view_is) (held-there c.args.number c.self.inside.members.entries ∙ ap is_some (sym c.get.ensures.value))

pub returns-clause-slots : goal.returns-clause-slots
returns-clause-slots c = rw (← c.self.view_is) (held-slots c.args.number c.self.inside.members.entries ∙ ap (λ (o : Option Body). option_map_or (λ (b : Body). b.slots) o []) (sym c.get.ensures.value))

pub returns-clause-catalogued : goal.returns-clause-catalogued
returns-clause-catalogued c = rw (← c.self.view_is)
    (held-catalogued c.args.number c.self.inside.members.entries ∙ ap (option_map (λ (b : Body). catalog_member (held (c.args.number, b)))) (sym c.get.ensures.value))
