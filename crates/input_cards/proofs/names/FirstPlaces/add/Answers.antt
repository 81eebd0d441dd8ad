use Rattle.std.proofs.Common.{◌∙◌, nat_eq}
use Rattle.std.specs.Cmp.Lexicographic.{pointwise}
use Rattle.indexmap.proofs.CallerLemmas.{insert_entry-new}
use Rattle.input_cards.proofs.names.FirstPlaces.add.Goals as goal

pub returns : goal.returns
returns c =
    rw (← c.self.view_is)
    (c.in_ok-_replaced.ensures.entries
    ∙ insert_entry-new (pointwise nat_eq) c.self.inside.places c.args.name c.args.place (rw (← c.self.view_is) at c.requires))
