use Rattle.std.proofs.Common.{nat_eq}
use Rattle.indexmap.specs.IndexMap.{get}
use Rattle.open_cycles.specs.Kept.{same_record}
use Rattle.open_cycles.proofs.LastLemmas.{trimmed-found, trimmed-live}
use Rattle.open_cycles.proofs.kept.Changes.trim_last.Goals as goal

pub invariant_of-self : goal.invariant_of-self
invariant_of-self c =
    trimmed-found c.take_empty.result c.self.inside.kept.items c.take_empty.new.kept.items (get nat_eq c.self.inside.places) (get same_record c.self.inside.firsts) (get nat_eq c.self.inside.counts)
    c.take_empty.ensures.taken c.take_empty.ensures.same c.self.invariant

pub returns : goal.returns
returns c = rw (← c.self.view_is) (trimmed-live c.take_empty.result c.self.inside.kept.items c.take_empty.new.kept.items c.take_empty.ensures.taken c.take_empty.ensures.same)
