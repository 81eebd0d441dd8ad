use Rattle.std.proofs.Common.{nat_eq, ◌≡◌, false}
use Rattle.std.specs.Option.{is_some}
use Rattle.indexmap.specs.IndexMap.{get}
use Rattle.open_cycles.specs.Kept.{live, last_of, same_record}
use Rattle.open_cycles.proofs.ReadLemmas.{found-forgotten}
use Rattle.open_cycles.proofs.kept.Changes.forget.Goals as goal

pub invariant_of-self : goal.invariant_of-self
invariant_of-self c =
    let none : is_some (last_of c.args.cycle (live c.self.inside.kept.items)) ≡ false = rw (← c.self.view_is) at c.requires in
    found-forgotten c.self.inside.kept.items (get nat_eq c.self.inside.places) (get nat_eq c.swap_remove-own.new.self) (get same_record c.self.inside.firsts) (get nat_eq c.self.inside.counts) c.args.cycle none
    c.swap_remove-own.ensures.updates.0 c.self.invariant
