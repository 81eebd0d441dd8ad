use Rattle.std.proofs.Common.{refl, sym, subst}
use Rattle.std.specs.Option.{option_copied}
use Rattle.path_set.specs.KeptPaths.{KeptPaths}
use Rattle.path_set.specs.RecordChanges.{TakeImage}
use Rattle.path_set.specs.Entries.{paths_of}
use Rattle.path_set.proofs.IndexLemmas.{over-numbers, indexed-paths}
use Rattle.path_set.proofs.set.PathSet.prepare_more.Goals as goal

pub paths_of_member-over-requires : goal.paths_of_member-over-requires
paths_of_member-over-requires c = rw c.deref.ensures.value c.self.invariant.1.ordered

pub prepare_each-requires-clause-sorted : goal.prepare_each-requires-clause-sorted
prepare_each-requires-clause-sorted c = c.self.invariant.0

pub prepare_each-requires-clause-numbers : goal.prepare_each-requires-clause-numbers
prepare_each-requires-clause-numbers c =
    over-numbers _ _ _ _ _ (paths_of c.self.inside.paths.items) refl c.self.invariant.1 c.deref.ensures.value c.paths_of_member-over.ensures

pub prepare_each-requires-clause-old : goal.prepare_each-requires-clause-old
prepare_each-requires-clause-old c =
    subst (λ (v : KeptPaths). TakeImage c.args.asked.member (option_copied c.args.asked.old) v.paths) (sym c.self.view_is) c.requires.old

pub prepare_each-requires-clause-new : goal.prepare_each-requires-clause-new
prepare_each-requires-clause-new c =
    subst (λ (v : KeptPaths). TakeImage c.args.asked.member (option_copied c.args.asked.new) v.paths) (sym c.self.view_is) c.requires.new

pub invariant_of-self : goal.invariant_of-self
invariant_of-self c = (c.prepare_each.ensures.sorted, indexed-paths _ _ _ c.self.invariant.1 c.prepare_each.ensures.paths)

pub invariant_of-self-2 : goal.invariant_of-self-2
invariant_of-self-2 c = (c.prepare_each.ensures.sorted, indexed-paths _ _ _ c.self.invariant.1 c.prepare_each.ensures.paths)

pub returns-clause-moves : goal.returns-clause-moves
returns-clause-moves c = rw (← c.self.view_is) c.in_ok-prepare_each.ensures.moves

pub returns-clause-room : goal.returns-clause-room
returns-clause-room c = c.in_ok-prepare_each.ensures.room

pub returns-clause-paths : goal.returns-clause-paths
returns-clause-paths c = rw (← c.self.view_is) c.prepare_each.ensures.paths

pub returns-clause-rooms : goal.returns-clause-rooms
returns-clause-rooms c = rw (← c.self.view_is) c.prepare_each.ensures.rooms

pub returns-in_err-prepare_each-clause-paths : goal.returns-in_err-prepare_each-clause-paths
returns-in_err-prepare_each-clause-paths c = rw (← c.self.view_is) c.prepare_each.ensures.paths

pub returns-in_err-prepare_each-clause-rooms : goal.returns-in_err-prepare_each-clause-rooms
returns-in_err-prepare_each-clause-rooms c = rw (← c.self.view_is) c.prepare_each.ensures.rooms
