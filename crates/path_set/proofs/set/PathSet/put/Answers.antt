use Rattle.std.proofs.Common.{◌≡◌, refl, arith, rules}
use Rattle.path_set.proofs.IndexLemmas.{indexed-added}
use Rattle.path_set.proofs.ShareLemmas.{added}
use Rattle.path_set.proofs.set.PathSet.put.Goals as goal

pub invariant_of-self-2 : goal.invariant_of-self-2
invariant_of-self-2 c =
    let add = added c.self.inside.paths.items c.deref.result.now c.args.self.now c.first_free-place.result (record { id = c.first_free-place.result; by = c.args.by; files = 1; path = c.args.path })
    c.self.view_is c.self.invariant.0 c.deref.ensures.value c.first_free-place.ensures refl in (
      rw (c.insert_kept.ensures, c.reserve.ensures.items) (add.ordered c.requires.absent (record { falling = c.requires.falling; attached = omega arith }) (omega arith)),
      rw (c.insert_kept.ensures, c.reserve.ensures.items) (indexed-added _ _ _ _ _ _ _ c.self.invariant.1 c.self.invariant.0 c.deref.ensures.value c.first_free-place.ensures refl (let same : c.spec.result.now ≡ c.args.by = search rules in same)
          c.add_path.ensures.ordered c.in_ok-add_path.ensures.added),
    )

pub returns-clause-number : goal.returns-clause-number
returns-clause-number c =
    let add = added c.self.inside.paths.items c.deref.result.now c.args.self.now c.first_free-place.result (record { id = c.first_free-place.result; by = c.args.by; files = 1; path = c.args.path })
    c.self.view_is c.self.invariant.0 c.deref.ensures.value c.first_free-place.ensures refl in
    add.number

pub returns-clause-paths : goal.returns-clause-paths
returns-clause-paths c =
    let add = added c.self.inside.paths.items c.deref.result.now c.args.self.now c.first_free-place.result (record { id = c.first_free-place.result; by = c.args.by; files = 1; path = c.args.path })
    c.self.view_is c.self.invariant.0 c.deref.ensures.value c.first_free-place.ensures refl in
    rw (c.insert_kept.ensures, c.reserve.ensures.items) add.paths

pub returns-clause-room : goal.returns-clause-room
returns-clause-room c =
    let add = added c.self.inside.paths.items c.deref.result.now c.args.self.now c.first_free-place.result (record { id = c.first_free-place.result; by = c.args.by; files = 1; path = c.args.path })
    c.self.view_is c.self.invariant.0 c.deref.ensures.value c.first_free-place.ensures refl in
    rw (c.insert_kept.ensures, c.reserve.ensures.items) add.room

pub returns-clause-rooms : goal.returns-clause-rooms
returns-clause-rooms c =
    let add = added c.self.inside.paths.items c.deref.result.now c.args.self.now c.first_free-place.result (record { id = c.first_free-place.result; by = c.args.by; files = 1; path = c.args.path })
    c.self.view_is c.self.invariant.0 c.deref.ensures.value c.first_free-place.ensures refl in
    rw (c.insert_kept.ensures, c.reserve.ensures.items) add.rooms
