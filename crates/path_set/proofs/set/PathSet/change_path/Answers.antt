use Rattle.std.proofs.Common.{refl, ◌∙◌}
use Rattle.path_set.proofs.FoundLemmas.{found}
use Rattle.path_set.proofs.IndexLemmas.{indexed-set}
use Rattle.path_set.proofs.MoveLemmas.{found-moved, found-spent}
use Rattle.path_set.proofs.set.PathSet.change_path.Goals as goal

pub change-requires-clause-fits : goal.change-requires-clause-fits
change-requires-clause-fits c =
    let entry = found _ _ _ _ _ _ c.self.view_is c.self.invariant.0 c.deref.ensures.value c.place_of_kept-place.ensures c.index_mut.ensures.value in
    rw entry.is.falling (rw entry.present at c.requires.fits)

pub change-requires-clause-spare : goal.change-requires-clause-spare
change-requires-clause-spare c =
    let entry = found _ _ _ _ _ _ c.self.view_is c.self.invariant.0 c.deref.ensures.value c.place_of_kept-place.ensures c.index_mut.ensures.value in
    rw (← entry.spare) c.requires.spare

pub invariant_of-self : goal.invariant_of-self
invariant_of-self c =
    let entry = found _ _ _ _ _ _ c.self.view_is c.self.invariant.0 c.deref.ensures.value c.place_of_kept-place.ensures c.index_mut.ensures.value in (
      entry.ordered _ refl refl (record { falling = c.change.ensures.falling ∙ entry.is.falling; attached = entry.is.attached }),
      indexed-set _ _ _ _ _ c.self.invariant.1 entry.reads refl refl,
    )

pub returns-clause-paths : goal.returns-clause-paths
returns-clause-paths c =
    let entry = found _ _ _ _ _ _ c.self.view_is c.self.invariant.0 c.deref.ensures.value c.place_of_kept-place.ensures c.index_mut.ensures.value in
    found-moved _ _ _ _ _ (record { id = c.args.id; change = c.args.change }) c.self.view_is entry
    (record { id = refl; by = refl; files = refl; entries = rw (← entry.is.falling) c.change.ensures.entries })

pub returns-clause-rooms : goal.returns-clause-rooms
returns-clause-rooms c =
    let entry = found _ _ _ _ _ _ c.self.view_is c.self.invariant.0 c.deref.ensures.value c.place_of_kept-place.ensures c.index_mut.ensures.value in
    found-spent _ _ _ _ _ (record { id = c.args.id; change = c.args.change }) _ _ entry entry.named c.change.ensures.spare
