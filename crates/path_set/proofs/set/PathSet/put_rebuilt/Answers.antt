use Rattle.std.proofs.Common.{refl, sym, subst, ◌∷◌, []}
use Rattle.key_pages.specs.EntryList.{EntryList}
use Rattle.member_slots.specs.Members.{Numbered}
use Rattle.path_set.specs.RebuiltPaths.{HaveTies}
use Rattle.path_set.proofs.FoundLemmas.{found}
use Rattle.path_set.proofs.IndexLemmas.{indexed-set}
use Rattle.path_set.proofs.RebuildLemmas.{found-put, found-ties, missing-put}
use Rattle.path_set.proofs.set.PathSet.put_rebuilt.Goals as goal

pub invariant_of-self : goal.invariant_of-self
invariant_of-self c =
    let ties = subst (λ (n : Numbered EntryList). HaveTies (n ∷ []) c.args.self.now.paths) (sym c.new.view_is) c.requires in
    let entry = found _ _ _ _ _ _ c.self.view_is c.self.invariant.0 c.deref.ensures.value c.in-Ok.ensures.found c.index_mut.ensures.value in (
      entry.ordered _ refl refl (record { falling = found-ties _ _ _ _ _ entry ties; attached = entry.is.attached }),
      indexed-set _ _ _ _ _ c.self.invariant.1 entry.reads refl refl,
    )

pub returns-in-Ok : goal.returns-in-Ok
returns-in-Ok c =
    let entry = found _ _ _ _ _ _ c.self.view_is c.self.invariant.0 c.deref.ensures.value c.in-Ok.ensures.found c.index_mut.ensures.value in
    rw (← c.new.view_is) (found-put _ _ _ _ _ _ c.self.view_is entry (record { id = refl; by = refl; files = refl; pages = refl }))

pub returns-in-Err : goal.returns-in-Err
returns-in-Err c = rw (← c.new.view_is) (missing-put _ _ _ _ _ c.self.view_is c.deref.ensures.value c.in-Err.ensures.absent)
