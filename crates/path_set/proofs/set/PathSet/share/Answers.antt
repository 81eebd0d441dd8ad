use Rattle.std.proofs.Common.{refl}
use Rattle.path_set.proofs.IndexLemmas.{counted-indexed}
use Rattle.path_set.proofs.ShareLemmas.{counted, new-at}
use Rattle.path_set.proofs.set.PathSet.share.Goals as goal

pub invariant_of-self-in-Some : goal.invariant_of-self-in-Some
invariant_of-self-in-Some c =
    let counts = counted _ _ _ _ _ _ c.self.view_is c.self.invariant.0 c.deref.ensures.value c.in-Some.ensures.found c.index_mut.ensures.value in (
      counts.ordered _ c.in_ok-add_file-in-Some.ensures.counted,
      counted-indexed _ _ _ _ _ _ _ _ c.self.view_is c.self.invariant.0 c.self.invariant.1 c.deref.ensures.value c.in-Some.ensures.found c.index_mut.ensures.value
          c.in_ok-add_file-in-Some.ensures.counted,
    )

pub returns-in_ok-add_file-in-Some-clause-shared : goal.returns-in_ok-add_file-in-Some-clause-shared
returns-in_ok-add_file-in-Some-clause-shared c =
    let counts = counted _ _ _ _ _ _ c.self.view_is c.self.invariant.0 c.deref.ensures.value c.in-Some.ensures.found c.index_mut.ensures.value in
    rw c.in_ok-add_file-in-Some.ensures.id (counts.shared _ c.in_ok-add_file-in-Some.ensures.counted)

pub returns-in_ok-add_file-in-Some-clause-rooms : goal.returns-in_ok-add_file-in-Some-clause-rooms
returns-in_ok-add_file-in-Some-clause-rooms c =
    let counts = counted _ _ _ _ _ _ c.self.view_is c.self.invariant.0 c.deref.ensures.value c.in-Some.ensures.found c.index_mut.ensures.value in
    counts.rooms _ c.in_ok-add_file-in-Some.ensures.counted

pub returns-in-None-clause-shared : goal.returns-in-None-clause-shared
returns-in-None-clause-shared c = (new-at _ _ _ _ c.self.view_is c.deref.ensures.value c.in-None.ensures.absent, refl)
