use Rattle.std.proofs.Common.{refl}
use Rattle.path_set.proofs.ShareLemmas.{counted, new-at}
use Rattle.path_set.proofs.set.PathSet.number_of.Goals as goal

pub returns-in-Some : goal.returns-in-Some
returns-in-Some c =
    let counts = counted _ _ _ _ _ _ c.self.view_is c.self.invariant.0 c.deref.ensures.value c.in-Some.ensures.found c.index.ensures in
    let shared = counts.shared _ refl in
    (shared.path, shared.there, shared.same)

pub returns-in-None : goal.returns-in-None
returns-in-None c = new-at _ _ _ _ c.self.view_is c.deref.ensures.value c.in-None.ensures.absent
