use Rattle.std.proofs.Common.{refl}
use Rattle.path_set.proofs.FoundLemmas.{found, missing}
use Rattle.path_set.proofs.set.PathSet.key.Goals as goal

pub key-requires : goal.key-requires
key-requires c =
    let entry = found _ _ _ _ _ _ c.self.view_is c.self.invariant.0 c.deref.ensures.value c.in-Ok.ensures.found c.index.ensures in
    rw entry.present at c.requires

pub returns-in-Ok : goal.returns-in-Ok
returns-in-Ok c =
    let entry = found _ _ _ _ _ _ c.self.view_is c.self.invariant.0 c.deref.ensures.value c.in-Ok.ensures.found c.index.ensures in
    rw entry.present c.key.ensures

pub returns-in-Err : goal.returns-in-Err
returns-in-Err c = rw (missing _ _ _ _ _ c.self.view_is c.deref.ensures.value c.in-Err.ensures.absent).paths refl
