use Rattle.std.proofs.Common.{◌≡◌, [], rules}
use Rattle.path_set.proofs.RebuildLemmas.{putting-first, putting-next, putting-end, rebuilt-room}
use Rattle.path_set.proofs.set.PathSet.rebuild.Goals as goal

pub loop-new-init : goal.loop-new-init
loop-new-init c = putting-first _ _ _ c.requires c.rebuilt.view_is

pub put_rebuilt-requires : goal.put_rebuilt-requires
put_rebuilt-requires c = (putting-next _ _ _ _ _ _ c.loop-new.invariant c.in-Some.ensures.items).ties

pub loop-new-preserved : goal.loop-new-preserved
loop-new-preserved c = (putting-next _ _ _ _ _ _ c.loop-new.invariant c.in-Some.ensures.items).after _ c.put_rebuilt.ensures

pub returns-clause-put : goal.returns-clause-put
returns-clause-put c = let none : c.loop-new.items.items ≡ [] = search rules in putting-end _ _ _ _ c.loop-new.invariant none

pub returns-clause-room : goal.returns-clause-room
returns-clause-room c =
    let none : c.loop-new.items.items ≡ [] = search rules in
    rebuilt-room _ _ _ c.kept.ensures.shared c.kept.ensures.rooms (putting-end _ _ _ _ c.loop-new.invariant none)
