use Rattle.std.proofs.Common.{sym, subst, arith}
use Rattle.path_set.specs.ByMember.{AreByMember}
use Rattle.path_set.proofs.OverLemmas.{adding-first, adding-next, adding-end}
use Rattle.path_set.proofs.by_member.add_path.Goals as goal

pub loop-place-init : goal.loop-place-init
loop-place-init c = adding-first _ _ _ _ _ _ c.reserve.ensures.items c.requires (let ok = c.in_ok-reserve.ensures.ok in omega (arith, ok))

pub put_path-requires-clause-ordered : goal.put_path-requires-clause-ordered
put_path-requires-clause-ordered c = c.loop-place.invariant.ordered

pub put_path-requires-clause-room : goal.put_path-requires-clause-room
put_path-requires-clause-room c = let left = c.loop-place.invariant.left in omega (arith, left)

pub loop-place-preserved : goal.loop-place-preserved
loop-place-preserved c =
    adding-next _ _ _ _ _ _ _ _ _ _ _ c.loop-place.invariant (omega arith) c.put_path.ensures.ordered c.put_path.ensures.numbers c.put_path.ensures.capacity c.put_path.ensures.len

pub returns-clause-ordered : goal.returns-clause-ordered
returns-clause-ordered c = c.loop-place.invariant.ordered

pub returns-clause-added : goal.returns-clause-added
returns-clause-added c = adding-end _ _ _ _ _ _ _ c.args.spec.now c.loop-place.invariant (omega arith) c.as_slice-formats.ensures

pub returns-in_err-reserve-clause-ordered : goal.returns-in_err-reserve-clause-ordered
returns-in_err-reserve-clause-ordered c = subst AreByMember (sym c.reserve.ensures.items) c.requires
