use Rattle.std.proofs.Common.{◌≡◌, length, deque_len, ap, arith, rules}
use Rattle.path_set.proofs.MoveLemmas.{made-there, made-fits, made-spare}
use Rattle.path_set.proofs.ManyPrepareLemmas.{backing-first, backing-length, backing-next, backing-end}
use Rattle.path_set.proofs.set.PathSet.change_back.Goals as goal

pub loop-turn-init : goal.loop-turn-init
loop-turn-init c = backing-first _ _ _ c.requires c.moves.view_is

pub unwrap-id-requires : goal.unwrap-id-requires
unwrap-id-requires c =
    let view = ap length c.moves.view_is in
    let all = backing-length _ _ _ _ _ c.loop-turn.invariant in
    let own : deque_len c.loop-turn.items ≡ length c.loop-turn.items.items = search rules in
    c.pop_back.ensures.variant.1 (omega (arith, all, view, own))

pub change_path-change-requires-clause-there : goal.change_path-change-requires-clause-there
change_path-change-requires-clause-there c =
    let view = ap length c.moves.view_is in
    made-there _ _ (backing-next _ _ _ _ _ c.unwrap-id.result _ _ c.loop-turn.invariant (omega (arith, view)) c.pop_back.ensures.items c.unwrap-id.ensures).can

pub change_path-change-requires-clause-fits : goal.change_path-change-requires-clause-fits
change_path-change-requires-clause-fits c =
    let view = ap length c.moves.view_is in
    made-fits _ _ (backing-next _ _ _ _ _ c.unwrap-id.result _ _ c.loop-turn.invariant (omega (arith, view)) c.pop_back.ensures.items c.unwrap-id.ensures).can

pub change_path-change-requires-clause-spare : goal.change_path-change-requires-clause-spare
change_path-change-requires-clause-spare c =
    let view = ap length c.moves.view_is in
    made-spare _ _ (backing-next _ _ _ _ _ c.unwrap-id.result _ _ c.loop-turn.invariant (omega (arith, view)) c.pop_back.ensures.items c.unwrap-id.ensures).can

pub loop-turn-preserved : goal.loop-turn-preserved
loop-turn-preserved c =
    let view = ap length c.moves.view_is in
    (backing-next _ _ _ _ _ c.unwrap-id.result _ _ c.loop-turn.invariant (omega (arith, view)) c.pop_back.ensures.items c.unwrap-id.ensures).after c.change_path-change.result _ _
    c.change_path-change.ensures.opposite c.change_path-change.ensures.paths c.change_path-change.ensures.rooms c.push_front_reserved.ensures.items

pub returns-clause-paths : goal.returns-clause-paths
returns-clause-paths c = let view = ap length c.moves.view_is in (backing-end _ _ _ _ _ c.loop-turn.invariant (omega (arith, view))).paths

pub returns-clause-opposite : goal.returns-clause-opposite
returns-clause-opposite c = let view = ap length c.moves.view_is in (backing-end _ _ _ _ _ c.loop-turn.invariant (omega (arith, view))).opposite

pub returns-clause-rooms : goal.returns-clause-rooms
returns-clause-rooms c = let view = ap length c.moves.view_is in (backing-end _ _ _ _ _ c.loop-turn.invariant (omega (arith, view))).rooms
