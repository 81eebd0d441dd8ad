use Rattle.std.proofs.Common.{◌≡◌, length, deque_len, sym, ap, subst, List, arith, rules}
use Rattle.path_set.specs.declared.moves.PathMove.{PathMove}
use Rattle.path_set.proofs.MoveLemmas.{IsUnderway, underway-first, underway-length, underway-next, underway-end, made-there, made-fits, made-spare}
use Rattle.path_set.proofs.set.PathSet.change.Goals as goal

pub loop-turn-init : goal.loop-turn-init
loop-turn-init c = subst (λ (w : List PathMove). IsUnderway c.args.moves c.args.self.now w c.args.self.now 0) (sym c.moves.view_is) (underway-first _ _ c.requires)

pub unwrap-id-requires : goal.unwrap-id-requires
unwrap-id-requires c =
    let view = ap length c.moves.view_is in
    let all = underway-length _ _ _ _ _ c.loop-turn.invariant in
    let own : deque_len c.loop-turn.items ≡ length c.loop-turn.items.items = search rules in
    c.pop_front.ensures.variant.1 (omega (arith, all, view, own))

pub change_path-change-requires-clause-there : goal.change_path-change-requires-clause-there
change_path-change-requires-clause-there c =
    let view = ap length c.moves.view_is in
    made-there _ _ (underway-next _ _ _ _ _ c.unwrap-id.result _ _ c.loop-turn.invariant (omega (arith, view)) c.pop_front.ensures.items c.unwrap-id.ensures).can

pub change_path-change-requires-clause-fits : goal.change_path-change-requires-clause-fits
change_path-change-requires-clause-fits c =
    let view = ap length c.moves.view_is in
    made-fits _ _ (underway-next _ _ _ _ _ c.unwrap-id.result _ _ c.loop-turn.invariant (omega (arith, view)) c.pop_front.ensures.items c.unwrap-id.ensures).can

pub change_path-change-requires-clause-spare : goal.change_path-change-requires-clause-spare
change_path-change-requires-clause-spare c =
    let view = ap length c.moves.view_is in
    made-spare _ _ (underway-next _ _ _ _ _ c.unwrap-id.result _ _ c.loop-turn.invariant (omega (arith, view)) c.pop_front.ensures.items c.unwrap-id.ensures).can

pub loop-turn-preserved : goal.loop-turn-preserved
loop-turn-preserved c =
    let view = ap length c.moves.view_is in
    (underway-next _ _ _ _ _ c.unwrap-id.result _ _ c.loop-turn.invariant (omega (arith, view)) c.pop_front.ensures.items c.unwrap-id.ensures).after c.change_path-change.result _ _
    c.change_path-change.ensures.opposite c.change_path-change.ensures.paths c.change_path-change.ensures.rooms c.push_back_reserved.ensures.items

pub returns-clause-paths : goal.returns-clause-paths
returns-clause-paths c = let view = ap length c.moves.view_is in (underway-end _ _ _ _ _ c.loop-turn.invariant (omega (arith, view))).paths

pub returns-clause-opposite : goal.returns-clause-opposite
returns-clause-opposite c = let view = ap length c.moves.view_is in (underway-end _ _ _ _ _ c.loop-turn.invariant (omega (arith, view))).opposite

pub returns-clause-rooms : goal.returns-clause-rooms
returns-clause-rooms c = let view = ap length c.moves.view_is in (underway-end _ _ _ _ _ c.loop-turn.invariant (omega (arith, view))).rooms
