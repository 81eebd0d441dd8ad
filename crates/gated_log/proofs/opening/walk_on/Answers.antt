use Rattle.std.proofs.Common.{◌≡◌, ◌+◌, ℕ, List, length, drop, ap, sym, subst, ◌∙◌, arith, Err, IsErrOf, Option, Some}
use Rattle.std.proofs.lemmas.Result.{err_from_is_err_and}
use Rattle.store_model.proofs.Runs.{stays_trans}
use Rattle.gated_log.specs.Blocks.{IsDamagedAt, IsLog}
use Rattle.gated_log.specs.declared.log.Place.{Place}
use Rattle.gated_log.specs.declared.fault.LogFault.{LogFault}
use Rattle.gated_log.specs.declared.fault.LogFault.TheVariants.{Damaged}
use Rattle.gated_log.specs.Walk.{IsWalkedTo, HasBlock, IsBehind, IsFound}
use Rattle.gated_log.proofs.Walking.{walked_to-breaks, walked_to-further, walked_to-log}
use Rattle.gated_log.proofs.opening.walk_on.Goals as goal

pub returns-in_err-place-clause-damaged : goal.returns-in_err-place-clause-damaged
returns-in_err-place-clause-damaged g c = λ a at is.
    let p = err_from_is_err_and c.from_residual.result c.from_residual.ensures.1 in
    let same : c.in_err-place.field-0.0 ≡ Damaged a at = cc (p.1, p.2, is) in
    let named : IsErrOf {T = Option Place} (Err c.in_err-place.field-0.0) (Damaged a at) = ap (λ (e : LogFault). Err e) same in
    let told = c.in_err-place.ensures.damaged a at named in
    let so_far = c.loop-place.invariant in (
      told.0,
      λ tells.
          subst (λ (l : List ℕ). IsDamagedAt c.args.area l at) (so_far.stays.seen c.args.area)
          (walked_to-breaks c.args.area c.args.head.first c.args.head.version _ c.loop-place.gate at (so_far.walked tells) (told.1 tells)),
    )

pub loop-place-preserved : goal.loop-place-preserved
loop-place-preserved g c =
    let so_far = c.loop-place.invariant in
    let stays = c.next_place.ensures.stays in
    let place = c.in-Some.place in
    let behind : IsBehind c.loop-place.gate c.args.size (Some place) = subst (λ (o : Option Place). IsBehind c.loop-place.gate c.args.size o) c.in-Some.is c.in_ok-place.ensures.behind in
    let gate_is : c.loop-place.gate + 5 + place.length ≡ place.at + c.from.result = omega (arith, behind.0, c.from.ensures) in
    record {
      stays = stays_trans _ _ _ so_far.stays stays;
      size = λ tells. so_far.size tells ∙ ap length (sym (stays.seen c.args.area));
      bound = so_far.bound;
      walked = λ tells.
          let found : HasBlock (drop c.loop-place.gate ((g.S.Store.disk c.loop-place.store).seen c.args.area)) place = subst (λ (o : Option Place). IsFound (drop c.loop-place.gate ((g.S.Store.disk c.loop-place.store).seen c.args.area)) o) c.in-Some.is (c.in_ok-place.ensures.found tells) in
          subst (λ (n : ℕ). IsWalkedTo c.args.area c.args.head.first c.args.head.version ((g.S.Store.disk c.next_place.new.store).seen c.args.area) n) gate_is
          (subst (λ (l : List ℕ). IsWalkedTo c.args.area c.args.head.first c.args.head.version l (c.loop-place.gate + 5 + place.length)) (sym (stays.seen c.args.area))
          (walked_to-further c.args.area c.args.head.first c.args.head.version _ place c.loop-place.gate (so_far.walked tells) found behind.0));
      inside = omega (arith, behind.1, c.from.ensures);
    }

pub returns-clause-whole : goal.returns-clause-whole
returns-clause-whole g c = λ tells.
    let so_far = c.loop-place.invariant in
    let seen = (g.S.Store.disk c.loop-place.store).seen c.args.area in
    subst (λ (l : List ℕ). IsLog c.args.area l) (so_far.stays.seen c.args.area)
    (walked_to-log c.args.area c.args.head.first c.args.head.version seen c.loop-place.gate (so_far.walked tells)
    (subst (λ (o : Option Place). IsFound (drop c.loop-place.gate seen) o) c.in_default.is (c.in_ok-place.ensures.found tells)))
