use Rattle.std.proofs.Common.{◌≡◌, ◌+◌, ℕ, List, length, drop, ap, sym, subst, ◌∙◌, arith, Err, IsErrOf, Option, Some}
use Rattle.std.proofs.lemmas.Result.{err_from_is_err_and}
use Rattle.store_model.proofs.Runs.{stays_trans, stays_durable}
use Rattle.gated_log.specs.Blocks.{IsDamagedAt, IsLog}
use Rattle.gated_log.specs.Places.{ArePlaced}
use Rattle.gated_log.specs.declared.log.Place.{Place}
use Rattle.gated_log.specs.declared.fault.LogFault.{LogFault}
use Rattle.gated_log.specs.declared.fault.LogFault.TheVariants.{Damaged}
use Rattle.gated_log.specs.Walk.{IsWalked, IsWalkedTo, HasBlock, IsBehind, IsFound}
use Rattle.gated_log.proofs.Blocks.{placed_end, placed-push}
use Rattle.gated_log.proofs.Walking.{walked_further, walked_breaks, walked_to-further}
use Rattle.gated_log.proofs.opening.open.Goals as goal

pub returns-in_err-place-clause-damaged : goal.returns-in_err-place-clause-damaged
returns-in_err-place-clause-damaged g c = λ a at is.
    let p = err_from_is_err_and c.from_residual-in_err-place.result c.from_residual-in_err-place.ensures.1 in
    let same : c.in_err-place.field-0.0 ≡ Damaged a at = cc (p.1, p.2, is) in
    let named : IsErrOf {T = Option Place} (Err c.in_err-place.field-0.0) (Damaged a at) = ap (λ (e : LogFault). Err e) same in
    let told = c.in_err-place.ensures.damaged a at named in
    let so_far = c.loop-places.invariant in (
      told.0,
      λ tells.
          subst (λ (l : List ℕ). IsDamagedAt c.args.area l at) (so_far.stays.seen c.args.area)
          (walked_breaks c.args.area c.in_ok-head.head.first c.in_ok-head.head.version _ c.loop-places.places.items c.loop-places.gate at (so_far.walked tells) (placed_end 32 c.loop-places.places.items c.loop-places.gate so_far.placed) (told.1 tells)),
    )

pub loop-places-preserved : goal.loop-places-preserved
loop-places-preserved g c =
    let so_far = c.loop-places.invariant in
    let stays = c.next_place.ensures.stays in
    let place = c.in-Some.place in
    let behind : IsBehind c.loop-places.gate c.in_ok-size.size (Some place) = subst (λ (o : Option Place). IsBehind c.loop-places.gate c.in_ok-size.size o) c.in-Some.is c.in_ok-place.ensures.behind in
    let gate_is : c.loop-places.gate + 5 + place.length ≡ place.at + c.from.result = omega (arith, behind.0, c.from.ensures) in
    record {
      stays = stays_trans _ _ _ so_far.stays stays;
      size = λ tells. so_far.size tells ∙ ap length (sym (stays.seen c.args.area));
      bound = so_far.bound;
      durable = λ tells. stays_durable c.args.area _ _ stays (so_far.durable tells);
      walked = λ tells.
          let found : HasBlock (drop c.loop-places.gate ((g.S.Store.disk c.loop-places.store).seen c.args.area)) place = subst (λ (o : Option Place). IsFound (drop c.loop-places.gate ((g.S.Store.disk c.loop-places.store).seen c.args.area)) o) c.in-Some.is (c.in_ok-place.ensures.found tells) in
          subst (λ (n : ℕ). IsWalked c.args.area c.in_ok-head.head.first c.in_ok-head.head.version ((g.S.Store.disk c.next_place.new.store).seen c.args.area) c.push.new.self.items n) gate_is
          (subst (λ (l : List ℕ). IsWalked c.args.area c.in_ok-head.head.first c.in_ok-head.head.version l c.push.new.self.items (c.loop-places.gate + 5 + place.length)) (sym (stays.seen c.args.area))
          (walked_further c.args.area c.in_ok-head.head.first c.in_ok-head.head.version _ c.loop-places.places.items c.push.new.self.items place c.loop-places.gate (so_far.walked tells) found c.in-Ok.ensures.items));
      placed = subst (λ (n : ℕ). ArePlaced 32 c.push.new.self.items n) gate_is
          (subst (λ (l : List Place). ArePlaced 32 l (c.loop-places.gate + 5 + place.length)) (sym c.in-Ok.ensures.items)
          (placed-push 32 c.loop-places.places.items c.loop-places.gate place so_far.placed behind.0));
      inside = omega (arith, behind.1, c.from.ensures);
    }

pub walk_on-requires-clause-walked : goal.walk_on-requires-clause-walked
walk_on-requires-clause-walked g c = λ tells.
    let so_far = c.loop-places.invariant in
    let stays = c.next_place.ensures.stays in
    let place = c.in-Some.place in
    let behind : IsBehind c.loop-places.gate c.in_ok-size.size (Some place) = subst (λ (o : Option Place). IsBehind c.loop-places.gate c.in_ok-size.size o) c.in-Some.is c.in_ok-place.ensures.behind in
    let gate_is : c.loop-places.gate + 5 + place.length ≡ place.at + c.from.result = omega (arith, behind.0, c.from.ensures) in
    let found : HasBlock (drop c.loop-places.gate ((g.S.Store.disk c.loop-places.store).seen c.args.area)) place = subst (λ (o : Option Place). IsFound (drop c.loop-places.gate ((g.S.Store.disk c.loop-places.store).seen c.args.area)) o) c.in-Some.is (c.in_ok-place.ensures.found tells) in
    subst (λ (n : ℕ). IsWalkedTo c.args.area c.in_ok-head.head.first c.in_ok-head.head.version ((g.S.Store.disk c.next_place.new.store).seen c.args.area) n) gate_is
    (subst (λ (l : List ℕ). IsWalkedTo c.args.area c.in_ok-head.head.first c.in_ok-head.head.version l (c.loop-places.gate + 5 + place.length)) (sym (stays.seen c.args.area))
    (walked_to-further c.args.area c.in_ok-head.head.first c.in_ok-head.head.version _ place c.loop-places.gate (c.loop-places.places.items, so_far.walked tells, so_far.placed) found behind.0))

pub returns-in_err-walk_on-in-Err-clause-damaged : goal.returns-in_err-walk_on-in-Err-clause-damaged
returns-in_err-walk_on-in-Err-clause-damaged g c = λ a at is.
    let p = err_from_is_err_and c.from_residual-in_err-walk_on-in-Err.result c.from_residual-in_err-walk_on-in-Err.ensures.1 in
    let same : c.in_err-walk_on-in-Err.field-0.0 ≡ Damaged a at = cc (p.1, p.2, is) in
    let named : IsErrOf {T = Unit {0}} (Err c.in_err-walk_on-in-Err.field-0.0) (Damaged a at) = ap (λ (e : LogFault). Err e) same in
    let told = c.in_err-walk_on-in-Err.ensures.damaged a at named in
    let stays = stays_trans _ _ _ c.loop-places.invariant.stays c.next_place.ensures.stays in
    (told.0, λ tells. subst (λ (l : List ℕ). IsDamagedAt c.args.area l at) (stays.seen c.args.area) (told.1 tells))

pub returns-in-Err-clause-memory : goal.returns-in-Err-clause-memory
returns-in-Err-clause-memory g c = λ is tells.
    let stays = stays_trans _ _ _ c.loop-places.invariant.stays c.next_place.ensures.stays in
    subst (λ (l : List ℕ). IsLog c.args.area l) (stays.seen c.args.area) (c.in_ok-walk_on-in-Err.ensures.whole tells)
