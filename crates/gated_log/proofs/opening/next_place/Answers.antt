use Rattle.std.proofs.Common.{◌≡◌, ◌+◌, ◌<◌, ◌≤◌, ℕ, length, take, drop, ap, sym, subst, ◌∙◌, arith, Option, length-drop}
use Rattle.gated_log.specs.Blocks.{IsFaultAt}
use Rattle.gated_log.specs.declared.log.Place.{Place}
use Rattle.gated_log.proofs.Walking.{damaged_is, gate_is, four_is, fault_behind, no_length, no_block, block_found}
use Rattle.gated_log.proofs.opening.next_place.Goals as goal

pub returns-then-size-gate-lt5-clause-damaged : goal.returns-then-size-gate-lt5-clause-damaged
returns-then-size-gate-lt5-clause-damaged g c = λ a at is.
    let parts = damaged_is {T = Option Place} c.args.area (c.args.gate + 1) a at is in (
      parts.0,
      λ tells.
          let seen = (g.S.Store.disk c.args.store.now).seen c.args.area in
          let value = gate_is seen c.in_ok-field.field c.args.gate _ (c.in_ok-field.ensures.field tells) (omega arith) (omega (arith, c.requires.size tells)) in
          let short : length (drop (c.args.gate + 1) seen) < 4 = omega (arith, length-drop (c.args.gate + 1) seen, c.requires.size tells) in
          subst (λ (n : ℕ). IsFaultAt c.args.gate (drop c.args.gate seen) n) (sym parts.1)
          (fault_behind (drop c.args.gate seen) _ c.args.gate _ value c.if-field-eq-CLOSED.false (no_length (drop (c.args.gate + 1) seen) short)),
    )

pub returns-then-size-gate-clause-damaged : goal.returns-then-size-gate-clause-damaged
returns-then-size-gate-clause-damaged g c = λ a at is.
    let parts = damaged_is {T = Option Place} c.args.area (c.args.gate + 1) a at is in (
      parts.0,
      λ tells.
          let seen = (g.S.Store.disk c.args.store.now).seen c.args.area in
          let field = c.in_ok-field.field in
          let after = drop (c.args.gate + 1) seen in
          let inside : c.args.gate < length seen = omega (arith, c.requires.size tells) in
          let value = gate_is seen field c.args.gate _ (c.in_ok-field.ensures.field tells) (omega arith) inside in
          let size = c.in_ok-field.ensures.five in
          let read = four_is seen field c.args.gate _ (c.in_ok-field.ensures.field tells) (omega arith) size inside in
          let four : length (drop 1 field) ≡ 4 = omega (arith, length-drop 1 field) in
          let short : length after < 4 + c.length_of-length.result = omega (arith, length-drop (c.args.gate + 1) seen, c.requires.size tells, c.from.ensures) in
          subst (λ (n : ℕ). IsFaultAt c.args.gate (drop c.args.gate seen) n) (sym parts.1)
          (fault_behind (drop c.args.gate seen) _ c.args.gate _ value c.if-field-eq-CLOSED.false
          (no_block after (drop 1 field) c.length_of-length.result four (read ∙ sym (ap (λ (n : ℕ). take n after) four)) c.length_of-length.ensures.number short)),
    )

pub returns-clause-found : goal.returns-clause-found
returns-clause-found g c = λ tells.
    let seen = (g.S.Store.disk c.args.store.now).seen c.args.area in
    let field = c.in_ok-field.field in
    let after = drop (c.args.gate + 1) seen in
    let inside : c.args.gate < length seen = omega (arith, c.requires.size tells) in
    let value = gate_is seen field c.args.gate _ (c.in_ok-field.ensures.field tells) (omega arith) inside in
    let size = c.in_ok-field.ensures.five in
    let read = four_is seen field c.args.gate _ (c.in_ok-field.ensures.field tells) (omega arith) size inside in
    let four : length (drop 1 field) ≡ 4 = omega (arith, length-drop 1 field) in
    let room : 4 + c.length_of-length.result ≤ length after = omega (arith, length-drop (c.args.gate + 1) seen, c.requires.size tells, c.from.ensures) in
    block_found (drop c.args.gate seen) after (drop 1 field) _ _ value c.if-field-eq-CLOSED.false four (read ∙ sym (ap (λ (n : ℕ). take n after) four)) c.length_of-length.ensures.bytes (omega (arith, c.length_of-length.type_inv)) room
