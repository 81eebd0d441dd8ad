use Rattle.std.proofs.Common.{◌≡◌, ◌+◌, ◌-◌, ◌*◌, ◌/◌, ◌^◌, ◌<◌, ◌≤◌, ◌∷◌, ◌⊎◌, inl, inr, nat_le, nat_lt, length, drop, map, arith, sym, ◌∙◌}
use Rattle.std.proofs.Math.Nat.{sub-zero, zero-add}
use Rattle.std.proofs.lemmas.List.{length-map}
use Rattle.std.proofs.lemmas.Bool.{and_parts, leb-true, ltb-true}
use Rattle.field_values.specs.Bounds.{digit_from, spells_between}
use Rattle.field_values.proofs.BoundsLemmas.{tells-start, tells-turn, tells-bad, tells-end, power-next, drop-map_cons, place-fits, why-not}
use Rattle.field_values.proofs.bounds.first_outside.Goals as goal
use Rattle.field_values.proofs.bounds.first_outside.Goals.{then-from-base-via-then-from-base, then-from-base-via-else-from-base+then-not-meets}

pub loop-at-init : goal.loop-at-init
loop-at-init c =
    let power : c.pow-worth.result ≡ c.args.base ^ length c.args.bytes.now = rw c.from.ensures at c.pow-worth.ensures in
    record {
      power = rw sub-zero power;
      below = omega arith;
      above = rw (zero-add, power) (omega arith);
      tells = tells-start c.args.base c.args.low c.args.high (length c.args.bytes.now) (map (digit_from c.args.zero) c.args.bytes.now);
    }

pub overflow_mul-least : goal.overflow_mul-least
overflow_mul-least c =
    let power : c.loop-at.worth / c.from-worth.result ≡ c.args.base ^ (length c.args.bytes.now - (c.loop-at.at + 1)) = rw (c.from-worth.ensures, c.loop-at.invariant.power) (power-next c.args.base (length c.args.bytes.now) c.loop-at.at (omega arith) c.loop-at-test.true) in
    let fits = place-fits c.args.base (length c.args.bytes.now) c.loop-at.at (c.loop-at.worth / c.from-worth.result) c.from-in-loop-at.result c.requires.base c.requires.fits c.loop-at-test.true power (omega (arith, c.from-in-loop-at.ensures)) in
    omega (arith, fits.1)

pub overflow_add-least : goal.overflow_add-least
overflow_add-least c =
    let power : c.loop-at.worth / c.from-worth.result ≡ c.args.base ^ (length c.args.bytes.now - (c.loop-at.at + 1)) = rw (c.from-worth.ensures, c.loop-at.invariant.power) (power-next c.args.base (length c.args.bytes.now) c.loop-at.at (omega arith) c.loop-at-test.true) in
    let fits = place-fits c.args.base (length c.args.bytes.now) c.loop-at.at (c.loop-at.worth / c.from-worth.result) c.from-in-loop-at.result c.requires.base c.requires.fits c.loop-at-test.true power (omega (arith, c.from-in-loop-at.ensures)) in
    omega (arith, fits.1, c.loop-at.invariant.below)

pub meets-requires : goal.meets-requires
meets-requires c =
    let power : c.loop-at.worth / c.from-worth.result ≡ c.args.base ^ (length c.args.bytes.now - (c.loop-at.at + 1)) = rw (c.from-worth.ensures, c.loop-at.invariant.power) (power-next c.args.base (length c.args.bytes.now) c.loop-at.at (omega arith) c.loop-at-test.true) in
    let fits = place-fits c.args.base (length c.args.bytes.now) c.loop-at.at (c.loop-at.worth / c.from-worth.result) c.from-in-loop-at.result c.requires.base c.requires.fits c.loop-at-test.true power (omega (arith, c.from-in-loop-at.ensures)) in
    omega (arith, fits.0, fits.1, c.loop-at.invariant.below)

pub returns-then-from-base : goal.returns-then-from-base
returns-then-from-base c =
    let i = c.loop-at.invariant in
    let power : c.loop-at.worth / c.from-worth.result ≡ c.args.base ^ (length c.args.bytes.now - (c.loop-at.at + 1)) = rw (c.from-worth.ensures, i.power) (power-next c.args.base (length c.args.bytes.now) c.loop-at.at (omega arith) c.loop-at-test.true) in
    let split : drop c.loop-at.at (map (digit_from c.args.zero) c.args.bytes.now) ≡ c.from-in-loop-at.result ∷ drop (c.loop-at.at + 1) (map (digit_from c.args.zero) c.args.bytes.now) =
    rw c.from-in-loop-at.ensures (drop-map_cons (digit_from c.args.zero) c.args.bytes.now c.loop-at.at c.loop-at-test.true) in
    let same : c.from-in-loop-at-2.result ≡ c.from-in-loop-at.result = c.from-in-loop-at-2.ensures ∙ sym c.from-in-loop-at.ensures in
    let why : (c.args.base ≤ c.from-in-loop-at.result) ⊎ ((c.args.high < c.loop-at.least + c.from-in-loop-at.result * (c.loop-at.worth / c.from-worth.result)) ⊎ (c.loop-at.least + c.from-in-loop-at.result * (c.loop-at.worth / c.from-worth.result) + c.loop-at.worth / c.from-worth.result ≤ c.args.low)) =
    elim c.then-from-base.branch [
      | then-from-base-via-then-from-base w ↦ inl (omega (arith, w.if-from-base.true, same))
      | then-from-base-via-else-from-base+then-not-meets w ↦ inr (why-not (c.loop-at.least + c.from-in-loop-at.result * (c.loop-at.worth / c.from-worth.result)) (c.loop-at.worth / c.from-worth.result) c.args.low c.args.high (sym w.meets.ensures ∙ w.if-not-meets.true))
    ] in
    tells-bad (spells_between c.args.base c.args.low c.args.high (length c.args.bytes.now)) c.args.base c.args.low c.args.high c.loop-at.least (length c.args.bytes.now) c.loop-at.at c.from-in-loop-at.result (map (digit_from c.args.zero) c.args.bytes.now)
    c.loop-at-test.true (omega arith) c.requires.order i.below (rw i.power at i.above) split (rw power at why) i.tells

pub loop-at-preserved : goal.loop-at-preserved
loop-at-preserved c =
    let i = c.loop-at.invariant in
    let power : c.loop-at.worth / c.from-worth.result ≡ c.args.base ^ (length c.args.bytes.now - (c.loop-at.at + 1)) = rw (c.from-worth.ensures, i.power) (power-next c.args.base (length c.args.bytes.now) c.loop-at.at (omega arith) c.loop-at-test.true) in
    let split : drop c.loop-at.at (map (digit_from c.args.zero) c.args.bytes.now) ≡ c.from-in-loop-at.result ∷ drop (c.loop-at.at + 1) (map (digit_from c.args.zero) c.args.bytes.now) =
    rw c.from-in-loop-at.ensures (drop-map_cons (digit_from c.args.zero) c.args.bytes.now c.loop-at.at c.loop-at-test.true) in
    let same : c.from-in-loop-at-2.result ≡ c.from-in-loop-at.result = c.from-in-loop-at-2.ensures ∙ sym c.from-in-loop-at.ensures in
    let digit : c.from-in-loop-at.result < c.args.base = omega (arith, c.if-from-base.false, same) in
    let parts = and_parts (nat_le (c.loop-at.least + c.from-in-loop-at.result * (c.loop-at.worth / c.from-worth.result)) c.args.high) (nat_lt c.args.low (c.loop-at.least + c.from-in-loop-at.result * (c.loop-at.worth / c.from-worth.result) + c.loop-at.worth / c.from-worth.result)) (sym c.meets.ensures ∙ c.if-not-meets.false) in
    record {
      power = power;
      below = leb-true _ _ parts.0;
      above = ltb-true _ _ parts.1;
      tells = rw power (tells-turn (spells_between c.args.base c.args.low c.args.high (length c.args.bytes.now)) c.args.base c.args.low c.args.high c.loop-at.least (length c.args.bytes.now) c.loop-at.at c.from-in-loop-at.result (map (digit_from c.args.zero) c.args.bytes.now)
          c.loop-at-test.true digit split i.tells);
    }

pub returns : goal.returns
returns c =
    let i = c.loop-at.invariant in
    tells-end (spells_between c.args.base c.args.low c.args.high (length c.args.bytes.now)) c.args.base c.args.low c.args.high c.loop-at.least (length c.args.bytes.now) c.loop-at.at (map (digit_from c.args.zero) c.args.bytes.now)
    c.loop-at-test.false (rw (length-map c.args.bytes.now (digit_from c.args.zero)) c.loop-at-test.false) i.below (rw i.power at i.above) i.tells
