use Rattle.std.proofs.Common.{◌≡◌, ◌+◌, ◌-◌, ◌*◌, length, take, get_or, arith, rules, sym, ap, ◌∙◌, add-one, FitsSigned}
use Rattle.std.specs.Int.{w128}
use Rattle.std.proofs.lemmas.Int.{to_z-of_z}
use Rattle.std.proofs.lemmas.List.{take_all, length-take-le}
use Rattle.std.proofs.Math.Nat.{pow-suc}
use Rattle.field_values.specs.Digits.{number_in, high_half, low_half, is_minus, signed, last_byte}
use Rattle.field_values.specs.Packed.{packed_digits}
use Rattle.field_values.proofs.PackedLemmas.{halves, number_in-halves_pair, number_in-packed_digits, last_byte-get_or, pairs-fit}
use Rattle.field_values.proofs.packed.number.Goals as goal

pub loop-byte-preserved : goal.loop-byte-preserved
loop-byte-preserved c =
    let i = c.loop-byte.invariant in
    let digits : c.from.result ≡ 10 * high_half (get_or (take (length c.args.image.now - 1) c.args.image.now) c.loop-byte.byte-index 0) + low_half (get_or (take (length c.args.image.now - 1) c.args.image.now) c.loop-byte.byte-index 0) =
    rw (c.high_half.ensures.value, c.low_half.ensures.value) at c.from.ensures in
    let more = number_in-halves_pair (take (length c.args.image.now - 1) c.args.image.now) c.loop-byte.byte-index c.loop-byte-test.true in
    record {
      value = rw (digits, i.value) (sym more);
      bound = rw (add-one c.loop-byte.byte-index, pow-suc 100 c.loop-byte.byte-index) (omega (arith, i.bound, c.from.ensures, c.high_half.ensures.bound, c.low_half.ensures.bound));
    }

pub overflow_mul-magnitude : goal.overflow_mul-magnitude
overflow_mul-magnitude c =
    let long : length (take (length c.args.image.now - 1) c.args.image.now) ≡ length c.args.image.now - 1 = length-take-le (length c.args.image.now - 1) c.args.image.now (omega arith) in
    let small = pairs-fit c.loop-byte.magnitude c.loop-byte.byte-index c.loop-byte.invariant.bound (omega (arith, long, c.loop-byte-test.true)) in
    omega (arith, small)

pub overflow_add-magnitude : goal.overflow_add-magnitude
overflow_add-magnitude c =
    let long : length (take (length c.args.image.now - 1) c.args.image.now) ≡ length c.args.image.now - 1 = length-take-le (length c.args.image.now - 1) c.args.image.now (omega arith) in
    let small = pairs-fit c.loop-byte.magnitude c.loop-byte.byte-index c.loop-byte.invariant.bound (omega (arith, long, c.loop-byte-test.true)) in
    omega (arith, small, c.from.ensures, c.high_half.ensures.bound, c.low_half.ensures.bound)

pub overflow_mul-magnitude-2 : goal.overflow_mul-magnitude-2
overflow_mul-magnitude-2 c =
    let long : length (take (length c.args.image.now - 1) c.args.image.now) ≡ length c.args.image.now - 1 = length-take-le (length c.args.image.now - 1) c.args.image.now (omega arith) in
    let small = pairs-fit c.loop-byte.magnitude c.loop-byte.byte-index c.loop-byte.invariant.bound (omega (arith, long, c.loop-byte.auto.byte-index-end)) in
    omega (arith, small)

pub overflow_add-magnitude-2 : goal.overflow_add-magnitude-2
overflow_add-magnitude-2 c =
    let long : length (take (length c.args.image.now - 1) c.args.image.now) ≡ length c.args.image.now - 1 = length-take-le (length c.args.image.now - 1) c.args.image.now (omega arith) in
    let small = pairs-fit c.loop-byte.magnitude c.loop-byte.byte-index c.loop-byte.invariant.bound (omega (arith, long, c.loop-byte.auto.byte-index-end)) in
    omega (arith, small, c.from-2.ensures, c.high_half-2.ensures.bound)

pub signed-requires : goal.signed-requires
signed-requires c =
    let long : length (take (length c.args.image.now - 1) c.args.image.now) ≡ length c.args.image.now - 1 = length-take-le (length c.args.image.now - 1) c.args.image.now (omega arith) in
    let small = pairs-fit c.loop-byte.magnitude c.loop-byte.byte-index c.loop-byte.invariant.bound (omega (arith, long, c.loop-byte.auto.byte-index-end)) in
    omega (arith, small, c.from-2.ensures, c.high_half-2.ensures.bound)

pub returns : goal.returns
returns c =
    let fits : FitsSigned w128 c.signed.result = search rules in
    let whole : take c.loop-byte.byte-index (take (length c.args.image.now - 1) c.args.image.now) ≡ take (length c.args.image.now - 1) c.args.image.now = take_all c.loop-byte.byte-index (take (length c.args.image.now - 1) c.args.image.now) c.loop-byte-test.false in
    let read : c.loop-byte.magnitude ≡ number_in 10 (halves (take (length c.args.image.now - 1) c.args.image.now)) = c.loop-byte.invariant.value ∙ ap (λ w. number_in 10 (halves w)) whole in
    let one : length c.args.image.now - 1 + 1 ≡ length c.args.image.now = omega arith in
    let all = number_in-packed_digits c.args.image.now (length c.args.image.now - 1) one in
    let digit : c.from-2.result ≡ high_half (get_or c.args.image.now (length c.args.image.now - 1) 0) = c.from-2.ensures ∙ c.high_half-2.ensures.value in
    let magnitude : c.loop-byte.magnitude * 10 + c.from-2.result ≡ number_in 10 (packed_digits c.args.image.now) = rw (digit, read) (sym all) in
    let last = last_byte-get_or c.args.image.now (length c.args.image.now - 1) one in
    let sign : c.is_minus.result ≡ is_minus (low_half (last_byte c.args.image.now)) = c.is_minus.ensures ∙ ap is_minus (c.low_half-2.ensures.value ∙ ap low_half (sym last)) in
    rw (to_z-of_z w128 c.signed.result)
    (c.signed.ensures ∙ ap (λ b. signed b (c.loop-byte.magnitude * 10 + c.from-2.result)) sign ∙ ap (signed (is_minus (low_half (last_byte c.args.image.now)))) magnitude)
