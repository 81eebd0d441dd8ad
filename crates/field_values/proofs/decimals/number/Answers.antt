use Rattle.std.proofs.Common.{◌≡◌, map, take, arith, ap}
use Rattle.std.proofs.lemmas.List.{take_all}
use Rattle.field_values.specs.Digits.{number_in, low_half}
use Rattle.field_values.proofs.DigitLemmas.{number_in-halves, number_in-halves_take, number_in-halves_more}
use Rattle.field_values.proofs.decimals.number.Goals as goal

pub loop-byte-preserved : goal.loop-byte-preserved
loop-byte-preserved c =
    let more = number_in-halves_more c.args.digits.now c.loop-byte.byte-index (omega arith) in
    cc

pub overflow_mul-number : goal.overflow_mul-number
overflow_mul-number c =
    let small = number_in-halves_take c.args.digits.now c.loop-byte.byte-index c.requires (omega arith) in
    omega (arith, c.loop-byte.invariant)

pub overflow_add-number : goal.overflow_add-number
overflow_add-number c =
    let small = number_in-halves_take c.args.digits.now c.loop-byte.byte-index c.requires (omega arith) in
    omega (arith, c.loop-byte.invariant)

pub returns-clause-bound : goal.returns-clause-bound
returns-clause-bound c =
    let all = number_in-halves c.args.digits.now in
    let whole : take c.loop-byte.byte-index c.args.digits.now ≡ c.args.digits.now = take_all c.loop-byte.byte-index c.args.digits.now (omega arith) in
    omega (arith, all, ap (λ xs. number_in 10 (map low_half xs)) whole, c.loop-byte.invariant)
