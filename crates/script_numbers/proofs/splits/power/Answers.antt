use Rattle.std.proofs.Common.{◌≡◌, ◌^◌, pos, arith}
use Rattle.std.specs.Int.{w128}
use Rattle.std.proofs.lemmas.Int.{to_z_pos, fits_signed_from_abs}
use Rattle.script_numbers.proofs.SplitLemmas.{held-power}
use Rattle.script_numbers.proofs.splits.power.Goals as goal

pub pow-requires : goal.pow-requires
pow-requires c = let held = held-power c.args.places (omega arith) in rw c.from.ensures (omega (arith, held))

pub overflow_cast-result : goal.overflow_cast-result
overflow_cast-result c =
    let held = held-power c.args.places (omega arith) in
    let is : c.pow.result ≡ 10 ^ c.args.places = rw c.from.ensures at c.pow.ensures in
    rw is (fits_signed_from_abs w128 (pos (10 ^ c.args.places)) held)

pub returns : goal.returns
returns c =
    let held = held-power c.args.places (omega arith) in
    let is : c.pow.result ≡ 10 ^ c.args.places = rw c.from.ensures at c.pow.ensures in
    (omega arith, rw is (to_z_pos w128 (10 ^ c.args.places) held))
