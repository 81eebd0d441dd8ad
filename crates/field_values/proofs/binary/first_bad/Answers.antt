use Rattle.std.proofs.Common.{◌-◌, ◌*◌, ◌^◌, ◌≤◌, ◌∷◌, [], length, drop, arith, lit<, ap}
use Rattle.std.proofs.Math.Nat.{pow-le-pow_right}
use Rattle.field_values.proofs.ScaleLemmas.{some-power}
use Rattle.field_values.proofs.BinaryLemmas.{binary-room, binary_width-bounds, middle-bits, middle-shift, turned-array, turned_front-length, IsFirstBad-binary}
use Rattle.field_values.proofs.binary.first_bad.Goals as goal

pub overflow_sub-most : goal.overflow_sub-most
overflow_sub-most c = omega (arith, c.pow-most.ensures, some-power c.args.digits)

pub overflow_sub-middle-2 : goal.overflow_sub-middle-2
overflow_sub-middle-2 c =
    let wide = binary_width-bounds c.args.digits in
    let least : 1 ≤ length c.args.image.now = omega (arith, c.requires.room, wide.0) in
    let most : length c.args.image.now ≤ 8 = omega (arith, c.requires.room, wide.1) in
    let room : 2 * 10 ^ c.args.digits ≤ 256 ^ length c.args.image.now = rw c.requires.room (binary-room c.args.digits c.requires.digits) in
    rw (middle-shift (length c.args.image.now) least most, c.pow-most.ensures) (omega (arith, room, middle-bits (length c.args.image.now) least))

pub overflow_add-middle : goal.overflow_add-middle
overflow_add-middle c =
    let wide = binary_width-bounds c.args.digits in
    let least : 1 ≤ length c.args.image.now = omega (arith, c.requires.room, wide.0) in
    let most : length c.args.image.now ≤ 8 = omega (arith, c.requires.room, wide.1) in
    let room : 2 * 10 ^ c.args.digits ≤ 256 ^ length c.args.image.now = rw c.requires.room (binary-room c.args.digits c.requires.digits) in
    let top : 256 ^ length c.args.image.now ≤ 256 ^ 8 = pow-le-pow_right (lit< tt) most in
    rw (middle-shift (length c.args.image.now) least most, c.pow-most.ensures) (omega (arith, room, top, some-power c.args.digits, middle-bits (length c.args.image.now) least))

pub first_outside-requires-clause-reached : goal.first_outside-requires-clause-reached
first_outside-requires-clause-reached c =
    let wide = binary_width-bounds c.args.digits in
    let least : 1 ≤ length c.args.image.now = omega (arith, c.requires.room, wide.0) in
    let most : length c.args.image.now ≤ 8 = omega (arith, c.requires.room, wide.1) in
    let room : 2 * 10 ^ c.args.digits ≤ 256 ^ length c.args.image.now = rw c.requires.room (binary-room c.args.digits c.requires.digits) in
    let same = turned-array c.args.image.now c.copy_from_slice.new.self (drop (length c.args.image.now) (0 ∷ 0 ∷ 0 ∷ 0 ∷ 0 ∷ 0 ∷ 0 ∷ 0 ∷ [])) c.copy_from_slice.ensures.after least in
    rw (same, turned_front-length c.args.image.now, middle-shift (length c.args.image.now) least most, c.pow-most.ensures)
    (omega (arith, room, some-power c.args.digits, middle-bits (length c.args.image.now) least))

pub returns : goal.returns
returns c =
    let wide = binary_width-bounds c.args.digits in
    let least : 1 ≤ length c.args.image.now = omega (arith, c.requires.room, wide.0) in
    let most : length c.args.image.now ≤ 8 = omega (arith, c.requires.room, wide.1) in
    let same = turned-array c.args.image.now c.copy_from_slice.new.self (drop (length c.args.image.now) (0 ∷ 0 ∷ 0 ∷ 0 ∷ 0 ∷ 0 ∷ 0 ∷ 0 ∷ [])) c.copy_from_slice.ensures.after least in
    IsFirstBad-binary c.args.digits c.args.image.now _ _ _ c.first_outside.result c.first_outside.ensures least c.type_inv.image same (middle-shift (length c.args.image.now) least most) (ap (λ k. k - 1) c.pow-most.ensures)
