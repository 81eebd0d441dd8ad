use Rattle.std.proofs.Common.{◌≡◌, ◌∙◌, ◌++◌, ap, List, ℕ, FitsSigned}
use Rattle.std.specs.Int.{w128, bytes_high_first}
use Rattle.std.proofs.lemmas.Int.{to_z-of_z}
use Rattle.key_order.specs.KeyBytes.{turned, middle, from_middle}
use Rattle.key_order.proofs.ValueLemmas.{number-written}
use Rattle.key_order.proofs.bytes.put_number.Goals as goal

pub returns-clause-items : goal.returns-clause-items
returns-clause-items c =
    let bytes : c.to_be_bytes-number.result ≡ bytes_high_first 16 c.from_middle.result = c.to_be_bytes-number.ensures in
    let fits : FitsSigned w128 c.args.units = c.ranges.units in
    let counted : c.from_middle.result ≡ from_middle (middle c.args.digits) c.args.units = simp to_z-of_z at c.from_middle.ensures in
    c.put_text.ensures.items
    ∙ ap (λ (w : List ℕ). c.args.into.now.items ++ turned c.args.descend w)
    (number-written c.args.digits c.args.units c.number_width.result c.from_middle.result c.to_be_bytes-number.result c.requires.digits c.number_width.ensures.width bytes counted)
