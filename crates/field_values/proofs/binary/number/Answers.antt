use Rattle.std.proofs.Common.{◌<◌, ◌^◌, ◌∙◌, ap, length, rules, FitsSigned, lit<}
use Rattle.std.specs.Int.{w64}
use Rattle.std.proofs.lemmas.Int.{to_z-of_z}
use Rattle.byteorder.specs.Endian as endian
use Rattle.field_values.specs.Digits.{number_in}
use Rattle.field_values.proofs.DigitLemmas.{number_in-lt}
use Rattle.field_values.proofs.BinaryLemmas.{big_number-number_in, twos_complement-same, all-bytes}
use Rattle.field_values.proofs.binary.number.Goals as goal

pub returns : goal.returns
returns c =
    let fits : FitsSigned w64 c.read_int.result = search rules in
    let below : number_in 256 c.args.image.now < 256 ^ length c.args.image.now = number_in-lt 256 c.args.image.now (lit< tt) (all-bytes c.args.image.now c.type_inv.image) in
    rw (to_z-of_z w64 c.read_int.result)
    (c.read_int.ensures ∙ ap (endian.twos_complement (length c.args.image.now)) (big_number-number_in c.args.image.now) ∙ twos_complement-same (length c.args.image.now) (number_in 256 c.args.image.now) c.requires.least below)
