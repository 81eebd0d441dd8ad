use Rattle.std.proofs.Common.{◌*◌, ◌%◌, ◌^◌, ◌∙◌, length, arith, FitsSigned}
use Rattle.std.specs.Int.{w64, w128, bytes_high_first, cast_unsigned}
use Rattle.std.proofs.lemmas.Int.{to_z-of_z}
use Rattle.std.proofs.lemmas.List.{drop_all, append-nil}
use Rattle.field_values.proofs.BinaryLemmas.{bytes-written, fits-half}
use Rattle.field_values.proofs.binary.write.Goals as goal

pub overflow_cast-units : goal.overflow_cast-units
overflow_cast-units c =
    let wide : FitsSigned w128 c.args.units = c.ranges.units in
    rw (to_z-of_z w128 c.args.units) (fits-half c.args.units (length c.args.into.now) c.requires.most c.requires.fits)

pub returns : goal.returns
returns c =
    let wide : FitsSigned w128 c.args.units = c.ranges.units in
    let narrow : FitsSigned w64 c.args.units = fits-half c.args.units (length c.args.into.now) c.requires.most c.requires.fits in
    let given = simp to_z-of_z at c.write_int.ensures in
    given ∙ rw (drop_all (length c.args.into.now) c.args.into.now (omega arith)) (append-nil (bytes_high_first (length c.args.into.now) (cast_unsigned w64 c.args.units % 2 ^ (8 * length c.args.into.now)))) ∙ bytes-written (length c.args.into.now) c.args.units (omega arith) c.requires.most c.requires.fits
