use Rattle.std.proofs.Common.{[], ap, length, arith}
use Rattle.script_builder.proofs.WayLemmas.{length-ways_of}
use Rattle.script_builder.proofs.script.Goals as goal

pub assembled-requires : goal.assembled-requires
assembled-requires c =
    omega (
      arith,
      ap length c.into_vec.ensures,
      ap length c.as_slice-2.ensures.value,
      ap length c.in_ok-ways.ensures,
      ap length c.as_slice-written.ensures,
      length-ways_of c.as_slice-written.result.now c.args.labels.now c.count-total.result [],
    )
