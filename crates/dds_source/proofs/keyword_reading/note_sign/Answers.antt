use Rattle.std.proofs.Common.{◌≡◌, ◌-◌, suc, length, arith}
use Rattle.dds_source.proofs.ReadingLemmas.{sign_faults-last}
use Rattle.dds_source.proofs.ContinuationLemmas.{no_line}
use Rattle.dds_source.proofs.keyword_reading.note_sign.Goals as goal

pub returns : goal.returns
returns c =
    let last : suc (length c.args.lines.now - 1) ≡ length c.args.lines.now = omega arith in
    rw (sign_faults-last c.args.begun c.args.lines.now (length c.args.lines.now - 1) no_line last, ← c.goes_on.ensures, ← c.unfinished_at.ensures) c.note_if.ensures
