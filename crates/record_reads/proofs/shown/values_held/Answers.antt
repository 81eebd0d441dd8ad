use Rattle.std.proofs.Common.{◌∙◌, Err, ap}
use Rattle.record_reads.proofs.ShownLemmas.{no-bad-image}
use Rattle.record_reads.proofs.shown.values_held.Goals as goal

pub unreachable-requires : goal.unreachable-requires
unreachable-requires c =
    let at = c.in-Err-BadImage.field-0-0.at in
    no-bad-image c.args.format.now.fields c.args.image.now at c.requires.held ((c.unpack.ensures.bad at).0 (c.in-Err-BadImage.is ∙ ap Err c.in-Err-BadImage.field-0-is))
