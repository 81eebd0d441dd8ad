use Rattle.std.proofs.Common.{subst}
use Rattle.std.proofs.lemmas.List.Elements.{All-more}
use Rattle.access_path.specs.GivenValues.{IsOfBytes}
use Rattle.library_parts.proofs.texts.are_of_bytes.Goals as goal

pub loop-value-preserved : goal.loop-value-preserved
loop-value-preserved c =
    All-more IsOfBytes c.args.values.now c.loop-value.value-index c.value-item.result c.loop-value-test.true c.loop-value.invariant
    (subst IsOfBytes c.value-item.is c.is_of_bytes.ensures)
