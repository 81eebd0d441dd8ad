use Rattle.record_changes.proofs.ImageLemmas.{format-none, format-some}
use Rattle.record_changes.proofs.images.own_format.Goals as goal

pub unreachable-requires : goal.unreachable-requires
unreachable-requires c = format-none c.args.file.now.spec c.requires (rw c.in-None.is at c.format.ensures)

pub returns : goal.returns
returns c = format-some c.args.file.now.spec c.in-Some.format.now c.requires c.in-Some.ensures
