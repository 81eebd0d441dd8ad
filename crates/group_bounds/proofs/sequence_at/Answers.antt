use Rattle.group_bounds.specs.Bounds.{first_sequence}
use Rattle.group_bounds.proofs.PartLemmas.{numbered-at}
use Rattle.group_bounds.proofs.sequence_at.Goals as goal

pub returns : goal.returns
returns c = numbered-at c.args.entries.now (first_sequence c.args.entries.now) c.args.index _ c.requires.numbered c.requires.there
