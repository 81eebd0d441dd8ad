use Rattle.std.proofs.Common.{◌∙◌}
use Rattle.restarted_library.proofs.CopyLemmas.{counted-records}
use Rattle.restarted_library.proofs.copies.record_count.Goals as goal

pub returns : goal.returns
returns c = c.live_count.ensures ∙ counted-records c.args.slots.now
