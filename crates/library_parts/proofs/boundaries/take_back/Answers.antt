use Rattle.std.proofs.Common.{subst}
use Rattle.parts_model.specs.Indexed.{HasBytes}
use Rattle.library_parts.proofs.boundaries.take_back.Goals as goal

pub change-again-requires : goal.change-again-requires
change-again-requires c = rw c.into_parts-before.ensures.moves c.requires.can

pub returns-clause-bytes : goal.returns-clause-bytes
returns-clause-bytes c = subst HasBytes c.before-2.ensures.before c.of_bytes.ensures
