use Rattle.parts_model.proofs.FindLemmas.{finds-none}
use Rattle.library_parts.proofs.contents.Contents.found_open.Goals as goal

pub unreachable-requires : goal.unreachable-requires
unreachable-requires c = finds-none c.in-Err.field-0 _ _ c.requires.named.1 (rw c.in-Err.is at c.opened_file.ensures.found)
