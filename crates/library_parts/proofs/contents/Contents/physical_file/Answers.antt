use Rattle.std.proofs.Common.{◌∙◌, sym}
use Rattle.parts_model.proofs.FindLemmas.{logical-shown, physical-kind, physical-shown}
use Rattle.library_parts.proofs.contents.Contents.physical_file.Goals as goal

pub returns-in-Physical-clause-shows : goal.returns-in-Physical-clause-shows
returns-in-Physical-clause-shows c = physical-shown _ _ c.in_ok-file.file.now c.in_ok-file.ensures (sym c.kind.ensures ∙ c.in-Physical.is)

pub returns-in-Physical-clause-physical : goal.returns-in-Physical-clause-physical
returns-in-Physical-clause-physical c = physical-kind c.in_ok-file.file.now.spec (sym c.kind.ensures ∙ c.in-Physical.is)

pub returns-in-Logical-clause-shows : goal.returns-in-Logical-clause-shows
returns-in-Logical-clause-shows c = rw c.no_such_name.ensures (logical-shown _ _ c.in_ok-file.file.now c.in_ok-file.ensures (sym c.kind.ensures ∙ c.in-Logical.is))
