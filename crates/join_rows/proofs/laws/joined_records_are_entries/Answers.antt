use Rattle.std.proofs.Common.{◌<◌}
use Rattle.std.proofs.lemmas.List.Elements.{recursion_from_All}
use Rattle.file_model.specs.Joins.{image_in}
use Rattle.join_rows.proofs.JoinedLemmas.{none-joined, all-joined, joined-from, joined-until}
use Rattle.join_rows.proofs.laws.joined_records_are_entries.Goals as goal

pub returns-clause-none : goal.returns-clause-none
returns-clause-none c file members row good bytes =
    none-joined file members row good (recursion_from_All (λ b. b < 256) (image_in file.from row.images) bytes)

pub returns-clause-all : goal.returns-clause-all
returns-clause-all c file members row good bytes =
    all-joined file members row good (recursion_from_All (λ b. b < 256) (image_in file.from row.images) bytes)

pub returns-clause-from : goal.returns-clause-from
returns-clause-from c file members row good bytes =
    joined-from file members row good (recursion_from_All (λ b. b < 256) (image_in file.from row.images) bytes)

pub returns-clause-until : goal.returns-clause-until
returns-clause-until c file members row good bytes =
    joined-until file members row good (recursion_from_All (λ b. b < 256) (image_in file.from row.images) bytes)
