use Rattle.std.proofs.Common.{length}
use Rattle.std.specs.Option.{option_copied}
use Rattle.file_model.specs.Positions as model
use Rattle.file_model.specs.Joins.{RowPlace}
use Rattle.join_rows.specs.Rows.{IsAt}
use Rattle.join_rows.proofs.EntryLemmas.{entries_at}
use Rattle.join_rows.proofs.PrimaryLemmas.{IfFine, IsOn}
use Rattle.join_rows.proofs.rows.found_row.Given as goal

abbrev pub invariant-loop-at : goal.invariant-loop-at
invariant-loop-at l = record {
  fine : IfFine l.join.spec.now l.join.members.now.members (option_copied l.at);
  on : (position : model.Position RowPlace) → IsAt l.join.spec.now l.from position → IsOn l.back l.join.spec.now l.join.members.now.members l.join.primary.now position (option_copied l.at);
}

abbrev pub decreases-loop-at : goal.decreases-loop-at
decreases-loop-at l = length (entries_at l.back l.join.primary.now (option_copied l.at))
