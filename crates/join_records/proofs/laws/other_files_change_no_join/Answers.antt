use Rattle.join_records.proofs.SameLemmas.{same-join, same-linked}
use Rattle.join_records.proofs.laws.other_files_change_no_join.Goals as goal

pub returns : goal.returns
returns c = record { join = same-join; linked = same-linked }
