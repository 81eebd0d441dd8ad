use Rattle.lawful_states.proofs.FindLemmas.{found-is}
use Rattle.file_requests.proofs.OpenLemmas.{has-number}
use Rattle.file_requests.proofs.opens.physical_members.Goals as goal

pub returns-clause-has : goal.returns-clause-has
returns-clause-has c = (
  c.number.result,
  c.in_ok-members.ensures,
  rw c.number.ensures (has-number c.args.args.now.member c.args.file.now.members c.in_ok-status.status (found-is _ _ _ c.in_ok-status.ensures)),
)
