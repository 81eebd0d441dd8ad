use Rattle.parts_model.proofs.DepositLemmas.{Leaves-drafts}
use Rattle.library_parts.proofs.deposits.deposits_leave.Goals as goal

pub returns : goal.returns
returns c = λ old mid new drafts forced reply m is gone kept left. Leaves-drafts old mid new drafts forced reply m is gone kept left
