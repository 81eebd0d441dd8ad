use Rattle.run_laws.proofs.OutcomeLemmas.{Runs-one}
use Rattle.run_laws.proofs.histories_lead_to_one_state.Goals as goal

pub returns : goal.returns
returns c = λ sources from s t calls one other. Runs-one sources from s t calls one other
