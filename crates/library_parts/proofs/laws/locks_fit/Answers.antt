use Rattle.parts_model.proofs.AnswerLemmas.{locks-fit}
use Rattle.library_parts.proofs.laws.locks_fit.Goals as goal

pub returns : goal.returns
returns c = λ call level holder at is_committed s room of has few. locks-fit call level holder at is_committed s room of has few
