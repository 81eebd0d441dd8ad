use Rattle.parts_model.proofs.AnswerLemmas.{Answers-unjournaled, Answers-journaled}
use Rattle.library_parts.proofs.laws.effects_answer.Goals as goal

pub returns-clause-unjournaled : goal.returns-clause-unjournaled
returns-clause-unjournaled c = λ old new reply m wanted is memory gone kept. Answers-unjournaled old new reply m wanted is memory gone kept

pub returns-clause-journaled : goal.returns-clause-journaled
returns-clause-journaled c = λ old new drafts forced reply m wanted is memory gone kept. Answers-journaled old new drafts forced reply m wanted is memory gone kept
