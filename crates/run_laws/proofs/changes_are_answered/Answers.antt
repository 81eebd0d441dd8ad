use Rattle.std.proofs.Common.{refl, sym}
use Rattle.library_model.specs.declared.replies.Reply.TheVariants.{NoMemory, StoreFault}
use Rattle.run_laws.proofs.AnsweredLemmas.{answered, never-unanswered}
use Rattle.run_laws.proofs.changes_are_answered.Goals as goal

pub returns : goal.returns
returns c = record {
  memory = λ sources entries m job timestamp request done is same. never-unanswered done.reply (answered sources entries m job timestamp request done is) NoMemory refl (sym same);
  store = λ sources entries m job timestamp request done is same. never-unanswered done.reply (answered sources entries m job timestamp request done is) StoreFault refl (sym same);
}
