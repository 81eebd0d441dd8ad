use Rattle.input_scripts.proofs.AskLemmas.{asks-built, makes-open}
use Rattle.input_scripts.proofs.askable_scripts_ask_what_is_built.Goals as goal

pub returns : goal.returns
returns c = record {
  built = λ script askable replies full. asks-built script askable replies full;
  ends = λ script askable place values. makes-open script askable place values;
}
