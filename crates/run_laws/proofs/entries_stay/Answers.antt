use Rattle.run_laws.proofs.GrownLemmas.{entries-grow, switch-two}
use Rattle.run_laws.proofs.entries_stay.Goals as goal

pub returns : goal.returns
returns c = record {
  grow = λ sources s job timestamp request unsaved numbered. entries-grow s unsaved numbered sources job timestamp request;
  switch = λ sources s job timestamp. switch-two sources s job timestamp;
}
