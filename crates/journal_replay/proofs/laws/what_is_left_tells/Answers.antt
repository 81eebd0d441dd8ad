use Rattle.journal_replay.proofs.SoFarLemmas.{so_far-last, so_far-push}
use Rattle.journal_replay.proofs.LeftLemmas.{come-stand, stand-come, left-after}
use Rattle.journal_replay.proofs.laws.what_is_left_tells.Goals as goal

pub returns : goal.returns
returns c = record {
  next = λ d breaks j s l e. ((λ r. come-stand d breaks j s l e (so_far-last d j e r)), (λ n. so_far-push d j e l.so_far (stand-come d breaks j s l e n)));
  left = λ d breaks j s l e n. left-after d breaks j s l e n;
}
