use Rattle.journal_replay.proofs.SoFarLemmas.{so_far-last, so_far-push}
use Rattle.journal_replay.proofs.LeftLemmas.{come-stand, stand-come, left-after}
use Rattle.journal_replay.proofs.TestLemmas.{test-stands, stands-test}
use Rattle.replay_step.proofs.laws.entries_are_read.Goals as goal

pub returns : goal.returns
returns c = record {
  may = λ d breaks j s l e. (
    (λ h. so_far-push d j e l.so_far (stand-come d breaks j s l e (test-stands d s e h))),
    (λ r. stands-test d s e (come-stand d breaks j s l e (so_far-last d j e r))),
  );
  left = λ d breaks j s l e h. left-after d breaks j s l e (test-stands d s e h);
}
