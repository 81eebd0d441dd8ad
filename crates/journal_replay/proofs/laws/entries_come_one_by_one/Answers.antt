use Rattle.journal_replay.proofs.SoFarLemmas.{so_far-front, so_far-last, so_far-push, journal-whole, whole-journal, whole-journal-ends}
use Rattle.journal_replay.proofs.LimitLemmas.{limits-front, limits-last, limits-push}
use Rattle.journal_replay.proofs.laws.entries_come_one_by_one.Goals as goal

pub returns : goal.returns
returns c = record {
  next = λ d j e. ((λ r. (so_far-front d j e r, so_far-last d j e r)), (λ p. so_far-push d j e p.0 p.1));
  limits = λ d j e. ((λ r. (limits-front d j e r, limits-last d j e r)), (λ p. limits-push d j e p.0 p.1));
  whole = λ d j. ((λ r. (whole-journal d j r, whole-journal-ends d j r, r.limits)), (λ p. journal-whole d j p.0 p.1 p.2));
}
