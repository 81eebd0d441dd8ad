use Rattle.std.proofs.Common.{◌≡◌, ◌-◌, arith, sym, ◌∙◌}
use Rattle.dds_source.proofs.ContinuationLemmas.{AreJoined-more, joined-first}
use Rattle.dds_source.proofs.continuation.joined_len.Goals as goal

pub loop-count-preserved : goal.loop-count-preserved
loop-count-preserved c = record {
  some = omega arith;
  within = omega arith;
  chained = AreJoined-more c.args.lines.now c.loop-count.count c.loop-count.invariant.some c.loop-count.invariant.chained (sym c.is_continued_by.ensures ∙ c.if-is_continued_by.true);
}

pub returns-else-is_continued_by-clause-value : goal.returns-else-is_continued_by-clause-value
returns-else-is_continued_by-clause-value c =
    joined-first c.args.lines.now c.loop-count.count c.loop-count.invariant.some c.loop-count.invariant.within c.loop-count.invariant.chained
    (λ k e lt. let front : c.loop-count.count - 1 ≡ k = omega arith in rw (front, ← e) at (sym c.is_continued_by.ensures ∙ c.if-is_continued_by.false))

pub returns-after-loop-count-clause-value : goal.returns-after-loop-count-clause-value
returns-after-loop-count-clause-value c =
    joined-first c.args.lines.now c.loop-count.count c.loop-count.invariant.some c.loop-count.invariant.within c.loop-count.invariant.chained (λ k e lt. absurd (omega arith))
