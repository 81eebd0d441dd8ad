use Rattle.std.proofs.Common.{refl, arith}
use Rattle.kept_journal.proofs.Following.{judged-at, none-left, one-judged}
use Rattle.kept_journal.proofs.waiting.may_follow.Goals as goal

pub loop-entry-preserved : goal.loop-entry-preserved
loop-entry-preserved c =
    one-judged c.args.last c.args.waiting c.args.entries.now c.loop-entry.reached c.loop-entry.bytes c.in-Some.more c.entry-item.result _
    (judged-at c.args.last c.args.waiting c.args.entries.now c.loop-entry.reached c.loop-entry.bytes c.loop-entry.entry-index c.entry-item.result c.loop-entry-test.true c.entry-item.is c.loop-entry.invariant)
    (c.if-not-is_next.ensures.before refl) (c.if-not-is_next.ensures.numbered refl) (c.if-not-is_next.ensures.inside refl) c.in-Some.ensures.0 c.in-Some.ensures.1 c.in-Some.ensures.2

pub returns : goal.returns
returns c = λ is. none-left c.args.last c.args.waiting c.args.entries.now c.loop-entry.reached c.loop-entry.bytes c.loop-entry.entry-index (omega (arith, c.loop-entry-test.false)) c.loop-entry.invariant
