use Rattle.std.proofs.Common.{ap, ◌∙◌, Some, rules}
use Rattle.join_rows.specs.WantedBytes.{CanBeSought}
use Rattle.join_rows.proofs.KeyLemmas.{all-step, wanted-start, wanted-step, wanted-stop, wanted-end}
use Rattle.join_rows.proofs.wanted.wanted_key.Goals as goal

pub loop-pair-init : goal.loop-pair-init
loop-pair-init c = record { there = c.requires; same = wanted-start _ _ (search rules) }

pub loop-pair-preserved : goal.loop-pair-preserved
loop-pair-preserved c = record {
  there = all-step (CanBeSought c.args.image.now) c.args.pairs.now c.loop-pair.pair-index c.pair-item.result c.loop-pair-test.true c.pair-item.is c.loop-pair.invariant.there;
  same = wanted-step c.args.pairs.now c.args.image.now c.loop-pair.pair-index c.pair-item.result _ c.loop-pair-test.true c.pair-item.is c.loop-pair.invariant.same _ (search rules);
}

pub returns-then-not-added : goal.returns-then-not-added
returns-then-not-added c =
    wanted-stop c.args.pairs.now c.args.image.now c.loop-pair.pair-index c.pair-item.result _ c.loop-pair-test.true c.pair-item.is c.loop-pair.invariant.same (search rules)

pub returns : goal.returns
returns c = ap Some c.from_vec.ensures ∙ wanted-end c.args.pairs.now c.args.image.now c.loop-pair.pair-index _ c.loop-pair-test.false c.loop-pair.invariant.same
