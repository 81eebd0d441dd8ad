use Rattle.std.proofs.Common.{◌≡◌, ◌+◌, length}
use Rattle.journal_model.specs.Journal.{AreNumbered}
use Rattle.block_cache.proofs.block.numbered_to.Given as goal

abbrev pub invariant-loop-rest : goal.invariant-loop-rest
invariant-loop-rest l = record {
  count : l.reached + length l.rest ≡ l.last + length l.entries;
  on : AreNumbered (l.reached + 1) l.rest → AreNumbered (l.last + 1) l.entries;
  back : AreNumbered (l.last + 1) l.entries → AreNumbered (l.reached + 1) l.rest;
}

abbrev pub decreases-loop-rest : goal.decreases-loop-rest
decreases-loop-rest l = length l.rest
