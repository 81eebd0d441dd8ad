use Rattle.std.proofs.Common.{arith}
use Rattle.described_journals.proofs.PlaceLemmas.{behind-next}
use Rattle.described_journals.proofs.whole.described_files.Goals as goal

pub loop-place-preserved : goal.loop-place-preserved
loop-place-preserved c = record {
  within = omega (arith, c.loop-place-test.true);
  all = c.loop-place.invariant.all;
  so_far =
      behind-next c.args.files.now c.loop-place.place c.loop-place.described c.add_at.new.described _ (omega (arith, c.loop-place-test.true, c.loop-place.invariant.all)) c.in_ok-add_at.ensures
      c.loop-place.invariant.so_far;
}
