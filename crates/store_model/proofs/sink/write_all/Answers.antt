use Rattle.std.proofs.Common.{arith, length-drop}
use Rattle.store_model.proofs.Pieces.{taken_further}
use Rattle.store_model.proofs.sink.write_all.Goals as goal

pub loop-done-preserved : goal.loop-done-preserved
loop-done-preserved g c = record {
  within = omega (arith, c.in_ok-count.ensures.within, length-drop c.loop-done.done c.args.bytes.now);
  taken = λ tells. taken_further _ c.args.bytes.now _ _ c.loop-done.done c.in_ok-count.count (c.loop-done.invariant.taken tells) (c.in_ok-count.ensures.taken tells);
  faults = omega arith;
}
