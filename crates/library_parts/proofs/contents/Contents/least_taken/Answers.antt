use Rattle.std.proofs.Common.{◌≡◌, ◌+◌, ◌-◌, arith}
use Rattle.parts_model.proofs.FreeKeyLemmas.{taken-at, undo-is}
use Rattle.library_parts.proofs.contents.Contents.least_taken.Goals as goal

pub loop-left-preserved : goal.loop-left-preserved
loop-left-preserved c =
    let undos = c.args.undos.now.changes in
    let within = c.loop-left.invariant.within in
    let next : c.loop-left.left ≡ c.loop-left.left - 1 + 1 = omega arith in
    record {
      within = omega (arith, within);
      least = λ format key at.
          taken-at format key undos c.loop-left.left (c.loop-left.left - 1) c.unwrap-undo.result.now.change c.loop-left.least c.in_ok-least.least
          (undo-is c.get.result c.unwrap-undo.result undos (c.loop-left.left - 1) c.get.ensures.change c.unwrap-undo.ensures) next (c.loop-left.invariant.least format key at)
          (λ more is. c.in_ok-least.ensures format key more at is);
    }
