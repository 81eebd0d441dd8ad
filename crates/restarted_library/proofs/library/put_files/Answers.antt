use Rattle.std.proofs.Common.{◌≤◌, length, arith}
use Rattle.restarted_library.proofs.WalkLemmas.{files-end}
use Rattle.restarted_library.proofs.library.put_files.Goals as goal

pub loop-place-init : goal.loop-place-init
loop-place-init c = record { built = λ entries attached none. none; few = omega arith }

pub loop-place-preserved : goal.loop-place-preserved
loop-place-preserved c = record {
  built = λ entries attached none. c.in_ok-done.ensures.built entries attached (c.loop-place.invariant.built entries attached none);
  few = c.in_ok-done.ensures.few;
}

pub returns-clause-built : goal.returns-clause-built
returns-clause-built c =
    let past : length c.args.files.now ≤ c.loop-place.place = omega arith in
    files-end c.args.files.now _ c.loop-place.place c.args.contents.now.state _ past c.loop-place.invariant.built
