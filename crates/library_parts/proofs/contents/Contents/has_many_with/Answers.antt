use Rattle.std.proofs.Common.{◌≡◌, ◌∙◌, ◌≤◌, ◌+◌, ℕ, suc, nat_lt, true, length, append-nil, sym, ap, arith}
use Rattle.std.proofs.lemmas.Bool.Decides.{nat_tests}
use Rattle.library_steps.specs.SamePaths.{count_paths}
use Rattle.library_steps.specs.declared.limits.TheConstants.{MOST_PATHS}
use Rattle.library_steps.specs.LogicalFiles.{paths_over}
use Rattle.library_steps.specs.State.{memory_of}
use Rattle.parts_model.proofs.ManyPaths.{count-end, count-next, many-already, path-at}
use Rattle.library_parts.proofs.contents.Contents.has_many_with.Goals as goal

pub loop-place-init : goal.loop-place-init
loop-place-init c = c.count_now-count.ensures ∙ sym (ap count_paths (append-nil (paths_over c.args.member (memory_of c.args.self.now.state))))

pub returns-then-count-gt-MOST_PATHS : goal.returns-then-count-gt-MOST_PATHS
returns-then-count-gt-MOST_PATHS c =
    many-already c.args.member (paths_over c.args.member (memory_of c.args.self.now.state)) c.args.paths.now c.loop-place.place c.loop-place.count c.loop-place.invariant
    (let many = c.if-count-gt-MOST_PATHS.true in let e : nat_lt MOST_PATHS c.loop-place.count ≡ true = grind (arith, nat_tests, many) in e)

pub loop-place-preserved : goal.loop-place-preserved
loop-place-preserved c =
    let next : c.loop-place.place + 1 ≡ suc c.loop-place.place = omega arith in
    let its = path-at c.args.paths.now c.loop-place.place (omega arith) in
    count-next c.args.member (paths_over c.args.member (memory_of c.args.self.now.state)) c.args.paths.now c.loop-place.place (c.loop-place.place + 1) its.0 c.loop-place.count c.counted-count.result
    c.is_new_over.result next its.1 c.loop-place.invariant (c.is_new_over.ensures its.0 its.1) c.counted-count.ensures

pub returns : goal.returns
returns c =
    let past : length c.args.paths.now ≤ c.loop-place.place = omega arith in
    ap (λ (n : ℕ). nat_lt MOST_PATHS n)
    (count-end c.args.member (paths_over c.args.member (memory_of c.args.self.now.state)) c.args.paths.now c.loop-place.place c.loop-place.count past c.loop-place.invariant)
