use Rattle.std.proofs.Common.{◌≡◌, ◌∙◌, None, sym}
use Rattle.parts_model.specs.EqualKeys.{repeated_of}
use Rattle.parts_model.proofs.ApartLemmas.{none-there}
use Rattle.parts_model.proofs.ResultLemmas.{is_nothing}
use Rattle.parts_model.proofs.UniqueOver.{done-end, done-first, done-next, left-fewer}
use Rattle.library_parts.proofs.given.has_repeated.Goals as goal

pub loop-path-init : goal.loop-path-init
loop-path-init c = done-first c.args.member c.args.paths.now.paths (λ id path. repeated_of path ≡ None) _ c.unique_over-path.ensures

pub loop-path-preserved : goal.loop-path-preserved
loop-path-preserved c =
    let paths = c.args.paths.now.paths in
    done-next c.args.member paths (λ id path. repeated_of path ≡ None) c.loop-path.path _ c.in-Some.id c.kept-kept.ensures.shared c.loop-path.invariant c.in-Some.is
    (λ path at. none-there c.in-Some.id path paths c.repeated_among-repeated.result c.repeated_among-repeated.ensures
    (is_nothing c.repeated_among-repeated.result (sym c.is_some.ensures ∙ c.if-is_some.false)) at) c.unique_over-path-in-Some.ensures

pub loop-path-smaller : goal.loop-path-smaller
loop-path-smaller c = rw c.in-Some.is (left-fewer c.args.member c.in-Some.id _ c.args.paths.now.paths c.unique_over-path-in-Some.ensures)

pub returns : goal.returns
returns c = λ free. done-end c.args.member c.args.paths.now.paths (λ id path. repeated_of path ≡ None) c.loop-path.path c.loop-path.invariant c.in_default.is
