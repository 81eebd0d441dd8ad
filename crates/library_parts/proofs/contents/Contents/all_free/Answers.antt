use Rattle.std.proofs.Common.{◌≡◌, ◌∙◌, Err, Result, ap, arith, subst, sym}
use Rattle.std.proofs.lemmas.Result.{err_from_is_err_and}
use Rattle.library_steps.specs.State.{memory_of}
use Rattle.parts_model.specs.declared.stop.Stop.{Stop}
use Rattle.parts_model.specs.Answers.{MayAllow}
use Rattle.parts_model.specs.NewKeys.{keys_tested}
use Rattle.parts_model.proofs.FreePaths.{tested-end, tested-failed, tested-first, tested-next}
use Rattle.library_parts.proofs.contents.Contents.all_free.Goals as goal

pub loop-place-init : goal.loop-place-init
loop-place-init c = tested-first _ _ _ _ _ _ _

pub loop-place-preserved : goal.loop-place-preserved
loop-place-preserved c = tested-next _ _ _ _ _ _ _ _ (omega arith) c.in_ok-free_at.ensures c.loop-place.invariant

pub returns-in_err-free_at : goal.returns-in_err-free_at
returns-in_err-free_at c =
    let new = c.args.new in
    let p = err_from_is_err_and c.from_residual.result c.from_residual.ensures.1 in
    let same : c.from_residual.result ≡ Err c.in_err-free_at.field-0.0 = p.1 ∙ ap (λ (e : Stop). Err e) p.2 in
    subst (λ (r : Result (Unit {0}) Stop). MayAllow r (keys_tested c.args.test new.job new.commit new.member new.rrn new.image.now (memory_of c.args.self.now.state))) (sym same)
    (tested-failed _ _ _ _ _ _ _ _ c.in_err-free_at.field-0.0 (omega arith) c.in_err-free_at.ensures c.loop-place.invariant)

pub returns : goal.returns
returns c = tested-end _ _ _ _ _ _ _ _ (omega arith) c.loop-place.invariant
