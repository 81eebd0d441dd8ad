use Rattle.std.proofs.Common.{◌≡◌, ◌∙◌, Err, Result, ap, arith, subst, sym}
use Rattle.std.proofs.lemmas.Result.{err_from_is_err_and}
use Rattle.parts_model.specs.declared.stop.Stop.{Stop}
use Rattle.parts_model.proofs.GivenKeys.{TellsAll, apart-first, apart-next, apart-failed, apart-end}
use Rattle.library_parts.proofs.given.first_repeated.Goals as goal

pub loop-place-init : goal.loop-place-init
loop-place-init c = apart-first _ _ _

pub loop-place-preserved : goal.loop-place-preserved
loop-place-preserved c = apart-next _ _ _ _ (omega arith) c.in_ok-file_apart.ensures c.loop-place.invariant

pub returns-in_err-file_apart : goal.returns-in_err-file_apart
returns-in_err-file_apart c =
    let p = err_from_is_err_and c.from_residual.result c.from_residual.ensures.1 in
    let same : c.from_residual.result ≡ Err c.in_err-file_apart.field-0.0 = p.1 ∙ ap (λ (e : Stop). Err e) p.2 in
    subst (λ (r : Result (Unit {0}) Stop). TellsAll c.args.catalogue.now.files c.args.paths.now.paths c.args.member r) (sym same)
    (apart-failed _ _ _ _ c.in_err-file_apart.field-0.0 (omega arith) c.in_err-file_apart.ensures c.loop-place.invariant)

pub returns : goal.returns
returns c = apart-end _ _ _ _ (omega arith) c.loop-place.invariant
