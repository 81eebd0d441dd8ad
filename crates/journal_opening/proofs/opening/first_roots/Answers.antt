use Rattle.std.proofs.Common.{◌≡◌, sym, ◌∙◌, ap, Err}
use Rattle.std.proofs.lemmas.Bool.{false≢true}
use Rattle.std.proofs.lemmas.Result.{err_from_is_err_and}
use Rattle.gated_log.specs.declared.fault.LogFault.{LogFault}
use Rattle.gated_log.specs.declared.fault.LogFault.TheVariants.{Damaged}
use Rattle.checkpoint.specs.declared.layout.TheConstants.{ROOT_AREA}
use Rattle.checkpoint.specs.Roots.{first_root}
use Rattle.checkpoint.proofs.RootLaws.{never_both}
use Rattle.journal_opening.proofs.Opened.{one_root}
use Rattle.journal_opening.proofs.opening.first_roots.Goals as goal

pub returns-in_err-roots-clause-damaged : goal.returns-in_err-roots-clause-damaged
returns-in_err-roots-clause-damaged g c = λ area at is tells earlier are.
    let p = err_from_is_err_and c.from_residual.result c.from_residual.ensures.1 in
    let same : c.in_err-roots.field-0.0 ≡ Damaged area at = cc (p.1, p.2, is) in
    let told = c.in_err-roots.ensures.damaged area at (ap (λ (e : LogFault). Err e) same) in
    never_both earlier first_root ((g.S.Store.disk c.args.store.now).seen ROOT_AREA) at (told.1 tells) are

pub returns-else-is_first-clause-damaged : goal.returns-else-is_first-clause-damaged
returns-else-is_first-clause-damaged g c = λ area at is tells earlier are.
    let last = one_root c.in_ok-roots.roots (g.S.Store.disk c.args.store.now) (g.S.Store.disk c.open_roots.new.store) c.open_roots.ensures.stays (c.in_ok-roots.ensures.opened tells) earlier are in
    false≢true (sym c.if-is_first.false ∙ c.is_first.ensures.only (c.last.ensures.last ∙ last))
