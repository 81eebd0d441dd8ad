use Rattle.std.proofs.Common.{◌∙◌, ◌+◌, ◌∷◌, ℕ, drop, sym, ap, subst, arith}
use Rattle.std.proofs.lemmas.List.{drop_all, drop_more}
use Rattle.library_model.specs.Named.{Named}
use Rattle.library_steps.specs.State.{MemberStatus}
use Rattle.parts_model.specs.PathChanges.{without_path_over}
use Rattle.parts_model.proofs.IndexDetached.{IsGivingUp, giving-first, giving-next, giving-end}
use Rattle.library_parts.proofs.files.detach_paths.Goals as goal

pub loop-status-init : goal.loop-status-init
loop-status-init c =
    let gone = c.args.gone.now in
    let paths = c.args.paths.now in
    subst (λ (left : Named MemberStatus). IsGivingUp gone paths left paths) (sym c.as_slice-status-items.ensures) (giving-first gone paths)

pub loop-status-preserved : goal.loop-status-preserved
loop-status-preserved c =
    let items = c.as_slice-status-items.result.now in
    let place = c.loop-status.status-index in
    let entry = c.loop-status-item.result in
    giving-next c.args.gone.now c.args.paths.now entry (drop place items) (drop (place + 1) items) c.loop-status.paths c.detach_path.new.paths
    (drop_more items place entry c.loop-status-test.true ∙ ap (λ e. e ∷ drop (place + 1) items) (sym c.loop-status-item.is))
    (c.detach_path.ensures.paths ∙ ap (λ (n : ℕ). without_path_over n c.loop-status.paths.paths) c.number.ensures) c.detach_path.ensures.spares c.loop-status.invariant

pub returns-clause-paths : goal.returns-clause-paths
returns-clause-paths c = giving-end c.args.gone.now c.args.paths.now _ _ (drop_all c.loop-status.status-index c.as_slice-status-items.result.now (omega arith)) c.loop-status.invariant
