use Rattle.std.proofs.Common.{◌∙◌, ◌+◌, ◌∷◌, Some, drop, ap, sym, arith}
use Rattle.std.proofs.lemmas.List.{drop_all, drop_more}
use Rattle.parts_model.proofs.MadeLemmas.{made-end, made-first, made-next}
use Rattle.parts_model.proofs.OpenLemmas.{number-told}
use Rattle.library_parts.proofs.reading.numbers_kept.Goals as goal

pub loop-spec-init : goal.loop-spec-init
loop-spec-init c = made-first _ _ _ c.new-ids.ensures

pub loop-spec-preserved : goal.loop-spec-preserved
loop-spec-preserved c =
    let specs = c.args.specs.now in
    let at = c.loop-spec.spec-index in
    let spec = c.spec-item.result in
    made-next _ specs at c.loop-spec.ids c.push.new.self spec c.in-Some.id
    (drop_more specs at spec c.loop-spec-test.true ∙ ap (λ s. s ∷ drop (at + 1) specs) (sym c.spec-item.is)) c.in_ok-push.ensures.pushed
    (number-told spec c.args.paths.now.paths (Some c.in-Some.id) c.in-Some.ensures) c.loop-spec.invariant

pub returns : goal.returns
returns c = made-end _ _ c.loop-spec.spec-index _ (drop_all c.loop-spec.spec-index c.args.specs.now (omega arith)) c.loop-spec.invariant
