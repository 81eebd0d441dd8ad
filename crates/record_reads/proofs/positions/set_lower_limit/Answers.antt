use Rattle.std.proofs.Common.{◌∙◌, Err, ap}
use Rattle.std.proofs.lemmas.Result.{err_from_is_err_and}
use Rattle.open_position.specs.declared.position.Side.TheVariants as sides
use Rattle.library_parts.below.parts_model.specs.declared.stop.Stop.{Stop}
use Rattle.record_reads.proofs.StopLemmas.{position-stopped}
use Rattle.record_reads.proofs.positions.set_lower_limit.Goals as goal

pub returns-in_err-used-clause-answers : goal.returns-in_err-used-clause-answers
returns-in_err-used-clause-answers c =
    let p = err_from_is_err_and c.from_residual.result c.from_residual.ensures.1 in
    position-stopped sides.Before c.args.contents.now.state c.args.job c.args.args.now c.from_residual.result c.in_err-used.field-0.0 (p.1 ∙ ap (λ (stop : Stop). Err stop) p.2)
    c.in_err-used.ensures
