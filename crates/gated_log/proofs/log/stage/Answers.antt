use Rattle.std.proofs.Common.{◌∙◌, arith}
use Rattle.store_model.proofs.Runs.{then_stays}
use Rattle.gated_log.specs.Steps.{KeepsFront}
use Rattle.gated_log.proofs.Staging.{keep_first, staged}
use Rattle.gated_log.proofs.log.stage.Goals as goal

pub returns-in_err-write-clause-any_moment : goal.returns-in_err-write-clause-any_moment
returns-in_err-write-clause-any_moment g c = keep_first c.args.area c.args.at _ _ _ _ c.write.ensures.does (omega arith)

pub returns-in_err-sync-clause-any_moment : goal.returns-in_err-sync-clause-any_moment
returns-in_err-sync-clause-any_moment g c = then_stays c.args.area (KeepsFront c.args.at) _ _ (keep_first c.args.area c.args.at _ _ _ _ c.write.ensures.does (omega arith)) _ c.sync.ensures.stays

pub returns-clause-any_moment : goal.returns-clause-any_moment
returns-clause-any_moment g c = then_stays c.args.area (KeepsFront c.args.at) _ _ (keep_first c.args.area c.args.at _ _ _ _ c.write.ensures.does (omega arith)) _ c.sync.ensures.stays

pub returns-clause-staged : goal.returns-clause-staged
returns-clause-staged g c = λ tells block is. staged c.args.at block c.args.framed.now _ _ is (c.sync.ensures.stays.seen c.args.area ∙ c.in_ok-write.ensures.written tells)
