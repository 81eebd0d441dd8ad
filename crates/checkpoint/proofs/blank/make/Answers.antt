use Rattle.checkpoint.proofs.Kept.{made_settled}
use Rattle.checkpoint.proofs.blank.make.Goals as goal

pub returns-clause-settled : goal.returns-clause-settled
returns-clause-settled g c = λ tells. made_settled c.args.log.now c.args.area (g.S.Store.disk c.format.new.store) c.requires.blank (c.in_ok-format.ensures.formatted tells) (c.in_ok-format.ensures.durable tells)
