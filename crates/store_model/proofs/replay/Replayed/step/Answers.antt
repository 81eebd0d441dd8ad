use Rattle.std.proofs.Common.{◌∙◌}
use Rattle.store_model.proofs.Replays.{replayed_other}
use Rattle.store_model.proofs.replay.Replayed.step.Goals as goal

pub returns-else-area_of-area : goal.returns-else-area_of-area
returns-else-area_of-area c = λ changes is.
    replayed_other changes c.args.change.now c.args.area c.args.self.now (λ same. c.if-area_of-area.false (c.area_of.ensures ∙ same)) is
