use Rattle.std.proofs.Common.{◌∙◌, refl}
use Rattle.logical_model.specs.Readings.{join_in}
use Rattle.open_position.specs.Reads.{side_of}
use Rattle.library_model.specs.declared.replies.Reply.TheVariants.{Done}
use Rattle.library_steps.specs.State.{memory_of}
use Rattle.record_reads.specs.Plans.{position_set}
use Rattle.record_reads.proofs.PlanLemmas.{ok-value, position-made}
use Rattle.record_reads.proofs.EffectLemmas.{opened-still, position-after}
use Rattle.record_reads.proofs.positions.apply_position.Goals as goal

pub set_position-requires-clause-place : goal.set_position-requires-clause-place
set_position-requires-clause-place c =
    let can = c.requires.place in
    record {
      its = can.its;
      opened = opened-still (memory_of c.args.contents.now.state) (memory_of c.free_for.new.self.state) _ c.free_for.ensures.memory c.args.args.now.open_id c.args.job can.its can.opened;
      place = can.place;
    }

pub returns : goal.returns
returns c =
    let old = memory_of c.args.contents.now.state in
    let left = memory_of c.free_for.new.self.state in
    let can = c.requires.place in
    let at = ok-value _ (can.place (side_of c.args.side)) in
    let still = opened-still old left _ c.free_for.ensures.memory c.args.args.now.open_id c.args.job can.its can.opened in
    c.effects_answer.ensures.unjournaled c.args.contents.now.state c.set_position.new.self.state Done _ (position_set c.args.side old c.args.job c.args.args.now)
    (position-made old c.args.job can.its c.args.side c.args.args.now at.0 can.opened at.1)
    (position-after old left (memory_of c.set_position.new.self.state) c.args.job can.its.opened c.args.used (join_in can.its.file.spec) at.0 can.same
    (rw (c.holder.ensures, c.record_id.ensures) at c.free_for.ensures.memory) (c.set_position.ensures.memory can.its at.0 still at.1))
    refl (c.set_position.ensures.entries ∙ c.free_for.ensures.entries)
