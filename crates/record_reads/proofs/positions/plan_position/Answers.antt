use Rattle.record_reads.specs.Plans.{opened_with}
use Rattle.record_reads.proofs.positions.plan_position.Goals as goal

pub returns : goal.returns
returns c = record {
  its = opened_with c.in_ok-opened.field-0.opened.now.state c.in_ok-opened.field-0.file.now;
  opened = c.in_ok-opened.ensures.found;
  place = c.in_ok-may_stand.ensures;
  same = rw c.here-here.ensures at c.used_open.ensures;
}
