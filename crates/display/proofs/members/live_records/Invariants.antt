use Rattle.std.proofs.Common.{◌≡◌, ◌+◌, ◌≤◌, length, drop}
use Rattle.member_slots.specs.Member.{records_from}
use Rattle.display.proofs.members.live_records.Given as goal

abbrev pub invariant-loop-place : goal.invariant-loop-place
invariant-loop-place l = record {
  counted : l.live + length (records_from (l.place + 1) (drop l.place l.member.state.slots)) ≡ length (records_from 1 l.member.state.slots);
  few : l.live ≤ l.place;
}
