use Rattle.std.proofs.Common.{◌≡◌, ◌+◌, ◌≤◌, length, drop}
use Rattle.member_slots.specs.Member.{records_from}
use Rattle.member_slots.specs.Members.{member_of}
use Rattle.file_requests.proofs.records.record_count.Given as goal

abbrev pub invariant-loop-place : goal.invariant-loop-place
invariant-loop-place l = record {
  counted : l.count + length (records_from (l.place + 1) (drop l.place (member_of l.member l.contents.state.members).slots))
      ≡ length (records_from 1 (member_of l.member l.contents.state.members).slots);
  few : l.count ≤ l.place;
}
