use Rattle.std.proofs.Common.{◌≡◌, ◌+◌, ◌++◌, drop}
use Rattle.std.specs.List.{flat_map}
use Rattle.member_slots.specs.Member.{records_from}
use Rattle.display.specs.Display.{record_line}
use Rattle.display.proofs.members.push_records.Given as goal

abbrev pub invariant-loop-place : goal.invariant-loop-place
invariant-loop-place l =
    l.out.items ++ flat_map record_line (records_from (l.place + 1) (drop l.place l.member.state.slots))
    ≡ l.fn.out.items ++ flat_map record_line (records_from 1 l.member.state.slots)
