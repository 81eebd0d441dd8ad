use Rattle.std.proofs.Common.{◌≡◌}
use Rattle.std.specs.List.{list_any}
use Rattle.std.specs.VecDeque.Iter.{deque_iter_rest}
use Rattle.job_table.specs.Changes.{changes_of, is_of_record}
use Rattle.job_table.proofs.changes.Undos.have_record.Given as goal

abbrev pub invariant-loop-undo : goal.invariant-loop-undo
invariant-loop-undo l = list_any (is_of_record l.member l.rrn) (changes_of (deque_iter_rest l.undo-iterator)) ≡ list_any (is_of_record l.member l.rrn) l.self.changes
