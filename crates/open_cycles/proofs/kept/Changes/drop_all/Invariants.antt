use Rattle.std.proofs.Common.{◌≡◌, length}
use Rattle.std.specs.List.{filter}
use Rattle.journal_model.specs.Replay.{is_not_in}
use Rattle.journal_model.specs.Rollback.{MemberChange}
use Rattle.open_cycles.proofs.kept.Changes.drop_all.Given as goal

abbrev pub invariant-loop : goal.invariant-loop
invariant-loop l = filter (λ (c : MemberChange). is_not_in l.cycle c.change) l.self ≡ filter (λ (c : MemberChange). is_not_in l.cycle c.change) l.initial.self

abbrev pub decreases-loop : goal.decreases-loop
decreases-loop l = length l.self
