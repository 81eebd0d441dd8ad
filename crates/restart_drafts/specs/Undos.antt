-- The changes of one commit cycle among those of all that are open. (Commitment Control, "Commitment control during abnormal job end
-- and restart".)
use Rattle.std.specs.Prelude.{ℕ, List}
use Rattle.std.specs.List.{filter}
use Rattle.journal_model.specs.Replay.{is_in}
use Rattle.journal_model.specs.Rollback.{MemberChange}

-- the last one first
abbrev pub of_cycle : ℕ → List MemberChange → List MemberChange
of_cycle cycle undos = filter (λ (c : MemberChange). is_in cycle c.change) undos
