use Rattle.std.proofs.Common.{◌≡◌, ◌≤◌, ℕ, ◌==◌, length, take}
use Rattle.std.specs.List.{list_any}
use Rattle.job_table.specs.Opens.{is_committed_in, state_in}
use Rattle.job_table.proofs.opens.Opens.committed.Given as goal

abbrev pub invariant-loop-entry : goal.invariant-loop-entry
invariant-loop-entry l = record {
  few : length l.numbers ≤ l.entry-index;
  same : (number : ℕ) → list_any (λ n. n == number) l.numbers ≡ list_any (λ entry. is_committed_in number (state_in entry)) (take l.entry-index l.entry-items);
}
