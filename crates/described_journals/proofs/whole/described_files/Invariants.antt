use Rattle.std.proofs.Common.{◌≡◌, ◌≤◌, ◌-◌, [], drop, length}
use Rattle.named_bases.specs.Sources.{described_behind}
use Rattle.described_journals.proofs.whole.described_files.Given as goal

abbrev pub invariant-loop-place : goal.invariant-loop-place
invariant-loop-place l = record {
  within : l.place ≤ l.count;
  all : l.count ≡ length l.files;
  so_far : described_behind l.described (drop l.place l.files) ≡ described_behind [] l.files;
}

abbrev pub decreases-loop-place : goal.decreases-loop-place
decreases-loop-place l = l.count - l.place
