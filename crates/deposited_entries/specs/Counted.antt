-- What the entries of a library's calls rest on besides its soundness: members and commit cycles are counted from 1, and no record is without a byte.
-- (DDS for Physical and Logical Files, record format. The numbers are our own.)
use Rattle.std.specs.Prelude.{◌≤◌, IfSome}
use Rattle.std.specs.List.{AllByRecursion}
use Rattle.record_fmt.specs.Layout.{record_length}
use Rattle.library_steps.specs.Bases.{FileSpec, PhysicalFile, LogicalFile}
use Rattle.library_steps.specs.State.{State}

-- a physical file's records have a field
abbrev pub HasBytes : FileSpec → Type 0
HasBytes (PhysicalFile spec) = 1 ≤ record_length spec.format.fields
HasBytes (LogicalFile spec) = Unit {0}

pub record IsCounted (s : State) : Type 0 where
  pub next : 1 ≤ s.next_member
  pub members : AllByRecursion (λ entry. 1 ≤ entry.number) s.members
  pub cycles : AllByRecursion (λ job. IfSome job.cycle (λ cycle. 1 ≤ cycle.sequence)) s.jobs
  pub records : AllByRecursion (λ entry. HasBytes entry.1.spec) s.files
