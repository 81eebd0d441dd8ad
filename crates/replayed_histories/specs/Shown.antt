-- What a journal that was replayed and a library both show of their files, members and commit cycles. (Our own.)
use Rattle.std.specs.Prelude.{◌≡◌, ℕ, ◌<◌, Bool, true, Option, Some, None, List, [], ◌∷◌, map}
use Rattle.std.specs.List.{filter, AllByRecursion}
use Rattle.std.specs.Str.{bytes_eq}
use Rattle.entry_codec.specs.declared.kinds.FileKind.{FileKind}
use Rattle.entry_codec.specs.declared.kinds.FileKind.TheVariants.{Physical, Logical}
use Rattle.entry_codec.specs.declared.kinds.Images.{Images}
use Rattle.logical_model.specs.Bases.{FileSpec, PhysicalFile, LogicalFile}
use Rattle.journal_model.specs.Catalogue.{CatalogFile}
use Rattle.journal_model.specs.Replay.{is_other}
use Rattle.journal_replay.specs.Standing.{HeldMember}
use Rattle.library_steps.specs.State.{FileState, CycleState, JobState, MemberStatus}

-- ---- files

pub record ShownFile : Type 0 where
  pub kind : FileKind
  pub name : List ℕ
  pub source : List ℕ

abbrev pub kind_in : FileSpec → FileKind
kind_in (PhysicalFile spec) = Physical
kind_in (LogicalFile spec) = Logical

abbrev pub catalog_shown : CatalogFile → ShownFile
catalog_shown file = record { kind = file.kind; name = file.name; source = file.source }

abbrev pub file_shown : List ℕ × FileState → ShownFile
file_shown entry = record { kind = kind_in entry.1.spec; name = entry.0; source = entry.1.source }

abbrev pub memberless : List ℕ × FileState → List ℕ × FileState
memberless entry = (entry.0, record entry.1 { members = [] })

-- ---- members

pub record ShownMember : Type 0 where
  pub name : List ℕ
  pub number : ℕ
  pub images : Option Images

abbrev pub held_shown : HeldMember → ShownMember
held_shown m = record { name = m.name; number = m.number; images = m.images }

abbrev pub status_shown : List ℕ × MemberStatus → ShownMember
status_shown entry = record { name = entry.0; number = entry.1.number; images = entry.1.images }

abbrev pub is_held_in : (file : List ℕ) → HeldMember → Bool
is_held_in file m = bytes_eq m.file file

-- the members that the journal leaves of this file are those that it has, in the order in which they were made
abbrev pub ShowsMembers : List HeldMember → List ℕ × FileState → Type 0
ShowsMembers members entry = map held_shown (filter (is_held_in entry.0) members) ≡ map status_shown entry.1.members

-- ---- commit cycles

abbrev pub with_number : Option CycleState → List ℕ → List ℕ
with_number None numbers = numbers
with_number (Some cycle) numbers = cycle.sequence ∷ numbers

-- the sequences at which the open commit cycles of the jobs began
abbrev pub cycle_numbers : List JobState → List ℕ
cycle_numbers [] = []
cycle_numbers (job ∷ jobs) = with_number job.cycle (cycle_numbers jobs)

-- a commit cycle is known by the sequence of its beginning, so that the order of the numbers is that of the beginnings
abbrev pub IsRising : List ℕ → Type 0
IsRising [] = Unit {0}
IsRising (n ∷ numbers) = AllByRecursion (λ later. n < later) numbers × IsRising numbers

-- no two numbers are the same
abbrev pub AreDifferent : List ℕ → Type 0
AreDifferent [] = Unit {0}
AreDifferent (n ∷ numbers) = AllByRecursion (λ other. is_other n other ≡ true) numbers × AreDifferent numbers
