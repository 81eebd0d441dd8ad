-- What an open of a file that is no join finds, and by what an open can be asked.
use Rattle.std.proofs.Common.{◌≡◌, ℕ, ◌||◌, Bool, true, false, not, if◌then◌else◌, Option, None, Some, Result, Ok, Err, is_ok}
use Rattle.std.proofs.Common.{refl, ap}
use Rattle.std.specs.Option.{option_map}
use Rattle.file_model.specs.Joins.{RowPlace}
use Rattle.file_model.specs.Paths.{PathEntry}
use Rattle.file_model.specs.Positions.{NumberBound, Position, Before, Reading}
use Rattle.dds_logical.specs.declared.join_views.JoinView.{JoinView}
use Rattle.dds_logical.specs.declared.views.LogicalSpec.TheVariants.{Simple, Multi, Join}
use Rattle.logical_model.specs.Bases.{Bases, FileSpec, PhysicalFile, LogicalFile}
use Rattle.logical_model.specs.Readings.{join_in, has_numbers}
use Rattle.dds_logical.specs.declared.views.LogicalSpec.{LogicalSpec}
use Rattle.library_parts.specs.Bodies.{logical_in}
use Rattle.library_model.specs.declared.requests.Limit.TheVariants as limits
use Rattle.library_model.specs.declared.replies.Reply.{Reply}
use Rattle.library_model.specs.declared.replies.Reply.TheVariants.{WrongOpen}
use Rattle.open_position.specs.OpenStand.{HasNoKey}
use Rattle.library_steps.specs.State.{Memory, FileState, OpenState}
use Rattle.library_steps.specs.Refusals.{◌>>=◌, OpenedFile}
use Rattle.library_steps.specs.Records.{is_file_path, is_keyed, reading_of, number_asked}
use Rattle.library_steps.specs.Reads.{entry_found, bound_asked, find_by, find_in}
use Rattle.library_parts.specs.Indexed.{IsReadSo, IsUnjoined}
use Rattle.library_parts.specs.Reads.{formats_read}
use Rattle.library_parts.proofs.PlaceLemmas.{by-arrival}

-- ---- by what the file is

pub join_in-unjoined : (spec : FileSpec) → IsUnjoined spec → join_in spec ≡ None
join_in-unjoined (PhysicalFile spec) unjoined = refl
join_in-unjoined (LogicalFile (Simple view)) unjoined = refl
join_in-unjoined (LogicalFile (Multi views)) unjoined = refl
join_in-unjoined (LogicalFile (Join view)) unjoined = absurd unjoined

-- a join or none
pub join_in-none : (spec : FileSpec) → join_in spec ≡ None → IsUnjoined spec
join_in-none (PhysicalFile spec) none = tt
join_in-none (LogicalFile (Simple view)) none = tt
join_in-none (LogicalFile (Multi views)) none = tt
join_in-none (LogicalFile (Join view)) none = absurd cc

pub join_in-some : (spec : FileSpec) (view : JoinView) → join_in spec ≡ Some view → spec ≡ LogicalFile (Join view)
join_in-some (PhysicalFile spec) view some = absurd cc
join_in-some (LogicalFile (Simple other)) view some = absurd cc
join_in-some (LogicalFile (Multi views)) view some = absurd cc
join_in-some (LogicalFile (Join other)) view some = let same : other ≡ view = cc in ap (λ (v : JoinView). LogicalFile (Join v)) same

-- a join is told of what a logical file is
pub join_in-logical : (spec : FileSpec) (its : LogicalSpec) → logical_in spec ≡ Some its → join_in spec ≡ join_in (LogicalFile its)
join_in-logical (PhysicalFile spec) its is = absurd cc
join_in-logical (LogicalFile other) its is = let same : other ≡ its = cc in ap (λ (l : LogicalSpec). join_in (LogicalFile l)) same

pub join_in-physical : (spec : FileSpec) → logical_in spec ≡ None → join_in spec ≡ None
join_in-physical (PhysicalFile spec) none = refl
join_in-physical (LogicalFile other) none = absurd cc

pub numbered-none : (spec : FileSpec) → has_numbers spec ≡ true → join_in spec ≡ None
numbered-none (PhysicalFile spec) numbered = refl
numbered-none (LogicalFile (Simple view)) numbered = refl
numbered-none (LogicalFile (Multi views)) numbered = absurd cc
numbered-none (LogicalFile (Join view)) numbered = absurd cc

-- ---- a file and its open

pub find_in-unjoined : (its : OpenedFile) (m : Memory) (find_entry : Reading PathEntry → Option PathEntry) (find_row : Reading RowPlace → Option RowPlace) → IsUnjoined its.file.spec
    → find_in its m find_entry find_row ≡ option_map entry_found (find_entry (reading_of its.file its.opened m))
find_in-unjoined its m find_entry find_row unjoined = ap (λ (join : Option JoinView). find_by join its m find_entry find_row) (join_in-unjoined its.file.spec unjoined)

-- ---- relative record numbers

abbrev number_if : (keyed numbered : Bool) → ℕ → Result ℕ Reply
number_if keyed numbered rrn = if keyed || not numbered then Err WrongOpen else Ok rrn

abbrev placed_at : Result ℕ Reply → Result (Position PathEntry) Reply
placed_at asked = asked >>= λ number. Ok (Before (NumberBound number))

-- the open takes the number, as it doesn't read by a key, and its file has one format
pub record TakesNumber (its : OpenedFile) (rrn : ℕ) : Type 0 where
  pub asked : number_asked its.file its.opened rrn ≡ Ok rrn
  pub unkeyed : is_keyed its.file its.opened ≡ false
  pub numbered : has_numbers its.file.spec ≡ true

-- where it can stand there
pub takes-number : (its : OpenedFile) (rrn : ℕ) → is_ok (bound_asked its Before (limits.RecordNumber rrn)) ≡ true → TakesNumber its rrn
takes-number its rrn can = record { asked = all.0; unkeyed = all.1; numbered = all.2 }
  where
    by : (b n : Bool) → is_ok (placed_at (number_if b n rrn)) ≡ true → (number_if b n rrn ≡ Ok rrn) × (b ≡ false) × (n ≡ true)
    by true n is = absurd cc
    by false false is = absurd cc
    by false true is = (refl, refl, refl)

    all : (number_asked its.file its.opened rrn ≡ Ok rrn) × (is_keyed its.file its.opened ≡ false) × (has_numbers its.file.spec ≡ true)
    all = by (is_keyed its.file its.opened) (has_numbers its.file.spec) can

-- where it can't, the number is refused for that
pub number-refused : (asked : Result ℕ Reply) (reply : Reply) → placed_at asked ≡ Err reply → asked ≡ Err reply
number-refused (Ok number) reply is = absurd cc
number-refused (Err other) reply is = let same : other ≡ reply = cc in ap (λ (r : Reply). Err r) same

-- an open that doesn't read by a key has no position of one; a logical file isn't read in arrival order
pub no-key : (bases : Bases) (file : FileState) (opened : OpenState) → has_numbers file.spec ≡ true → IsReadSo (is_file_path opened.access_path) file.spec → is_keyed file opened ≡ false
    → HasNoKey (formats_read bases file opened)
no-key bases file opened numbered so unkeyed = by-arrival bases file opened numbered so unkeyed
