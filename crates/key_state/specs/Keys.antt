-- Which keys the records of unique paths have: no two have one, neither as they stand nor once changes of an open commit cycle are taken back.
-- (DDS for Physical and Logical Files, "UNIQUE"; Commitment Control. That a commit cycle keeps the keys to itself that it took away is our own.)
use Rattle.std.specs.Prelude.{ℕ, ◌≡◌, ◌+◌, Bool, true, Option, List, [], ◌∷◌, take}
use Rattle.std.specs.List.{AllByRecursion, list_any}
use Rattle.member_slots.specs.Member.{changed}
use Rattle.member_slots.specs.Members.{NumberedMembers, member_of, with_member}
use Rattle.file_model.specs.declared.paths.PathFormat.{PathFormat}
use Rattle.file_model.specs.KeyOrder.{KeyValue}
use Rattle.journal_model.specs.Places.{slot_of}
use Rattle.journal_model.specs.Replay.{before_of}
use Rattle.journal_model.specs.Rollback.{MemberChange}
use Rattle.library_steps.specs.State.{Memory, job_of}
use Rattle.library_steps.specs.UniqueKeys.{unique_paths, key_of_slot, has_key, takes_key}
use Rattle.library_steps.specs.Uses.{changes_in}

-- ---- one state of the members

-- the key that a format shows of a place, counted from 0, of its member
abbrev pub key_at : PathFormat → NumberedMembers → ℕ → Option (List KeyValue)
key_at format members place = key_of_slot format (slot_of (member_of format.member members).slots place)

-- two places with one key are one place
abbrev pub HasOwnKeys : NumberedMembers → PathFormat → Type 0
HasOwnKeys members format =
    (key : List KeyValue) (place other : ℕ) → has_key (key_at format members place) key ≡ true → has_key (key_at format members other) key ≡ true → place ≡ other

-- so it is of each format of the unique paths over each member
abbrev pub EachUnique : Memory → (PathFormat → Type 0) → Type 0
EachUnique m P = (member : ℕ) → AllByRecursion (λ unique. AllByRecursion P unique.path.formats) (unique_paths member m)

-- no unique path of the files has two records with one key, where these are the members
abbrev pub AreUnique : Memory → NumberedMembers → Type 0
AreUnique m members = EachUnique m (HasOwnKeys members)

-- ---- open commit cycles

-- the members with these changes taken back, the last one first
abbrev pub taken_from : List MemberChange → NumberedMembers → NumberedMembers
taken_from [] members = members
taken_from (undo ∷ undos) members =
    taken_from undos (with_member undo.member (changed (member_of undo.member members) (undo.change.place + 1) (before_of undo.change)) members)

-- what the job with this number has changed in its open commit cycle, the last change first
abbrev pub changes_by : (job : ℕ) → Memory → List MemberChange
changes_by job m = changes_in (job_of job m).cycle

-- the members with the last changes of the job's open commit cycle taken back, so many of them
abbrev pub members_back : (job count : ℕ) → Memory → NumberedMembers
members_back job count m = taken_from (take count (changes_by job m)) m.members

-- the job's open commit cycle took a record with this key away
abbrev pub reserves : (job : ℕ) → Memory → PathFormat → List KeyValue → Bool
reserves job m format key = list_any (takes_key format key) (changes_by job m)

-- two jobs that keep one key to themselves are one job
abbrev pub IsReservedOnce : Memory → PathFormat → Type 0
IsReservedOnce m format = (key : List KeyValue) (job other : ℕ) → reserves job m format key ≡ true → reserves other m format key ≡ true → job ≡ other

-- ---- what holds of keys between calls

-- with no change taken back it says that no unique path has equal keys
pub record KeysStand (m : Memory) : Type 0 where
  pub back : (job count : ℕ) → AreUnique m (members_back job count m)
  pub once : EachUnique m (IsReservedOnce m)
