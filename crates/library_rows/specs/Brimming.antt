-- Libraries at a limit, or in another state that few calls lead to, and what calls on them are answered.
use Rattle.std.specs.Prelude.{◌≡◌, ℕ, ◌-◌, nat_lt, length, true, false, Option, Some, None, List, [], ◌∷◌, ◌++◌, replicate, codes}
use Rattle.commit_level.specs.declared.Level.TheVariants.{Chg}
use Rattle.entry_codec.specs.declared.entries.Entry.{Entry}
use Rattle.entry_codec.specs.declared.kinds.Images.TheVariants.{Both}
use Rattle.entry_codec.specs.declared.kinds.EntryKind.{EntryKind}
use Rattle.entry_codec.specs.declared.kinds.EntryKind.TheVariants.{JournalingStarted, RecordAdded, RecordDeleted}
use Rattle.file_model.specs.Paths.{PathEntry}
use Rattle.file_model.specs.Positions.{Position}
use Rattle.key_spec.specs.declared.KeySpec.{KeySpec}
use Rattle.member_slots.specs.declared.slot.Slot.{Slot}
use Rattle.member_slots.specs.declared.slot.Slot.TheVariants.{Deleted, Live}
use Rattle.member_slots.specs.Members.{NumberedMembers}
use Rattle.lock_table.specs.declared.lock.Lock.{Lock}
use Rattle.lock_table.specs.declared.lock.Reach.TheVariants.{Boundary}
use Rattle.lock_table.specs.declared.levels.Call.{Call}
use Rattle.lock_table.specs.Lock.{lock_by, update_kind}
use Rattle.journal_model.specs.Rollback.{MemberChange}
use Rattle.library_model.specs.declared.requests.OpenOption.TheVariants.{All}
use Rattle.library_model.specs.declared.requests.AccessPath.TheVariants.{File}
use Rattle.library_model.specs.declared.requests.Request.{Request}
use Rattle.library_model.specs.declared.replies.Reply.{Reply}
use Rattle.library_model.specs.declared.sources.NamedSource.{NamedSource}
use Rattle.library_steps.specs.State.{State, FileState, MemberStatus, OpenState, new_job, job_changed, memory_of}
use Rattle.library_steps.specs.CreatePhysicalFile.{new_status}
use Rattle.library_steps.specs.Locking.{clashing, locks_left}
use Rattle.library_steps.specs.Opens.{new_open}
use Rattle.library_steps.specs.SlotChange.{with_cycle}
use Rattle.library_steps.specs.Step.{step}
use Rattle.library_rows.specs.Customers.{cust, no_key, customers, library, creation, customer}
use Rattle.library_rows.specs.Calls.{Asked, run}

-- the replies of calls on a library in this state
abbrev pub replies_from : State → List Asked → List Reply
replies_from s calls = (run 100 calls s).replies

-- the reply to J1, where these sources come with the input
abbrev pub reply_with : List NamedSource → State → Request → Reply
reply_with sources s request = (step sources s 1 100 request).1

-- ---- the journal

-- this many entries are gone with their receivers
abbrev pub gone_by : ℕ → State → State
gone_by number s = record s { gone = number }

-- with an entry in it, the last sequence is one above the greatest
abbrev pub worn_out : State → State
worn_out s = gone_by 4611686018427387903 s

abbrev pub receiver_attached : ℕ → State → State
receiver_attached number s = record s { receivers = record { first = 1; attached = number } }

-- the first 10 entries are gone, and the last has the sequence 160
abbrev pub long_journal : State
long_journal = record (library no_key) { gone = 10; entries = replicate 150 creation }

-- ---- files and members

abbrev pub next_member_is : ℕ → State → State
next_member_is number s = record s { next_member = number }

-- files of the name F behind those that are there
abbrev pub more_files : ℕ → State → State
more_files count s = record s { files = s.files ++ replicate count (codes "F", customers no_key) }

-- the file CUST has members of the name M behind its first
abbrev pub more_members : ℕ → State
more_members count = record (library no_key) {
  files = (cust, record (customers no_key) { members = (cust, new_status 1) ∷ replicate count (codes "M", new_status 2) }) ∷ [];
}

-- a file behind those that are there, made from a source, with a member that was changed and never journaled
abbrev pub changed_status : ℕ → MemberStatus
changed_status number = record (new_status number) { changed = true }

abbrev pub another_file : (source : List ℕ) → ℕ → FileState
another_file source number = record (customers no_key) { source = source; members = (codes "OTHER", changed_status number) ∷ [] }

abbrev pub with_another : (source : List ℕ) → ℕ → State → State
with_another source number s = record s { files = s.files ++ (codes "OTHER", another_file source number) ∷ [] }

-- a line of a source, whose keywords begin at position 45
abbrev pub keyword_line : List ℕ → List ℕ
keyword_line keywords = codes "     A" ++ replicate 38 32 ++ keywords ++ 10 ∷ []

-- ---- bytes

-- 8,192 places of 32,766 bytes, and there is no room for another
abbrev pub full : ℕ → NumberedMembers
full number = record { number = number; item = record { record_length = 32766; slots = replicate 8192 Deleted } } ∷ []

abbrev pub full_member : State → State
full_member s = record s { members = full 1 }

-- four full members and one of 65,532 bytes besides: where CUST has no records, 4 bytes are left
abbrev pub four_bytes_left : State → State
four_bytes_left s = record s {
  members = s.members ++ full 11 ++ full 12 ++ full 13 ++ full 14
      ++ record { number = 15; item = record { record_length = 32766; slots = replicate 2 Deleted } } ∷ [];
}

-- ---- opens, commit cycles and locks

-- an open for everything
abbrev pub an_open : OpenState
an_open = new_open (record { file = cust; option = All; member = cust; open_id = cust; commit = false; access_path = File }) 1 (1 ∷ [])

-- J1 has the open CUST, and others of the name O behind it
abbrev pub more_opens : ℕ → State
more_opens count = record (library no_key) {
  jobs = record (new_job (codes "J1")) { opens = (cust, an_open) ∷ replicate count (codes "O", an_open); opened = 40 } ∷ new_job (codes "J2") ∷ [];
}

-- an open commit cycle took the customer of this name from the record
abbrev pub took : (rrn : ℕ) → List ℕ → MemberChange
took rrn name = record { member = 1; change = record { place = rrn - 1; cycle = Some 90; before = Some (customer name); after = Deleted } }

abbrev pub in_cycle : (job sequence : ℕ) → List MemberChange → State → State
in_cycle job sequence undos s = record s { jobs = job_changed (job - 1) (with_cycle (record { sequence = sequence; undos = undos })) s.jobs }

-- this job alone holds a lock: on this record, to the boundary
abbrev pub locked_by_job : (job rrn : ℕ) → State → State
locked_by_job job rrn s = record s { locks = lock_by (record { job = job; opened = 9 }) (record { member = 1; rrn = rrn }) update_kind Boundary ∷ [] }

abbrev pub unlocked : State → State
unlocked s = record s { locks = [] }

-- the same for an image of any length
abbrev pub took_image : (image : List ℕ) → MemberChange
took_image image = record { member = 1; change = record { place = 8; cycle = Some 90; before = Some (Live image); after = Deleted } }

-- the file was made from this source
abbrev pub made_from : (source : List ℕ) → State
made_from source = record (library no_key) { files = (cust, record (customers no_key) { source = source }) ∷ [] }

-- the member is journaled, its slots are these, and its journal tells of a change of record 1: 1 CT, 2 JM, 3 the change
abbrev pub journaled_status : MemberStatus
journaled_status = record (new_status 1) { images = Some Both; last_break = 2 }

abbrev pub of_member : (sequence : ℕ) → (rrn : Option ℕ) → EntryKind → Entry
of_member sequence rrn kind = record { sequence = sequence; job = Some (codes "J1"); moment = 0; group = None; member = Some 1; rrn = rrn; kind = kind }

abbrev pub told_of : KeySpec → EntryKind → List Slot → State
told_of keys kind slots = record (library keys) {
  files = (cust, record (customers keys) { members = (cust, journaled_status) ∷ [] }) ∷ [];
  members = record { number = 1; item = record { record_length = 5; slots = slots } } ∷ [];
  entries = creation ∷ of_member 2 None (JournalingStarted Both 0) ∷ of_member 3 (Some 1) kind ∷ [];
}

-- record 1 isn't there, and record 2 has the image with which it was added or deleted
abbrev pub record_added : KeySpec → (image : List ℕ) → State
record_added keys image = told_of keys (RecordAdded image) (Deleted ∷ Live image ∷ [])

abbrev pub record_deleted : KeySpec → (image : List ℕ) → State
record_deleted keys image = told_of keys (RecordDeleted (Some image)) (Deleted ∷ Live image ∷ [])

-- an open under commitment, for update of record 1
abbrev pub committed : OpenState
committed = record an_open { commit = true; current = Some 1 }

-- J1 has this open by the name U, over the customer A
abbrev pub opened_by : KeySpec → OpenState → State
opened_by keys opened = record (library keys) {
  members = record { number = 1; item = record { record_length = 5; slots = customer (codes "A") ∷ [] } } ∷ [];
  jobs = record (new_job (codes "J1")) { level = Some Chg; opens = (codes "U", opened) ∷ [] } ∷ new_job (codes "J2") ∷ [];
}

-- J2's open commit cycle keeps an image
abbrev pub image_kept : (image : List ℕ) → State
image_kept image = in_cycle 2 90 (took_image image ∷ []) (opened_by no_key committed)

abbrev pub at_position : Position PathEntry → OpenState
at_position position = record committed { position = position }

-- these locks, and the position of the open
abbrev pub with_these_locks : KeySpec → Position PathEntry → List Lock → State
with_these_locks keys position locks = record (opened_by keys (at_position position)) { locks = locks }

-- a call of J1 on the record meets, of these locks, that of another job, or none
abbrev pub IsMetBy : Call → (rrn : ℕ) → KeySpec → Position PathEntry → List Lock → Option ℕ → Type 0
IsMetBy call rrn keys position locks other = clashing call 1 (at_position position) rrn (memory_of (with_these_locks keys position locks)) ≡ other

-- it would leave more than 500,000
abbrev pub LeavesTooMany : Call → (rrn : ℕ) → KeySpec → Position PathEntry → List Lock → Type 0
LeavesTooMany call rrn keys position locks =
    nat_lt 500000 (length (locks_left call 1 (at_position position) rrn (memory_of (with_these_locks keys position locks)))) ≡ true
