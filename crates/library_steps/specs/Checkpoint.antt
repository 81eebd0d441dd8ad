-- CHKPT: the state of the last sequence is saved, as entries whose replay gives it. (Our own.)
use Rattle.std.specs.Prelude.{ℕ, nat_lt, Bool, true, ◌&&◌, Option, Some, None, Result, Ok, List, [], ◌∷◌, ◌++◌, flat_map, length, min, unwrap_or, if◌then◌else◌}
use Rattle.std.specs.List.{filter_map}
use Rattle.std.specs.Option.{is_none, option_map, option_map_or}
use Rattle.journal_model.below.entry_codec.specs.declared.entries.Entry.{Entry}
use Rattle.journal_model.below.entry_codec.specs.declared.kinds.Images.{Images}
use Rattle.journal_model.below.entry_codec.specs.declared.kinds.Images.TheVariants.{After}
use Rattle.journal_model.below.entry_codec.specs.declared.kinds.FileKind.TheVariants.{Physical, Logical}
use Rattle.journal_model.below.entry_codec.specs.declared.kinds.EntryKind.{EntryKind}
use Rattle.journal_model.below.entry_codec.specs.declared.kinds.EntryKind.TheVariants.{FileCreated, MemberAdded, JournalingStarted, InitialSlot, JournalingEnded}
use Rattle.logical_model.specs.Member.{records}
use Rattle.logical_model.specs.Members.{member_of}
use Rattle.logical_model.specs.Bases.{FileSpec, PhysicalFile, LogicalFile}
use Rattle.library_model.specs.declared.replies.Reply.{Reply}
use Rattle.library_model.specs.declared.replies.Reply.TheVariants.{PendingChanges, NotJournaled, LimitReached, Sequence}
use Rattle.library_model.specs.declared.replies.LimitKind.TheVariants.{BlockBytes}
use Rattle.library_model.specs.Named.{Named}
use Rattle.library_steps.specs.declared.limits.TheConstants.{MOST_BLOCK_BYTES}
use Rattle.library_steps.specs.State.{Memory, FileState, MemberStatus}
use Rattle.library_steps.specs.Change.{Change, does}
use Rattle.library_steps.specs.Refusals.{◌>>=◌, refuse_if, refuse_with}
use Rattle.library_steps.specs.EntrySizes.{entry_bytes}

-- ---- the state as entries: of no job and no moment, and without a sequence but for that of the member's last break

abbrev pub saved : (sequence : ℕ) → (member rrn : Option ℕ) → EntryKind → Entry
saved sequence member rrn kind = record { sequence = sequence; job = None; moment = 0; group = None; member = member; rrn = rrn; kind = kind }

abbrev pub saved_records : ℕ → List (ℕ × List ℕ) → List Entry
saved_records member [] = []
saved_records member (pair ∷ pairs) = saved 0 (Some member) (Some pair.0) (InitialSlot pair.1) ∷ saved_records member pairs

-- a member that isn't journaled ends its journaling again
abbrev pub saved_end : MemberStatus → Option Images → List Entry
saved_end status (Some images) = []
saved_end status None = saved 0 (Some status.number) None JournalingEnded ∷ []

abbrev pub saved_member : Memory → MemberStatus → List Entry
saved_member m status =
    let member = member_of status.number m.members in
    saved status.last_break (Some status.number) None (JournalingStarted (unwrap_or status.images After) (length member.slots))
    ∷ saved_records status.number (records member) ++ saved_end status status.images

-- the members of a file behind its first, which the file's own entry makes
abbrev pub saved_others : (file : List ℕ) → Named MemberStatus → List Entry
saved_others file [] = []
saved_others file (entry ∷ members) = saved 0 (Some entry.1.number) None (MemberAdded file entry.0) ∷ saved_others file members

abbrev pub saved_names : List ℕ → FileState → Named MemberStatus → List Entry
saved_names file it [] = []
saved_names file it (entry ∷ members) = saved 0 (Some entry.1.number) None (FileCreated Physical file it.source) ∷ saved_others file members

abbrev pub saved_physical : Memory → List ℕ × FileState → List Entry
saved_physical m entry = saved_names entry.0 entry.1 entry.1.members ++ flat_map (λ member. saved_member m member.1) entry.1.members

abbrev pub saved_by : FileSpec → Memory → List ℕ × FileState → List Entry
saved_by (PhysicalFile spec) m entry = saved_physical m entry
saved_by (LogicalFile spec) m entry = saved 0 None None (FileCreated Logical entry.0 entry.1.source) ∷ []

abbrev pub saved_file : Memory → List ℕ × FileState → List Entry
saved_file m entry = saved_by entry.1.spec m entry

-- by the order in which the files were made
abbrev pub saved_state : Memory → List Entry
saved_state m = flat_map (saved_file m) m.files

-- ---- the request

-- the lesser of two numbers that are there
abbrev pub lesser : Option ℕ → Option ℕ → Option ℕ
lesser None other = other
lesser (Some n) other = Some (option_map_or (min n) other n)

abbrev pub least_of : List ℕ → Option ℕ
least_of [] = None
least_of (n ∷ ns) = lesser (Some n) (least_of ns)

-- the first open commit cycle, by its beginning
abbrev pub least_cycle : Memory → Option ℕ
least_cycle m = least_of (filter_map (λ job. option_map (λ cycle. cycle.sequence) job.cycle) m.jobs)

-- the least member whose changes no entry tells
abbrev pub is_untold : MemberStatus → Bool
is_untold status = is_none status.images && status.changed

abbrev pub untold_number : List ℕ × MemberStatus → Option ℕ
untold_number entry = if is_untold entry.1 then Some entry.1.number else None

abbrev pub least_untold : Memory → Option ℕ
least_untold m = least_of (flat_map (λ file. filter_map untold_number file.1.members) m.files)

unfoldable pub save_plan : Memory → Result ℕ Reply
save_plan m = do
  _ ← refuse_with PendingChanges (least_cycle m)
  _ ← refuse_with NotJournaled (least_untold m)
  _ ← refuse_if (nat_lt MOST_BLOCK_BYTES (entry_bytes (saved_state m))) (LimitReached BlockBytes MOST_BLOCK_BYTES)
  Ok m.last_entry

-- the entries before are forced, and the state stands on the disk
abbrev pub save_change : Memory → ℕ → Change
save_change m sequence = record { memory = record m { checkpoint = sequence }; entries = []; reply = Sequence sequence; forced = true }

abbrev pub save : Memory → Result Change Reply
save m = does (save_change m) (save_plan m)
