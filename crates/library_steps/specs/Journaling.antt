-- STRJRNPF and ENDJRNPF: journaling of a member begins, with its records as they stand, or ends. (Journal Management, "Starting journaling".)
use Rattle.std.specs.Prelude.{ℕ, ◌+◌, true, false, Some, None, Result, Ok, [], ◌∷◌, length}
use Rattle.std.specs.Option.{is_some, is_none}
use Rattle.journal_model.below.entry_codec.specs.declared.kinds.Images.{Images}
use Rattle.journal_model.below.entry_codec.specs.declared.kinds.EntryKind.TheVariants.{JournalingStarted, JournalingEnded}
use Rattle.logical_model.specs.Member.{records}
use Rattle.logical_model.specs.Members.{member_of}
use Rattle.library_model.specs.declared.requests.FileMember.{FileMember}
use Rattle.library_model.specs.declared.requests.StartJournaling.{StartJournaling}
use Rattle.library_model.specs.declared.replies.Reply.{Reply}
use Rattle.library_model.specs.declared.replies.Reply.TheVariants.{AlreadyStarted, NotJournaled, Done}
use Rattle.library_steps.specs.State.{Memory, MemberStatus, with_status}
use Rattle.library_steps.specs.Change.{Change, journaled, does}
use Rattle.library_steps.specs.Refusals.{◌>>=◌, refuse_if, sequences_left, member_of_file}
use Rattle.library_steps.specs.Uses.{user_of, unused}
use Rattle.library_steps.specs.Drafts.{author_of, member_draft, initial_drafts}

-- ---- STRJRNPF

unfoldable pub start_plan : Memory → StartJournaling → Result MemberStatus Reply
start_plan m args = do
  _ ← sequences_left m
  it ← member_of_file args.file args.member m
  _ ← unused (user_of it.status.number m)
  _ ← refuse_if (is_some it.status.images) AlreadyStarted
  Ok it.status

abbrev pub journaled_from : (sequence : ℕ) → Images → MemberStatus → MemberStatus
journaled_from sequence images status = record status { images = Some images; changed = false; last_break = sequence }

-- that journaling begins, with the number of slots, and each record that stands there
abbrev pub start_change : Memory → ℕ → (timestamp : ℕ) → StartJournaling → MemberStatus → Change
start_change m job timestamp args status =
    let author = author_of m job timestamp in
    let slots = (member_of status.number m.members).slots in
    journaled (member_draft author status.number (JournalingStarted args.images (length slots)) ∷ initial_drafts author status.number 1 slots) true Done
    (with_status status.number (journaled_from (m.last_entry + 1) args.images) m)

abbrev pub start_journaling : Memory → ℕ → (timestamp : ℕ) → StartJournaling → Result Change Reply
start_journaling m job timestamp args = does (start_change m job timestamp args) (start_plan m args)

-- ---- ENDJRNPF

unfoldable pub end_plan : Memory → FileMember → Result MemberStatus Reply
end_plan m args = do
  _ ← sequences_left m
  it ← member_of_file args.file args.member m
  _ ← unused (user_of it.status.number m)
  _ ← refuse_if (is_none it.status.images) (NotJournaled it.status.number)
  Ok it.status

abbrev pub no_longer_journaled : (sequence records_then : ℕ) → MemberStatus → MemberStatus
no_longer_journaled sequence records_then status =
    record status { images = None; changed = false; records_then = records_then; last_break = sequence }

abbrev pub end_change : Memory → ℕ → (timestamp : ℕ) → MemberStatus → Change
end_change m job timestamp status =
    journaled (member_draft (author_of m job timestamp) status.number JournalingEnded ∷ []) true Done
    (with_status status.number (no_longer_journaled (m.last_entry + 1) (length (records (member_of status.number m.members)))) m)

abbrev pub end_journaling : Memory → ℕ → (timestamp : ℕ) → FileMember → Result Change Reply
end_journaling m job timestamp args = does (end_change m job timestamp) (end_plan m args)
