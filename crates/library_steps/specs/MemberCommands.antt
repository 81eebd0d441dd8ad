-- ADDPFM, CLRPFM and RGZPFM: a member is added, loses its records, or loses its deleted places. (CL reference; Database Programming, "Physical file members".)
use Rattle.std.specs.Prelude.{ℕ, ◌+◌, true, false, nat_le, nat_lt, Bool, Result, Ok, List, [], ◌∷◌, ◌++◌, length, map, if◌then◌else◌}
use Rattle.std.specs.Option.{is_some}
use Rattle.journal_model.below.entry_codec.specs.declared.entries.Draft.{Draft}
use Rattle.journal_model.below.entry_codec.specs.declared.kinds.EntryKind.{EntryKind}
use Rattle.journal_model.below.entry_codec.specs.declared.kinds.EntryKind.TheVariants.{MemberAdded, MemberCleared, MemberReorganized}
use Rattle.logical_model.specs.Member.{MemberState, empty_member, cleared, reorganized}
use Rattle.logical_model.specs.Members.{member_of, put_member, with_member}
use Rattle.record_fmt.specs.Layout.{record_length}
use Rattle.library_model.specs.declared.limits.TheConstants.{LAST_MEMBER}
use Rattle.library_model.specs.declared.requests.FileMember.{FileMember}
use Rattle.library_model.specs.declared.replies.Reply.{Reply}
use Rattle.library_model.specs.declared.replies.Reply.TheVariants.{NameExists, LimitReached, Done}
use Rattle.library_model.specs.declared.replies.LimitKind.TheVariants.{Members, MemberNumbers}
use Rattle.library_model.specs.Named.{Named, named, same_name}
use Rattle.library_steps.specs.declared.limits.TheConstants.{MOST_MEMBERS}
use Rattle.library_steps.specs.State.{Memory, FileState, MemberStatus, physical_named, fields_of, with_status}
use Rattle.library_steps.specs.Change.{Change, journaled, does}
use Rattle.library_steps.specs.Refusals.{◌>>=◌, refuse_if, named_or_refused, sequences_left, member_of_file}
use Rattle.library_steps.specs.Uses.{user_of, unused}
use Rattle.library_steps.specs.Drafts.{author_of, member_draft}
use Rattle.library_steps.specs.CreatePhysicalFile.{new_status}

-- ---- ADDPFM

-- the file that gets a member
unfoldable pub add_plan : Memory → FileMember → Result FileState Reply
add_plan m args = do
  _ ← sequences_left m
  file ← named_or_refused args.file (physical_named args.file m)
  _ ← refuse_if (is_some (named args.member file.members)) (NameExists args.member)
  _ ← refuse_if (nat_le MOST_MEMBERS (length file.members)) (LimitReached Members MOST_MEMBERS)
  _ ← refuse_if (nat_lt LAST_MEMBER m.next_member) (LimitReached MemberNumbers LAST_MEMBER)
  Ok file

abbrev pub with_member_name : (member : List ℕ) → ℕ → FileState → FileState
with_member_name member number file = record file { members = file.members ++ (member, new_status number) ∷ [] }

-- the files with a change of the one of this name
abbrev pub file_changed : List ℕ → (FileState → FileState) → Named FileState → Named FileState
file_changed name change files = map (λ entry. (entry.0, if same_name name entry.0 then change entry.1 else entry.1)) files

abbrev pub member_added : FileMember → FileState → Memory → Memory
member_added args file m = record m {
  files = file_changed args.file (with_member_name args.member m.next_member) m.files;
  members = put_member m.next_member (empty_member (record_length (fields_of file))) m.members;
  next_member = m.next_member + 1;
}

abbrev pub add_member : Memory → ℕ → (timestamp : ℕ) → FileMember → Result Change Reply
add_member m job timestamp args =
    does (λ file. journaled (member_draft (author_of m job timestamp) m.next_member (MemberAdded args.file args.member) ∷ []) true Done (member_added args file m))
    (add_plan m args)

-- ---- CLRPFM and RGZPFM

-- the member whose records go or move
unfoldable pub empty_plan : Memory → FileMember → Result MemberStatus Reply
empty_plan m args = do
  _ ← sequences_left m
  it ← member_of_file args.file args.member m
  _ ← unused (user_of it.status.number m)
  Ok it.status

-- the entry that the journal gets of a member that is journaled
abbrev pub if_journaled : Bool → Draft → List Draft
if_journaled true draft = draft ∷ []
if_journaled false draft = []

-- its records have lost their numbers; a member that isn't journaled counts as changed, even where nothing moved
abbrev pub renumbered : (sequence : ℕ) → MemberStatus → MemberStatus
renumbered sequence status = if is_some status.images then record status { last_break = sequence } else record status { changed = true }

abbrev pub with_slots : ℕ → (MemberState → MemberState) → Memory → Memory
with_slots number change m = record m { members = with_member number (change (member_of number m.members)) m.members }

abbrev pub renumbering : Memory → ℕ → (timestamp : ℕ) → EntryKind → (MemberState → MemberState) → MemberStatus → Change
renumbering m job timestamp kind change status =
    journaled (if_journaled (is_some status.images) (member_draft (author_of m job timestamp) status.number kind)) true Done
    (with_status status.number (renumbered (m.last_entry + 1)) (with_slots status.number change m))

abbrev pub clear_member : Memory → ℕ → (timestamp : ℕ) → FileMember → Result Change Reply
clear_member m job timestamp args = does (renumbering m job timestamp MemberCleared cleared) (empty_plan m args)

abbrev pub reorganize_member : Memory → ℕ → (timestamp : ℕ) → FileMember → Result Change Reply
reorganize_member m job timestamp args = does (renumbering m job timestamp MemberReorganized reorganized) (empty_plan m args)
