-- CHGJRN and DLTJRNRCV: a new receiver is attached, or receivers are given up. (Journal Management, "Managing receivers".)
use Rattle.std.specs.Prelude.{ℕ, ◌+◌, ◌==◌, ◌&&◌, ◌||◌, true, false, Bool, not, nat_le, nat_lt, Option, Some, None, Result, Ok, List, [], ◌∷◌, unwrap_or}
use Rattle.std.specs.List.{find}
use Rattle.std.specs.Option.{option_map, option_map_or}
use Rattle.journal_model.below.entry_codec.specs.declared.entries.Entry.{Entry}
use Rattle.journal_model.below.entry_codec.specs.declared.kinds.EntryKind.{EntryKind}
use Rattle.journal_model.below.entry_codec.specs.declared.kinds.EntryKind.TheVariants.{NextReceiver, FileCreated, FileDeleted, MemberAdded, JournalingStarted, InitialSlot, JournalingEnded, MemberCleared, MemberReorganized, ChangesApplied, ChangesRemoved, RecordAdded, RecordAddedAtNumber, BeforeImage, AfterImage, RecordDeleted, UndoBeforeImage, UndoAfterImage, UndoDelete, CommitmentStarted, CommitCycleStarted, CommitCycleCommitted, CommitCycleRolledBack, CommitmentEnded, AbnormalEnd, PreviousReceiver}
use Rattle.library_model.specs.declared.requests.DeleteReceiver.{DeleteReceiver}
use Rattle.library_model.specs.declared.replies.Reply.{Reply}
use Rattle.library_model.specs.declared.replies.Reply.TheVariants.{NoSuchName, StillNeeded, LimitReached, Receiver as ReceiverReply, Done}
use Rattle.library_model.specs.declared.replies.Missing.TheVariants.{Receiver}
use Rattle.library_model.specs.declared.replies.LimitKind.TheVariants.{Receivers}
use Rattle.library_steps.specs.declared.limits.TheConstants.{LAST_RECEIVER}
use Rattle.library_steps.specs.State.{Memory}
use Rattle.library_steps.specs.Change.{Change, journaled, unjournaled, does}
use Rattle.library_steps.specs.Refusals.{◌>>=◌, refuse_if, sequences_left}
use Rattle.library_steps.specs.Drafts.{author_of, library_draft}

-- ---- CHGJRN

-- the number of the receiver that is attached next
unfoldable pub attach_plan : Memory → Result ℕ Reply
attach_plan m = do
  _ ← sequences_left m
  _ ← refuse_if (nat_le LAST_RECEIVER m.receivers.attached) (LimitReached Receivers LAST_RECEIVER)
  Ok (m.receivers.attached + 1)

abbrev pub attached : ℕ → Memory → Memory
attached number m = record m { receivers = record m.receivers { attached = number } }

-- the old receiver ends with the number of the new one, which begins with that of the old one
abbrev pub attach_change : Memory → ℕ → (timestamp : ℕ) → ℕ → Change
attach_change m job timestamp number =
    let author = author_of m job timestamp in
    journaled (library_draft author (NextReceiver number) ∷ library_draft author (PreviousReceiver m.receivers.attached) ∷ []) true (ReceiverReply number)
    (attached number m)

abbrev pub change_journal : Memory → ℕ → (timestamp : ℕ) → Result Change Reply
change_journal m job timestamp = does (attach_change m job timestamp) (attach_plan m)

-- ---- DLTJRNRCV

-- the receiver that an entry ends its own for
abbrev pub next_receiver : EntryKind → Option ℕ
next_receiver (NextReceiver number) = Some number
next_receiver (FileCreated kind name source) = None
next_receiver (FileDeleted name) = None
next_receiver (MemberAdded file name) = None
next_receiver (JournalingStarted images slots) = None
next_receiver (InitialSlot image) = None
next_receiver JournalingEnded = None
next_receiver MemberCleared = None
next_receiver MemberReorganized = None
next_receiver (ChangesApplied first last changes) = None
next_receiver (ChangesRemoved first last changes) = None
next_receiver (RecordAdded image) = None
next_receiver (RecordAddedAtNumber image) = None
next_receiver (BeforeImage image) = None
next_receiver (AfterImage has_before image) = None
next_receiver (RecordDeleted before) = None
next_receiver (UndoBeforeImage image) = None
next_receiver (UndoAfterImage has_before image) = None
next_receiver (UndoDelete image) = None
next_receiver (CommitmentStarted level) = None
next_receiver CommitCycleStarted = None
next_receiver CommitCycleCommitted = None
next_receiver CommitCycleRolledBack = None
next_receiver CommitmentEnded = None
next_receiver AbnormalEnd = None
next_receiver (PreviousReceiver number) = None

abbrev pub is_number : ℕ → Option ℕ → Bool
is_number number None = false
is_number number (Some other) = other == number

-- the sequence of the last entry of a receiver that isn't attached: the one that names the next
abbrev pub last_in : ℕ → List Entry → Option ℕ
last_in number entries = option_map (λ entry. entry.sequence) (find (λ entry. is_number (number + 1) (next_receiver entry.kind)) entries)

abbrev pub is_kept : ℕ → Memory → Bool
is_kept number m = nat_le m.receivers.first number && nat_le number m.receivers.attached

-- it is attached, or has an entry behind the checkpoint
abbrev pub is_needed : ℕ → List Entry → Memory → Bool
is_needed number entries m = (number == m.receivers.attached) || option_map_or (λ last. nat_lt m.checkpoint last) (last_in number entries) true

unfoldable pub give_up_plan : List Entry → Memory → DeleteReceiver → Result ℕ Reply
give_up_plan entries m args = do
  _ ← refuse_if (not (is_kept args.number m)) (NoSuchName (Receiver args.number))
  _ ← refuse_if (is_needed args.number entries m) (StillNeeded (m.checkpoint + 1))
  Ok (unwrap_or (last_in args.number entries) m.gone)

-- the receivers up to this one are gone, and the entries up to this sequence with them
abbrev pub given_up : (number last : ℕ) → Memory → Memory
given_up number last m = record m { gone = last; receivers = record m.receivers { first = number + 1 } }

abbrev pub delete_receiver : List Entry → Memory → DeleteReceiver → Result Change Reply
delete_receiver entries m args = does (λ last. unjournaled Done (given_up args.number last m)) (give_up_plan entries m args)
