-- Which entries of the journal a request names, and DSPJRN, which shows them. (Journal Management, DSPJRN.)
use Rattle.std.specs.Prelude.{ℕ, ◌+◌, ◌-◌, ◌==◌, ◌||◌, Bool, nat_lt, Option, None, Result, Ok, List, take, drop}
use Rattle.journal_model.below.entry_codec.specs.declared.entries.Entry.{Entry}
use Rattle.journal_model.specs.Acts.{entry_before}
use Rattle.library_model.specs.declared.requests.DisplayJournal.{DisplayJournal}
use Rattle.library_model.specs.declared.replies.Reply.{Reply}
use Rattle.library_model.specs.declared.replies.Reply.TheVariants.{NoSuchEntry, ReceiverGone, LimitReached, Entries}
use Rattle.library_model.specs.declared.replies.LimitKind.TheVariants.{DisplayEntries}
use Rattle.library_steps.specs.declared.limits.TheConstants.{MOST_DISPLAYED}
use Rattle.library_steps.specs.State.{Memory}
use Rattle.library_steps.specs.Change.{Change, unjournaled, does}
use Rattle.library_steps.specs.Refusals.{◌>>=◌, refuse_if}

-- the sequence of the first entry that is kept, or would be
abbrev pub first_kept : Memory → ℕ
first_kept m = m.gone + 1

-- no entries have these sequences: they are none, or past the last
abbrev pub is_no_range : (first last : ℕ) → Memory → Bool
is_no_range first last m = nat_lt last first || (first == 0) || nat_lt m.last_entry last

abbrev pub are_there : (first last : ℕ) → Memory → Result Bool Reply
are_there first last m = refuse_if (is_no_range first last m) NoSuchEntry

abbrev pub are_kept : (first : ℕ) → Memory → Result Bool Reply
are_kept first m = refuse_if (nat_lt first (first_kept m)) (ReceiverGone (first_kept m))

-- the entries from the first sequence up to the last
abbrev pub entries_between : (first last : ℕ) → Memory → List Entry → List Entry
entries_between first last m entries = take (last + 1 - first) (drop (first - first_kept m) entries)

-- the entry before the first sequence, where one is kept
abbrev pub prior_to : (first : ℕ) → Memory → List Entry → Option Entry
prior_to first m entries = entry_before None (take (first - first_kept m) entries)

unfoldable pub display_plan : List Entry → Memory → DisplayJournal → Result (List Entry) Reply
display_plan entries m args = do
  _ ← are_there args.from args.to m
  _ ← refuse_if (nat_lt MOST_DISPLAYED (args.to + 1 - args.from)) (LimitReached DisplayEntries MOST_DISPLAYED)
  _ ← are_kept args.from m
  Ok (entries_between args.from args.to m entries)

abbrev pub display_journal : List Entry → Memory → DisplayJournal → Result Change Reply
display_journal entries m args = does (λ shown. unjournaled (Entries shown) m) (display_plan entries m args)
