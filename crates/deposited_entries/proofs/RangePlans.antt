-- What the plans of APYJRNCHG and RMVJRNCHG deposit, and that it fits into a block.
use Rattle.std.proofs.Common.{◌≡◌, ℕ, ◌+◌, ◌≤◌, nat_lt, Ok, List, length, refl, subst}
use Rattle.std.proofs.lemmas.Bool.{ltb-false}
use Rattle.entry_codec.specs.declared.kinds.EntryKind.{EntryKind}
use Rattle.entry_codec.specs.declared.kinds.EntryKind.TheVariants.{ChangesApplied, ChangesRemoved}
use Rattle.entry_codec.specs.declared.entries.Entry.{Entry}
use Rattle.journal_model.specs.Ranges.{RangeDone, apply_range, remove_range}
use Rattle.library_model.specs.declared.replies.Reply.TheVariants as replies
use Rattle.library_model.specs.declared.replies.LimitKind.TheVariants.{LibraryBytes, BlockBytes}
use Rattle.library_model.specs.declared.requests.JournaledChanges.{JournaledChanges}
use Rattle.library_steps.specs.declared.limits.TheConstants.{MOST_LIBRARY_BYTES, MOST_BLOCK_BYTES}
use Rattle.library_steps.specs.Change.{deposited}
use Rattle.library_steps.specs.Drafts.{Author, author_of}
use Rattle.library_steps.specs.EntrySizes.{entry_bytes}
use Rattle.library_steps.specs.Ranges.{Range, RangeWork, Given, range_named, done_or_refused, library_bytes, with_range, given_forward, given_back, told, allowed, slots_now, work_of, apply_plan, remove_plan}
use Rattle.library_steps.specs.Refusals.{refuse_if}
use Rattle.library_steps.specs.State.{Memory}
use Rattle.library_steps.specs.UniqueKeys.{unique_paths, all_apart}
use Rattle.library_kept.proofs.ResultLemmas.{ok-equal, bind-ok, not-refused}

-- the drafts tell of the range's member, behind an entry that tells how many changes were given
pub record IsTelling (author : Author) (m : Memory) (kind : RangeDone → EntryKind) (given : RangeDone → List Given) (work : RangeWork) : Type 0 where
  pub drafts : work.drafts ≡ told author (m.last_entry + 2) work.range.status.number (kind work.done) (slots_now work.range m) (given work.done)
  pub small : entry_bytes (deposited m work.drafts) ≤ MOST_BLOCK_BYTES

allowed-telling : (author : Author) (m : Memory) (kind : RangeDone → EntryKind) (given : RangeDone → List Given) (range : Range) (done : RangeDone) (work : RangeWork)
    → allowed (work_of author kind given range m done) m ≡ Ok work → IsTelling author m kind given work
allowed-telling author m kind given range done work h =
    let made = work_of author kind given range m done in
    let bytes = library_bytes (with_range made.range made.done m).members in
    let few = bind-ok (refuse_if (nat_lt MOST_LIBRARY_BYTES bytes) (replies.LimitReached LibraryBytes MOST_LIBRARY_BYTES)) _ work h in
    let block = bind-ok (refuse_if (nat_lt MOST_BLOCK_BYTES (entry_bytes (deposited m made.drafts))) (replies.LimitReached BlockBytes MOST_BLOCK_BYTES)) _ work few.2 in
    let apart = bind-ok (all_apart (unique_paths made.range.status.number m) (with_range made.range made.done m)) _ work block.2 in
    subst (IsTelling author m kind given) (ok-equal made work apart.2)
    (record { drafts = refl; small = ltb-false MOST_BLOCK_BYTES (entry_bytes (deposited m made.drafts)) (not-refused _ _ block.0 block.1) })

abbrev pub applied : RangeDone → EntryKind
applied d = ChangesApplied d.first d.last (length d.changes)

abbrev pub removed : RangeDone → EntryKind
removed d = ChangesRemoved d.first d.last (length d.changes)

abbrev pub forward : RangeDone → List Given
forward d = given_forward d.changes

abbrev pub back : RangeDone → List Given
back d = given_back d.changes

pub apply-telling : (entries : List Entry) (m : Memory) (job timestamp : ℕ) (args : JournaledChanges) (work : RangeWork) → apply_plan entries m job timestamp args ≡ Ok work
    → IsTelling (author_of m job timestamp) m applied forward work
unfolding apply_plan
apply-telling entries m job timestamp args work h =
    let range = bind-ok (range_named args args.from args.to entries m) _ work h in
    let done = bind-ok (done_or_refused (apply_range range.0.first range.0.acts (slots_now range.0 m))) _ work range.2 in
    allowed-telling (author_of m job timestamp) m applied forward range.0 done.0 work done.2

pub remove-telling : (entries : List Entry) (m : Memory) (job timestamp : ℕ) (args : JournaledChanges) (work : RangeWork) → remove_plan entries m job timestamp args ≡ Ok work
    → IsTelling (author_of m job timestamp) m removed back work
unfolding remove_plan
remove-telling entries m job timestamp args work h =
    let range = bind-ok (range_named args args.to args.from entries m) _ work h in
    let done = bind-ok (done_or_refused (remove_range range.0.first range.0.acts (slots_now range.0 m))) _ work range.2 in
    allowed-telling (author_of m job timestamp) m removed back range.0 done.0 work done.2
