-- That the requests of the journal and of commitment control are refused by no fault.
use Rattle.std.proofs.Common.{◌≡◌, refl, false, List, Result, Ok, Err, ℕ, ◌+◌}
use Rattle.std.specs.Prelude.{nat_lt, not, nat_le, ◌-◌, length}
use Rattle.std.specs.Option.{is_none, is_some}
use Rattle.library_model.specs.declared.replies.Reply.TheVariants.{NoSuchName, LimitReached, StillNeeded, NoSuchEntry, ReceiverGone, AlreadyStarted, NoDefinition, PendingChanges, InUse}
use Rattle.library_model.specs.declared.replies.Missing.TheVariants.{Receiver}
use Rattle.library_model.specs.declared.replies.LimitKind.TheVariants.{Receivers, DisplayEntries, LibraryBytes, BlockBytes}
use Rattle.library_steps.specs.declared.limits.TheConstants.{LAST_RECEIVER, MOST_DISPLAYED, MOST_LIBRARY_BYTES, MOST_BLOCK_BYTES}
use Rattle.library_steps.specs.State.{Memory, job_of}
use Rattle.entry_codec.specs.declared.entries.Entry.{Entry}
use Rattle.entry_codec.specs.declared.kinds.EntryKind.TheVariants.{ChangesApplied, ChangesRemoved}
use Rattle.library_model.specs.declared.requests.DeleteReceiver.{DeleteReceiver}
use Rattle.library_steps.specs.Change.{deposited}
use Rattle.library_steps.specs.Refusals.{sequences_left, member_of_file, found}
use Rattle.library_steps.specs.Drafts.{author_of}
use Rattle.library_model.specs.declared.requests.DisplayJournal.{DisplayJournal}
use Rattle.journal_model.specs.Walks.{RangeFault, Straddled, Gap, NotRemovable, NeedsBoth, DoesNotFit}
use Rattle.journal_model.specs.Ranges.{RangeDone, apply_range, remove_range}
use Rattle.library_model.specs.declared.requests.JournaledChanges.{JournaledChanges}
use Rattle.library_model.specs.declared.requests.RangeEnd.{RangeEnd}
use Rattle.library_model.specs.declared.replies.Reply.TheVariants as replies
use Rattle.library_steps.specs.Uses.{user_of}
use Rattle.library_steps.specs.UniqueKeys.{unique_paths, all_apart}
use Rattle.library_steps.specs.EntrySizes.{entry_bytes}
use Rattle.library_steps.specs.JournalReads.{first_kept, are_there, are_kept, is_no_range, display_plan, display_journal}
use Rattle.library_model.specs.declared.requests.StartCommitment.{StartCommitment}
use Rattle.library_steps.specs.Receivers.{attach_plan, change_journal, is_kept, is_needed, give_up_plan, delete_receiver}
use Rattle.library_steps.specs.Ranges.{end_named, range_named, fault_reply, done_or_refused, library_bytes, with_range, given_forward, given_back, RangeWork, allowed, slots_now, work_of}
use Rattle.library_steps.specs.Ranges.{apply_plan, remove_plan, apply_changes, remove_changes}
use Rattle.library_steps.specs.Commitment.{start_plan, start_commitment, has_committed_open, end_plan, end_commitment, commit, rollback}
use Rattle.library_core.proofs.RefusalLemmas.{Tells, ok-tells, then-tells, refused-last, refused-then, reason-then, found-last, found-then, does-tells}
use Rattle.library_core.specs.Laws.{is_fault}
use Rattle.library_core.proofs.RefusedParts.{sequences_left-tells, member_of_file-tells, all_apart-tells}

attach_plan-tells : (m : Memory) → Tells (attach_plan m)
unfolding attach_plan
attach_plan-tells m =
    then-tells (sequences_left m) _ (sequences_left-tells m) (λ go.
    refused-then (nat_le LAST_RECEIVER m.receivers.attached) (LimitReached Receivers LAST_RECEIVER) _ refl (λ go.
    ok-tells _))

pub change_journal-tells : (m : Memory) (job timestamp : ℕ) → Tells (change_journal m job timestamp)
change_journal-tells m job timestamp = does-tells _ (attach_plan m) (attach_plan-tells m)

give_up_plan-tells : (entries : List Entry) (m : Memory) (args : DeleteReceiver) → Tells (give_up_plan entries m args)
unfolding give_up_plan
give_up_plan-tells entries m args =
    refused-then (not (is_kept args.number m)) (NoSuchName (Receiver args.number)) _ refl (λ go.
    refused-then (is_needed args.number entries m) (StillNeeded (m.checkpoint + 1)) _ refl (λ go.
    ok-tells _))

pub delete_receiver-tells : (entries : List Entry) (m : Memory) (args : DeleteReceiver) → Tells (delete_receiver entries m args)
delete_receiver-tells entries m args = does-tells _ (give_up_plan entries m args) (give_up_plan-tells entries m args)

are_there-tells : (first last : ℕ) (m : Memory) → Tells (are_there first last m)
are_there-tells first last m = refused-last (is_no_range first last m) NoSuchEntry refl

are_kept-tells : (first : ℕ) (m : Memory) → Tells (are_kept first m)
are_kept-tells first m = refused-last (nat_lt first (first_kept m)) (ReceiverGone (first_kept m)) refl

display_plan-tells : (entries : List Entry) (m : Memory) (args : DisplayJournal) → Tells (display_plan entries m args)
unfolding display_plan
display_plan-tells entries m args =
    then-tells (are_there args.from args.to m) _ (are_there-tells args.from args.to m) (λ go.
    refused-then (nat_lt MOST_DISPLAYED (args.to + 1 - args.from)) (LimitReached DisplayEntries MOST_DISPLAYED) _ refl (λ go.
    then-tells (are_kept args.from m) _ (are_kept-tells args.from m) (λ go.
    ok-tells _)))

pub display_journal-tells : (entries : List Entry) (m : Memory) (args : DisplayJournal) → Tells (display_journal entries m args)
display_journal-tells entries m args = does-tells _ (display_plan entries m args) (display_plan-tells entries m args)

-- ---- ranges

range_named-tells : (args : JournaledChanges) (first last : RangeEnd) (entries : List Entry) (m : Memory) → Tells (range_named args first last entries m)
range_named-tells args first last entries m =
    then-tells (sequences_left m) _ (sequences_left-tells m) (λ go.
    then-tells (member_of_file args.file args.member m) _ (member_of_file-tells args.file args.member m) (λ it.
    reason-then InUse (user_of it.status.number m) _ (λ a. refl) (λ go.
    refused-then (is_none it.status.images) (replies.NotJournaled it.status.number) _ refl (λ go.
    then-tells (are_there (end_named first it.status.number entries m) (end_named last it.status.number entries m) m) _
    (are_there-tells (end_named first it.status.number entries m) (end_named last it.status.number entries m) m) (λ go.
    then-tells (are_kept (end_named first it.status.number entries m) m) _ (are_kept-tells (end_named first it.status.number entries m) m) (λ go.
    ok-tells _))))))

fault_reply-told : (fault : RangeFault) → is_fault (fault_reply fault) ≡ false
fault_reply-told (Straddled cycle) = refl
fault_reply-told (Gap sequence) = refl
fault_reply-told (NotRemovable sequence) = refl
fault_reply-told (NeedsBoth sequence) = refl
fault_reply-told (DoesNotFit sequence rrn) = refl

done_or_refused-tells : (r : Result RangeDone RangeFault) → Tells (done_or_refused r)
done_or_refused-tells (Ok done) = ok-tells done
done_or_refused-tells (Err fault) = record { told = fault_reply-told fault }

allowed-tells : (work : RangeWork) (m : Memory) → Tells (allowed work m)
allowed-tells work m =
    refused-then (nat_lt MOST_LIBRARY_BYTES (library_bytes (with_range work.range work.done m).members)) (replies.LimitReached LibraryBytes MOST_LIBRARY_BYTES) _ refl (λ go.
    refused-then (nat_lt MOST_BLOCK_BYTES (entry_bytes (deposited m work.drafts))) (replies.LimitReached BlockBytes MOST_BLOCK_BYTES) _ refl (λ go.
    then-tells (all_apart (unique_paths work.range.status.number m) (with_range work.range work.done m)) _ (all_apart-tells (unique_paths work.range.status.number m)
    (with_range work.range work.done m)) (λ go.
    ok-tells _)))

apply_plan-tells : (entries : List Entry) (m : Memory) (job timestamp : ℕ) (args : JournaledChanges) → Tells (apply_plan entries m job timestamp args)
unfolding apply_plan
apply_plan-tells entries m job timestamp args =
    then-tells (range_named args args.from args.to entries m) _ (range_named-tells args args.from args.to entries m) (λ range.
    then-tells (done_or_refused (apply_range range.first range.acts (slots_now range m))) _ (done_or_refused-tells (apply_range range.first range.acts (slots_now range m))) (λ done.
    allowed-tells (work_of (author_of m job timestamp) (λ d. ChangesApplied d.first d.last (length d.changes)) (λ d. given_forward d.changes) range m done) m))

remove_plan-tells : (entries : List Entry) (m : Memory) (job timestamp : ℕ) (args : JournaledChanges) → Tells (remove_plan entries m job timestamp args)
unfolding remove_plan
remove_plan-tells entries m job timestamp args =
    then-tells (range_named args args.to args.from entries m) _ (range_named-tells args args.to args.from entries m) (λ range.
    then-tells (done_or_refused (remove_range range.first range.acts (slots_now range m))) _ (done_or_refused-tells (remove_range range.first range.acts (slots_now range m))) (λ done.
    allowed-tells (work_of (author_of m job timestamp) (λ d. ChangesRemoved d.first d.last (length d.changes)) (λ d. given_back d.changes) range m done) m))

pub apply_changes-tells : (entries : List Entry) (m : Memory) (job timestamp : ℕ) (args : JournaledChanges) → Tells (apply_changes entries m job timestamp args)
apply_changes-tells entries m job timestamp args = does-tells _ (apply_plan entries m job timestamp args) (apply_plan-tells entries m job timestamp args)

pub remove_changes-tells : (entries : List Entry) (m : Memory) (job timestamp : ℕ) (args : JournaledChanges) → Tells (remove_changes entries m job timestamp args)
remove_changes-tells entries m job timestamp args = does-tells _ (remove_plan entries m job timestamp args) (remove_plan-tells entries m job timestamp args)

-- ---- boundaries

start_plan-tells : (m : Memory) (job : ℕ) → Tells (start_plan m job)
unfolding start_plan
start_plan-tells m job =
    then-tells (sequences_left m) _ (sequences_left-tells m) (λ go.
    refused-last (is_some (job_of job m).level) AlreadyStarted refl)

pub start_commitment-tells : (m : Memory) (job timestamp : ℕ) (args : StartCommitment) → Tells (start_commitment m job timestamp args)
start_commitment-tells m job timestamp args = does-tells _ (start_plan m job) (start_plan-tells m job)

end_plan-tells : (m : Memory) (job : ℕ) → Tells (end_plan m job)
unfolding end_plan
end_plan-tells m job =
    found-then (job_of job m).level NoDefinition _ refl (λ go.
    reason-then (λ cycle. PendingChanges cycle.sequence) (job_of job m).cycle _ (λ a. refl) (λ go.
    refused-last (has_committed_open (job_of job m)) (InUse job) refl))

pub end_commitment-tells : (m : Memory) (job timestamp : ℕ) → Tells (end_commitment m job timestamp)
end_commitment-tells m job timestamp = does-tells _ (end_plan m job) (end_plan-tells m job)

pub commit-tells : (m : Memory) (job timestamp : ℕ) → Tells (commit m job timestamp)
commit-tells m job timestamp = does-tells _ (found (job_of job m).level NoDefinition) (found-last (job_of job m).level NoDefinition refl)

pub rollback-tells : (m : Memory) (job timestamp : ℕ) → Tells (rollback m job timestamp)
rollback-tells m job timestamp = does-tells _ (found (job_of job m).level NoDefinition) (found-last (job_of job m).level NoDefinition refl)
