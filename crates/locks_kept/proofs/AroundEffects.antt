-- The requests that leave jobs and locks alone, and the slots of each member that a job uses: those on files and members, and on the journal.
use Rattle.std.proofs.Common.{◌≡◌, ◌≢◌, ◌⊎◌, inl, inr, ℕ, ◌+◌, ◌<◌, ◌||◌, ◌==◌, nat_lt, Bool, true, false, if◌then◌else◌, List, [], ◌∷◌, length, Option, Some, None, unwrap_or, refl, sym, ◌∙◌, ap, subst, arith}
use Rattle.std.specs.List.{AllByRecursion, list_any}
use Rattle.std.specs.Option.{is_none}
use Rattle.std.proofs.lemmas.Bool.{cases_eq}
use Rattle.std.proofs.lemmas.Bool.Decides.{nat_tests}
use Rattle.entry_codec.specs.declared.entries.Entry.{Entry}
use Rattle.entry_codec.specs.declared.kinds.EntryKind.{EntryKind}
use Rattle.entry_codec.specs.declared.kinds.EntryKind.TheVariants.{MemberCleared, MemberReorganized, ChangesApplied, ChangesRemoved}
use Rattle.member_slots.specs.Member.{MemberState, empty_member, cleared, reorganized}
use Rattle.member_slots.specs.Members.{NumberedMembers, item_at, member_of, with_member, put_member, without_member}
use Rattle.journal_model.specs.Ranges.{apply_range, remove_range}
use Rattle.library_model.specs.Named.{Named}
use Rattle.logical_model.specs.Bases.{FileSpec, PhysicalFile, LogicalFile}
use Rattle.library_model.specs.declared.replies.Reply.TheVariants as replies
use Rattle.library_model.specs.declared.replies.LimitKind.TheVariants.{LibraryBytes, BlockBytes}
use Rattle.library_model.specs.declared.requests.CreateLogicalFile.{CreateLogicalFile}
use Rattle.library_model.specs.declared.requests.CreatePhysicalFile.{CreatePhysicalFile}
use Rattle.library_model.specs.declared.requests.DeleteFile.{DeleteFile}
use Rattle.library_model.specs.declared.requests.DeleteReceiver.{DeleteReceiver}
use Rattle.library_model.specs.declared.requests.DisplayJournal.{DisplayJournal}
use Rattle.library_model.specs.declared.requests.FileMember.{FileMember}
use Rattle.library_model.specs.declared.requests.JournaledChanges.{JournaledChanges}
use Rattle.library_model.specs.declared.requests.RangeEnd.{RangeEnd}
use Rattle.library_model.specs.declared.requests.StartJournaling.{StartJournaling}
use Rattle.library_model.specs.declared.sources.NamedSource.{NamedSource}
use Rattle.library_steps.specs.declared.limits.TheConstants.{MOST_LIBRARY_BYTES, MOST_BLOCK_BYTES}
use Rattle.library_steps.specs.State.{Memory, MemberStatus, FileState, JobState, file_named}
use Rattle.library_steps.specs.Change.{Change, deposited}
use Rattle.library_steps.specs.Drafts.{author_of}
use Rattle.library_steps.specs.Refusals.{refuse_if, refuse_with, named_or_refused, sequences_left, member_of_file}
use Rattle.library_steps.specs.Uses.{first_job, uses, user_of, user_of_any, unused}
use Rattle.library_steps.specs.CreatePhysicalFile.{create_plan, create_change, create_physical_file}
use Rattle.library_steps.specs.CreateLogicalFile.{create_logical_plan, create_logical_change, create_logical_file}
use Rattle.library_steps.specs.DeleteFile.{delete_plan, delete_change, delete_file, first_dependent, user_by, without_members}
use Rattle.library_steps.specs.MemberCommands.{add_plan, add_member, empty_plan, renumbering, clear_member, reorganize_member}
use Rattle.library_steps.specs.Journaling.{start_journaling, end_journaling}
use Rattle.library_steps.specs.JournalReads.{are_there, are_kept, display_journal}
use Rattle.library_steps.specs.Receivers.{change_journal, delete_receiver}
use Rattle.library_steps.specs.Checkpoint.{save}
use Rattle.library_steps.specs.UniqueKeys.{unique_paths, all_apart}
use Rattle.library_steps.specs.EntrySizes.{entry_bytes}
use Rattle.library_steps.specs.Ranges.{RangeWork, end_named, range_named, done_or_refused, slots_now, work_of, given_forward, given_back, allowed, library_bytes, with_range, range_change, apply_plan, remove_plan, apply_changes, remove_changes}
use Rattle.joint_state.specs.Lawful.{AreBased, IsBased}
use Rattle.joint_state.proofs.MemberLemmas.{item_at-put_item_other, item_at-put_item_same, item_at-with_item_other, item_at-without_item_other}
use Rattle.locks_kept.proofs.Effects.{IsAround, Effect, Around, slots_of}
use Rattle.locks_kept.proofs.RefusalLemmas.{Holds, each-holds, found-holds, refuse_with-holds, then-holds, bind-holds, does-holds, wider-holds}
use Rattle.locks_kept.proofs.TestLemmas.{or_true}

abbrev pub Leaves : Memory → ℕ → Change → Type 0
Leaves m job done = Effect m job done.memory

-- ---- members as they were

stays : (m new : Memory) → new.jobs ≡ m.jobs → new.locks ≡ m.locks → new.members ≡ m.members → IsAround m new
stays m new jobs locks members =
    record { jobs = jobs; locks = locks; slots = λ number. inr (ap (λ (all : NumberedMembers). (member_of number all).slots) members) }

pub start_journaling-effect : (m : Memory) (job timestamp : ℕ) (args : StartJournaling) → Holds (start_journaling m job timestamp args) (Leaves m job)
start_journaling-effect m job timestamp args = does-holds _ _ (Leaves m job) (each-holds _ _ (λ status. Around (stays m _ refl refl refl)))

pub end_journaling-effect : (m : Memory) (job timestamp : ℕ) (args : FileMember) → Holds (end_journaling m job timestamp args) (Leaves m job)
end_journaling-effect m job timestamp args = does-holds _ _ (Leaves m job) (each-holds _ _ (λ status. Around (stays m _ refl refl refl)))

pub change_journal-effect : (m : Memory) (job timestamp : ℕ) → Holds (change_journal m job timestamp) (Leaves m job)
change_journal-effect m job timestamp = does-holds _ _ (Leaves m job) (each-holds _ _ (λ number. Around (stays m _ refl refl refl)))

pub delete_receiver-effect : (entries : List Entry) (m : Memory) (job : ℕ) (args : DeleteReceiver) → Holds (delete_receiver entries m args) (Leaves m job)
delete_receiver-effect entries m job args = does-holds _ _ (Leaves m job) (each-holds _ _ (λ last. Around (stays m _ refl refl refl)))

pub save-effect : (m : Memory) (job : ℕ) → Holds (save m) (Leaves m job)
save-effect m job = does-holds _ _ (Leaves m job) (each-holds _ _ (λ sequence. Around (stays m _ refl refl refl)))

pub display_journal-effect : (entries : List Entry) (m : Memory) (job : ℕ) (args : DisplayJournal) → Holds (display_journal entries m args) (Leaves m job)
display_journal-effect entries m job args = does-holds _ _ (Leaves m job) (each-holds _ _ (λ shown. Around (stays m _ refl refl refl)))

-- ---- one member changed that no job uses

one-changed : (m new : Memory) (number : ℕ) (member : MemberState) → user_of number m ≡ None → new.jobs ≡ m.jobs → new.locks ≡ m.locks → new.members ≡ with_member number member m.members
    → IsAround m new
one-changed m new number member free jobs locks members = record { jobs = jobs; locks = locks; slots = λ other. of other (cases_eq other number) }
  where
    of : (other : ℕ) → (other ≡ number) ⊎ (other ≢ number) → (user_of other m ≡ None) ⊎ (slots_of other new ≡ slots_of other m)
    of other (inl same) = inl (subst (λ n. user_of n m ≡ None) (sym same) free)
    of other (inr differ) = inr (ap (λ (all : NumberedMembers). (member_of other all).slots) members
        ∙ ap (λ (o : Option MemberState). (unwrap_or o (empty_member 0)).slots) (item_at-with_item_other other number member m.members differ))

empty_plan-free : (m : Memory) (args : FileMember) → Holds (empty_plan m args) (λ status. user_of status.number m ≡ None)
unfolding empty_plan
empty_plan-free m args =
    then-holds (sequences_left m) _ _ (λ few.
    then-holds (member_of_file args.file args.member m) _ _ (λ it.
    bind-holds (unused (user_of it.status.number m)) _ _ _ (refuse_with-holds replies.InUse (user_of it.status.number m)) (λ passed free. record { holds = free })))

renumbering-effect : (m : Memory) (job timestamp : ℕ) (kind : EntryKind) (change : MemberState → MemberState) (status : MemberStatus) → user_of status.number m ≡ None
    → Leaves m job (renumbering m job timestamp kind change status)
renumbering-effect m job timestamp kind change status free = Around (one-changed m _ status.number (change (member_of status.number m.members)) free refl refl refl)

pub clear_member-effect : (m : Memory) (job timestamp : ℕ) (args : FileMember) → Holds (clear_member m job timestamp args) (Leaves m job)
clear_member-effect m job timestamp args =
    does-holds (renumbering m job timestamp MemberCleared cleared) (empty_plan m args) (Leaves m job)
    (wider-holds (empty_plan m args) _ _ (λ status free. renumbering-effect m job timestamp MemberCleared cleared status free) (empty_plan-free m args))

pub reorganize_member-effect : (m : Memory) (job timestamp : ℕ) (args : FileMember) → Holds (reorganize_member m job timestamp args) (Leaves m job)
reorganize_member-effect m job timestamp args =
    does-holds (renumbering m job timestamp MemberReorganized reorganized) (empty_plan m args) (Leaves m job)
    (wider-holds (empty_plan m args) _ _ (λ status free. renumbering-effect m job timestamp MemberReorganized reorganized status free) (empty_plan-free m args))

-- ---- ranges of the journal

range-free : (args : JournaledChanges) (first last : RangeEnd) (entries : List Entry) (m : Memory) → Holds (range_named args first last entries m) (λ range. user_of range.status.number m ≡ None)
range-free args first last entries m =
    then-holds (sequences_left m) _ _ (λ few.
    then-holds (member_of_file args.file args.member m) _ _ (λ it.
    bind-holds (unused (user_of it.status.number m)) _ _ _ (refuse_with-holds replies.InUse (user_of it.status.number m)) (λ passed free.
    then-holds (refuse_if (is_none it.status.images) (replies.NotJournaled it.status.number)) _ _ (λ journaled.
    then-holds (are_there (end_named first it.status.number entries m) (end_named last it.status.number entries m) m) _ _ (λ there.
    then-holds (are_kept (end_named first it.status.number entries m) m) _ _ (λ kept. record { holds = free }))))))

allowed-free : (work : RangeWork) (m : Memory) → user_of work.range.status.number m ≡ None → Holds (allowed work m) (λ done. user_of done.range.status.number m ≡ None)
allowed-free work m free =
    then-holds (refuse_if (nat_lt MOST_LIBRARY_BYTES (library_bytes (with_range work.range work.done m).members)) (replies.LimitReached LibraryBytes MOST_LIBRARY_BYTES)) _ _ (λ library.
    then-holds (refuse_if (nat_lt MOST_BLOCK_BYTES (entry_bytes (deposited m work.drafts))) (replies.LimitReached BlockBytes MOST_BLOCK_BYTES)) _ _ (λ block.
    then-holds (all_apart (unique_paths work.range.status.number m) (with_range work.range work.done m)) _ _ (λ apart. record { holds = free })))

range-effect : (m : Memory) (job : ℕ) (work : RangeWork) → user_of work.range.status.number m ≡ None → Leaves m job (range_change m work)
range-effect m job work free =
    Around (one-changed m _ work.range.status.number (record (member_of work.range.status.number m.members) { slots = work.done.slots }) free refl refl refl)

apply_plan-free : (entries : List Entry) (m : Memory) (job timestamp : ℕ) (args : JournaledChanges) → Holds (apply_plan entries m job timestamp args)
    (λ work. user_of work.range.status.number m ≡ None)
unfolding apply_plan
apply_plan-free entries m job timestamp args =
    bind-holds (range_named args args.from args.to entries m) (λ range. user_of range.status.number m ≡ None) _ _ (range-free args args.from args.to entries m) (λ range free.
    then-holds (done_or_refused (apply_range range.first range.acts (slots_now range m))) _ _ (λ done. allowed-free
    (work_of (author_of m job timestamp) (λ d. ChangesApplied d.first d.last (length d.changes)) (λ d. given_forward d.changes) range m done) m free))

remove_plan-free : (entries : List Entry) (m : Memory) (job timestamp : ℕ) (args : JournaledChanges) → Holds (remove_plan entries m job timestamp args)
    (λ work. user_of work.range.status.number m ≡ None)
unfolding remove_plan
remove_plan-free entries m job timestamp args =
    bind-holds (range_named args args.to args.from entries m) (λ range. user_of range.status.number m ≡ None) _ _ (range-free args args.to args.from entries m) (λ range free.
    then-holds (done_or_refused (remove_range range.first range.acts (slots_now range m))) _ _ (λ done. allowed-free
    (work_of (author_of m job timestamp) (λ d. ChangesRemoved d.first d.last (length d.changes)) (λ d. given_back d.changes) range m done) m free))

pub apply_changes-effect : (entries : List Entry) (m : Memory) (job timestamp : ℕ) (args : JournaledChanges) → Holds (apply_changes entries m job timestamp args) (Leaves m job)
apply_changes-effect entries m job timestamp args =
    does-holds (range_change m) (apply_plan entries m job timestamp args) (Leaves m job)
    (wider-holds (apply_plan entries m job timestamp args) _ _ (λ work free. range-effect m job work free) (apply_plan-free entries m job timestamp args))

pub remove_changes-effect : (entries : List Entry) (m : Memory) (job timestamp : ℕ) (args : JournaledChanges) → Holds (remove_changes entries m job timestamp args) (Leaves m job)
remove_changes-effect entries m job timestamp args =
    does-holds (range_change m) (remove_plan entries m job timestamp args) (Leaves m job)
    (wider-holds (remove_plan entries m job timestamp args) _ _ (λ work free. range-effect m job work free) (remove_plan-free entries m job timestamp args))

-- ---- a file that goes, with members that no job uses

-- who passes no wider test passes no narrower one
pub first_job-narrower : (one wide : ℕ → JobState → Bool) → ((number : ℕ) (job : JobState) → one number job ≡ true → wide number job ≡ true) → (number : ℕ) (jobs : List JobState)
    → first_job wide number jobs ≡ None → first_job one number jobs ≡ None
first_job-narrower one wide narrower number [] none = refl
first_job-narrower one wide narrower number (job ∷ jobs) none =
    elim (one number job) as (λ b. one number job ≡ b → (if b then Some number else first_job one (number + 1) jobs) ≡ None) [
      | true ↦ λ e. absurd (
          let passes : wide number job ≡ true = narrower number job e in
          let found : (if wide number job then Some number else first_job wide (number + 1) jobs) ≡ Some number = rw passes refl in
          cc)
      | false ↦ λ e. elim (wide number job) as (λ b. (if b then Some number else first_job wide (number + 1) jobs) ≡ None → first_job one (number + 1) jobs ≡ None) [
        | true ↦ λ h. absurd cc
        | false ↦ λ h. first_job-narrower one wide narrower (number + 1) jobs h
      ] none
    ] refl

members-free : (m : Memory) (members : Named MemberStatus) → user_of_any members m ≡ None → AllByRecursion (λ e. user_of e.1.number m ≡ None) members
members-free m [] free = tt
members-free m (entry ∷ members) free = (
  first_job-narrower (uses entry.1.number m.locks) (λ number job. list_any (λ e. uses e.1.number m.locks number job) (entry ∷ members))
      (λ number job its. ap (λ b. b || list_any (λ e. uses e.1.number m.locks number job) members) its) 1 m.jobs free,
  members-free m members (first_job-narrower (λ number job. list_any (λ e. uses e.1.number m.locks number job) members)
      (λ number job. list_any (λ e. uses e.1.number m.locks number job) (entry ∷ members))
      (λ number job its. or_true (uses entry.1.number m.locks number job) (list_any (λ e. uses e.1.number m.locks number job) members) its) 1 m.jobs free),
)

others-slots : (m : Memory) (entries : Named MemberStatus) (members : NumberedMembers) (number : ℕ) → AllByRecursion (λ e. user_of e.1.number m ≡ None) entries
    → (user_of number m ≡ None) ⊎ ((member_of number (without_members entries members)).slots ≡ (member_of number members).slots)
others-slots m [] members number free = inr refl
others-slots m (entry ∷ entries) members number free =
    elim (cases_eq number entry.1.number) [
      | inl same ↦ inl (subst (λ n. user_of n m ≡ None) (sym same) free.0)
      | inr differ ↦ (elim (others-slots m entries (without_member entry.1.number members) number free.1) [
        | inl none ↦ inl none
        | inr kept ↦ inr (kept ∙ ap (λ (o : Option MemberState). (unwrap_or o (empty_member 0)).slots) (item_at-without_item_other number entry.1.number members differ))
      ])
    ]

-- the file that goes is there, and nobody uses it
pub record MayGo (m : Memory) (name : List ℕ) (file : FileState) : Type 0 where
  pub named : file_named name m ≡ Some file
  pub free : user_by file.spec name file m ≡ None

delete_plan-free : (m : Memory) (args : DeleteFile) → Holds (delete_plan m args) (MayGo m args.file)
unfolding delete_plan
delete_plan-free m args =
    then-holds (sequences_left m) _ _ (λ few.
    bind-holds (named_or_refused args.file (file_named args.file m)) (λ file. file_named args.file m ≡ Some file) _ _ (found-holds _ _) (λ file is.
    then-holds (refuse_with replies.Dependents (first_dependent args.file m.files)) _ _ (λ alone.
    bind-holds (unused (user_by file.spec args.file file m)) _ _ (MayGo m args.file) (refuse_with-holds replies.InUse (user_by file.spec args.file file m))
    (λ passed free. record { holds = record { named = is; free = free } }))))

-- a logical file has no members
gone-free : (m : Memory) (name : List ℕ) (file : FileState) (spec : FileSpec) → IsBased m.files name file.members spec → user_by spec name file m ≡ None
    → AllByRecursion (λ e. user_of e.1.number m ≡ None) file.members
gone-free m name file (PhysicalFile spec) based free = members-free m file.members free
gone-free m name file (LogicalFile spec) based free = subst (AllByRecursion (λ e. user_of e.1.number m ≡ None)) (sym based.none) tt

pub delete_file-effect : (m : Memory) (job timestamp : ℕ) (args : DeleteFile) → AreBased m.files → Holds (delete_file m job timestamp args) (Leaves m job)
delete_file-effect m job timestamp args based =
    does-holds (delete_change m job timestamp args) (delete_plan m args) (Leaves m job)
    (wider-holds (delete_plan m args) (MayGo m args.file) _ (λ file may.
    Around (record {
      jobs = refl;
      locks = refl;
      slots = λ number. others-slots m file.members m.members number (gone-free m args.file file file.spec (based args.file file may.named) may.free);
    })) (delete_plan-free m args))

-- ---- a logical file more, without members

pub create_logical_file-effect : (sources : List NamedSource) (m : Memory) (job timestamp : ℕ) (args : CreateLogicalFile) → Holds (create_logical_file sources m job timestamp args) (Leaves m job)
create_logical_file-effect sources m job timestamp args =
    does-holds (create_logical_change m job timestamp args) (create_logical_plan sources m args) (Leaves m job)
    (each-holds (create_logical_plan sources m args) _ (λ plan. Around (stays m _ refl refl refl)))

-- ---- a member more, with the next number

abbrev pub AreBelow : Memory → Type 0
AreBelow m = AllByRecursion (λ entry. entry.number < m.next_member) m.members

none-yet : (next : ℕ) (members : NumberedMembers) → AllByRecursion (λ entry. entry.number < next) members → item_at next members ≡ None
none-yet next [] below = refl
none-yet next (entry ∷ members) below =
    let lower : entry.number < next = below.0 in
    let other : (entry.number == next) ≡ false = grind (arith, nat_tests, lower) in
    rw other (none-yet next members below.1)

one-more : (m new : Memory) (length : ℕ) → AreBelow m → new.jobs ≡ m.jobs → new.locks ≡ m.locks → new.members ≡ put_member m.next_member (empty_member length) m.members → IsAround m new
one-more m new length below jobs locks members = record { jobs = jobs; locks = locks; slots = λ other. inr (of other (cases_eq other m.next_member)) }
  where
    of : (other : ℕ) → (other ≡ m.next_member) ⊎ (other ≢ m.next_member) → slots_of other new ≡ slots_of other m
    of other (inl same) =
        ap (λ (all : NumberedMembers). (member_of other all).slots) members
        ∙ ap (λ (n : ℕ). (member_of n (put_member m.next_member (empty_member length) m.members)).slots) same
        ∙ ap (λ (o : Option MemberState). (unwrap_or o (empty_member 0)).slots) (item_at-put_item_same m.next_member (empty_member length) m.members)
        ∙ sym (ap (λ (n : ℕ). (member_of n m.members).slots) same ∙ ap (λ (o : Option MemberState). (unwrap_or o (empty_member 0)).slots) (none-yet m.next_member m.members below))
    of other (inr differ) =
        ap (λ (all : NumberedMembers). (member_of other all).slots) members
        ∙ ap (λ (o : Option MemberState). (unwrap_or o (empty_member 0)).slots) (item_at-put_item_other other m.next_member (empty_member length) m.members differ)

pub create_physical_file-effect : (sources : List NamedSource) (m : Memory) (job timestamp : ℕ) (args : CreatePhysicalFile) → AreBelow m
    → Holds (create_physical_file sources m job timestamp args) (Leaves m job)
create_physical_file-effect sources m job timestamp args below =
    does-holds (create_change m job timestamp args) (create_plan sources m args) (Leaves m job) (each-holds (create_plan sources m args) _ (λ plan. Around (one-more m _ _ below refl refl refl)))

pub add_member-effect : (m : Memory) (job timestamp : ℕ) (args : FileMember) → AreBelow m → Holds (add_member m job timestamp args) (Leaves m job)
add_member-effect m job timestamp args below = does-holds _ (add_plan m args) (Leaves m job) (each-holds (add_plan m args) _ (λ file. Around (one-more m _ _ below refl refl refl)))
