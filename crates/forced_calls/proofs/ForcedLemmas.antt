-- What a change asks for, request by request.
use Rattle.std.proofs.Common.{◌≡◌, ℕ, ◌+◌, Bool, true, false, not, ◌&&◌, ◌||◌, if◌then◌else◌, Option, Some, None, Result, Ok, Err, List, [], ◌++◌, refl, subst}
use Rattle.std.specs.Option.{is_some}
use Rattle.entry_codec.specs.declared.entries.Entry.{Entry}
use Rattle.entry_codec.specs.declared.kinds.Images.{Images}
use Rattle.member_slots.specs.declared.slot.Slot.{Slot}
use Rattle.member_slots.specs.declared.slot.Slot.TheVariants.{Live, Deleted}
use Rattle.journal_model.specs.Rollback.{numbered_from}
use Rattle.library_model.specs.declared.replies.Reply.{Reply}
use Rattle.library_model.specs.declared.requests.Request.{Request}
use Rattle.library_model.specs.declared.requests.Request.TheVariants.{CreatePhysicalFile, CreateLogicalFile, DeleteFile, AddMember, ClearMember, ReorganizeMember, StartJournaling, EndJournaling, ChangeJournal, DeleteReceiver, Checkpoint, DisplayJournal, ApplyChanges, RemoveChanges, StartCommitment, EndCommitment, Commit, Rollback, OpenFile, CloseFile, SetLowerLimit, SetGreaterThan, Read, ReadPrior, ReadEqual, ReadPriorEqual, Chain, Write, Update, Delete, Unlock, EndJob}
use Rattle.library_model.specs.declared.sources.NamedSource.{NamedSource}
use Rattle.library_steps.specs.State.{CycleState, JobState, Memory, job_of}
use Rattle.library_steps.specs.Change.{Change, does}
use Rattle.library_steps.specs.Drafts.{Author, author_of, slot_drafts}
use Rattle.library_steps.specs.Commitment.{end_drafts}
use Rattle.library_steps.specs.Records.{slot_there}
use Rattle.library_steps.specs.SlotChange.{NewSlot, are_both, begins_cycle, cycle_number, drafts_of, images_of, is_behind_last}
use Rattle.library_steps.specs.Step.{change}
use Rattle.forced_calls.specs.Forced.{are_free, is_forced, is_nil}

does-forced : {A : Type 0} (effect : A → Change) (plan : Result A Reply) (request : Request) (c : Change) → does effect plan ≡ Ok c → ((a : A) → (effect a).forced ≡ true → is_forced request (effect a).entries ≡ true) → c.forced ≡ true
    → is_forced request c.entries ≡ true
does-forced effect (Ok a) request c is tells = let same : effect a ≡ c = cc in subst (λ (x : Change). x.forced ≡ true → is_forced request x.entries ≡ true) same (tells a)
does-forced effect (Err reply) request c is tells = absurd cc

commit-forced : (n : ℕ) (author : Author) (cycle : Option CycleState) → is_some cycle ≡ true → not (is_nil (numbered_from n (end_drafts author cycle))) ≡ true
commit-forced n author None some = absurd cc
commit-forced n author (Some cycle) some = refl

-- the entries of a change of a slot, outside commitment
free-slot : (n : ℕ) (author : Author) (both behind_last : Bool) (member rrn : ℕ) (old new : Slot) → are_free (numbered_from n (slot_drafts author None both behind_last member rrn old new)) ≡ true
free-slot n author both true member rrn Deleted (Live image) = refl
free-slot n author both false member rrn Deleted (Live image) = refl
free-slot n author true behind_last member rrn (Live before) (Live after) = refl
free-slot n author false behind_last member rrn (Live before) (Live after) = refl
free-slot n author both behind_last member rrn (Live before) Deleted = refl
free-slot n author both behind_last member rrn Deleted Deleted = refl

-- what asks to be forced is outside commitment
by-commit : (n : ℕ) (author : Author) (job : JobState) (new : NewSlot) (images : Images) (m : Memory) (commit : Bool) → (not commit && true) ≡ true
    → are_free (numbered_from n ((if commit then begins_cycle author m job else []) ++ slot_drafts author (cycle_number commit m job) (commit || are_both images) (is_behind_last new.opened.member new.rrn m)
    new.opened.member new.rrn (slot_there new.opened.member new.rrn m) new.slot)) ≡ true
by-commit n author job new images m true asks = absurd cc
by-commit n author job new images m false asks =
    free-slot n author (are_both images) (is_behind_last new.opened.member new.rrn m) new.opened.member new.rrn (slot_there new.opened.member new.rrn m) new.slot

slot-forced : (n : ℕ) (author : Author) (job : JobState) (new : NewSlot) (images : Option Images) (m : Memory) → (not new.opened.commit && is_some images) ≡ true → are_free (numbered_from n (drafts_of author job new images m)) ≡ true
slot-forced n author job new None m asks = refl
slot-forced n author job new (Some images) m asks = by-commit n author job new images m new.opened.commit asks

pub asked : (sources : List NamedSource) (entries : List Entry) (m : Memory) (job timestamp : ℕ) (request : Request) (c : Change) → change sources entries m job timestamp request ≡ Ok c → c.forced ≡ true → is_forced request c.entries ≡ true
unfolding change
asked sources entries m job timestamp (CreatePhysicalFile args) c is forced = refl
asked sources entries m job timestamp (CreateLogicalFile args) c is forced = refl
asked sources entries m job timestamp (DeleteFile args) c is forced = refl
asked sources entries m job timestamp (AddMember args) c is forced = refl
asked sources entries m job timestamp (ClearMember args) c is forced = refl
asked sources entries m job timestamp (ReorganizeMember args) c is forced = refl
asked sources entries m job timestamp (StartJournaling args) c is forced = refl
asked sources entries m job timestamp (EndJournaling args) c is forced = refl
asked sources entries m job timestamp ChangeJournal c is forced = refl
asked sources entries m job timestamp (DeleteReceiver args) c is forced = does-forced _ _ (DeleteReceiver args) c is (λ a asks. absurd cc) forced
asked sources entries m job timestamp Checkpoint c is forced = refl
asked sources entries m job timestamp (DisplayJournal args) c is forced = does-forced _ _ (DisplayJournal args) c is (λ a asks. absurd cc) forced
asked sources entries m job timestamp (ApplyChanges args) c is forced = refl
asked sources entries m job timestamp (RemoveChanges args) c is forced = refl
asked sources entries m job timestamp (StartCommitment args) c is forced = does-forced _ _ (StartCommitment args) c is (λ a asks. absurd cc) forced
asked sources entries m job timestamp EndCommitment c is forced = does-forced _ _ EndCommitment c is (λ a asks. absurd cc) forced
asked sources entries m job timestamp Commit c is forced = does-forced _ _ Commit c is (λ level. commit-forced _ (author_of m job timestamp) (job_of job m).cycle) forced
asked sources entries m job timestamp Rollback c is forced = does-forced _ _ Rollback c is (λ a asks. absurd cc) forced
asked sources entries m job timestamp (OpenFile args) c is forced = does-forced _ _ (OpenFile args) c is (λ a asks. absurd cc) forced
asked sources entries m job timestamp (CloseFile args) c is forced = does-forced _ _ (CloseFile args) c is (λ a asks. absurd cc) forced
asked sources entries m job timestamp (SetLowerLimit args) c is forced = does-forced _ _ (SetLowerLimit args) c is (λ a asks. absurd cc) forced
asked sources entries m job timestamp (SetGreaterThan args) c is forced = does-forced _ _ (SetGreaterThan args) c is (λ a asks. absurd cc) forced
asked sources entries m job timestamp (Read args) c is forced = does-forced _ _ (Read args) c is (λ a asks. absurd cc) forced
asked sources entries m job timestamp (ReadPrior args) c is forced = does-forced _ _ (ReadPrior args) c is (λ a asks. absurd cc) forced
asked sources entries m job timestamp (ReadEqual args) c is forced = does-forced _ _ (ReadEqual args) c is (λ a asks. absurd cc) forced
asked sources entries m job timestamp (ReadPriorEqual args) c is forced = does-forced _ _ (ReadPriorEqual args) c is (λ a asks. absurd cc) forced
asked sources entries m job timestamp (Chain args) c is forced = does-forced _ _ (Chain args) c is (λ a asks. absurd cc) forced
asked sources entries m job timestamp (Write args) c is forced = does-forced _ _ (Write args) c is (λ new. slot-forced _ (author_of m job timestamp) (job_of job m) new (images_of new.opened.member m) m) forced
asked sources entries m job timestamp (Update args) c is forced = does-forced _ _ (Update args) c is (λ new. slot-forced _ (author_of m job timestamp) (job_of job m) new (images_of new.opened.member m) m) forced
asked sources entries m job timestamp (Delete args) c is forced = does-forced _ _ (Delete args) c is (λ new. slot-forced _ (author_of m job timestamp) (job_of job m) new (images_of new.opened.member m) m) forced
asked sources entries m job timestamp (Unlock args) c is forced = does-forced _ _ (Unlock args) c is (λ a asks. absurd cc) forced
asked sources entries m job timestamp (EndJob args) c is forced = refl
