-- No change answers that memory was wanting or that the store was at fault.
use Rattle.std.proofs.Common.{◌≡◌, ℕ, Bool, true, false, List, Result, Ok, Err, refl, subst}
use Rattle.entry_codec.specs.declared.entries.Entry.{Entry}
use Rattle.library_model.specs.declared.replies.Reply.{Reply}
use Rattle.library_model.specs.declared.replies.Reply.TheVariants.{NoMemory, StoreFault}
use Rattle.library_model.specs.declared.requests.Request.{Request}
use Rattle.library_model.specs.declared.requests.Request.TheVariants.{CreatePhysicalFile, CreateLogicalFile, DeleteFile, AddMember, ClearMember, ReorganizeMember, StartJournaling}
use Rattle.library_model.specs.declared.requests.Request.TheVariants.{EndJournaling, ChangeJournal, DeleteReceiver, Checkpoint, DisplayJournal, ApplyChanges, RemoveChanges, StartCommitment}
use Rattle.library_model.specs.declared.requests.Request.TheVariants.{EndCommitment, Commit, Rollback, OpenFile, CloseFile, SetLowerLimit, SetGreaterThan, Read, ReadPrior, ReadEqual}
use Rattle.library_model.specs.declared.requests.Request.TheVariants.{ReadPriorEqual, Chain, Write, Update, Delete, Unlock, EndJob}
use Rattle.library_model.specs.declared.sources.NamedSource.{NamedSource}
use Rattle.library_steps.specs.State.{Memory}
use Rattle.library_steps.specs.Change.{Change, does}
use Rattle.library_steps.specs.EndJob.{end_change}
use Rattle.library_steps.specs.Step.{change}

-- the reply says that the call was not answered
abbrev pub is_unanswered : Reply → Bool
is_unanswered NoMemory = true
is_unanswered StoreFault = true
is_unanswered _ = false

each : {A : Type 0} (effect : A → Change) (plan : Result A Reply) (c : Change) → does effect plan ≡ Ok c → ((a : A) → is_unanswered (effect a).reply ≡ false) → is_unanswered c.reply ≡ false
each effect (Ok a) c is answers = let same : effect a ≡ c = cc in subst (λ (x : Change). is_unanswered x.reply ≡ false) same (answers a)
each effect (Err reply) c is answers = absurd cc

pub answered : (sources : List NamedSource) (entries : List Entry) (m : Memory) (job timestamp : ℕ) (request : Request) (c : Change) → change sources entries m job timestamp request ≡ Ok c
    → is_unanswered c.reply ≡ false
unfolding change
answered sources entries m job timestamp (CreatePhysicalFile args) c is = each _ _ c is (λ a. refl)
answered sources entries m job timestamp (CreateLogicalFile args) c is = each _ _ c is (λ a. refl)
answered sources entries m job timestamp (DeleteFile args) c is = each _ _ c is (λ a. refl)
answered sources entries m job timestamp (AddMember args) c is = each _ _ c is (λ a. refl)
answered sources entries m job timestamp (ClearMember args) c is = each _ _ c is (λ a. refl)
answered sources entries m job timestamp (ReorganizeMember args) c is = each _ _ c is (λ a. refl)
answered sources entries m job timestamp (StartJournaling args) c is = each _ _ c is (λ a. refl)
answered sources entries m job timestamp (EndJournaling args) c is = each _ _ c is (λ a. refl)
answered sources entries m job timestamp ChangeJournal c is = each _ _ c is (λ a. refl)
answered sources entries m job timestamp (DeleteReceiver args) c is = each _ _ c is (λ a. refl)
answered sources entries m job timestamp Checkpoint c is = each _ _ c is (λ a. refl)
answered sources entries m job timestamp (DisplayJournal args) c is = each _ _ c is (λ a. refl)
answered sources entries m job timestamp (ApplyChanges args) c is = each _ _ c is (λ a. refl)
answered sources entries m job timestamp (RemoveChanges args) c is = each _ _ c is (λ a. refl)
answered sources entries m job timestamp (StartCommitment args) c is = each _ _ c is (λ a. refl)
answered sources entries m job timestamp EndCommitment c is = each _ _ c is (λ a. refl)
answered sources entries m job timestamp Commit c is = each _ _ c is (λ a. refl)
answered sources entries m job timestamp Rollback c is = each _ _ c is (λ a. refl)
answered sources entries m job timestamp (OpenFile args) c is = each _ _ c is (λ a. refl)
answered sources entries m job timestamp (CloseFile args) c is = each _ _ c is (λ a. refl)
answered sources entries m job timestamp (SetLowerLimit args) c is = each _ _ c is (λ a. refl)
answered sources entries m job timestamp (SetGreaterThan args) c is = each _ _ c is (λ a. refl)
answered sources entries m job timestamp (Read args) c is = each _ _ c is (λ a. refl)
answered sources entries m job timestamp (ReadPrior args) c is = each _ _ c is (λ a. refl)
answered sources entries m job timestamp (ReadEqual args) c is = each _ _ c is (λ a. refl)
answered sources entries m job timestamp (ReadPriorEqual args) c is = each _ _ c is (λ a. refl)
answered sources entries m job timestamp (Chain args) c is = each _ _ c is (λ a. refl)
answered sources entries m job timestamp (Write args) c is = each _ _ c is (λ a. refl)
answered sources entries m job timestamp (Update args) c is = each _ _ c is (λ a. refl)
answered sources entries m job timestamp (Delete args) c is = each _ _ c is (λ a. refl)
answered sources entries m job timestamp (Unlock args) c is = each _ _ c is (λ a. refl)
answered sources entries m job timestamp (EndJob args) c is =
    let same : end_change m job timestamp ≡ c = cc in
    subst (λ (x : Change). is_unanswered x.reply ≡ false) same refl

-- so no reply of a change is one of the two
pub never-unanswered : (reply : Reply) → is_unanswered reply ≡ false → (other : Reply) → is_unanswered other ≡ true → other ≡ reply → ⊥
never-unanswered reply answers other unanswered same = absurd (clash (is_unanswered reply) answers (subst (λ (r : Reply). is_unanswered r ≡ true) same unanswered))
  where
    clash : (b : Bool) → b ≡ false → b ≡ true → ⊥
    clash b answers unanswered = cc
