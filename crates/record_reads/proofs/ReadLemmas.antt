-- The read of what an open finds is what the request wants.
use Rattle.std.proofs.Common.{◌≡◌, ℕ, Bool, true, sym, Option, Some, None, Result, Ok, Err, List, refl, ◌∙◌, ap, subst}
use Rattle.lock_table.specs.declared.levels.Call.{Call}
use Rattle.file_model.specs.Joins.{RowPlace}
use Rattle.library_model.specs.declared.replies.RecordRead.{RecordRead}
use Rattle.library_model.specs.declared.requests.LockOption.{LockOption}
use Rattle.library_model.specs.declared.replies.Reply.{Reply}
use Rattle.library_steps.specs.State.{Memory, FileState, OpenState}
use Rattle.library_steps.specs.Change.{Change, does}
use Rattle.library_steps.specs.Refusals.{◌>>=◌, found, OpenedFile, opened_file}
use Rattle.library_steps.specs.Locking.{not_locked, few_locks}
use Rattle.library_steps.specs.Reads.{Found, FoundEntry, at_format, read_call, if_lockable, read_change}
use Rattle.library_parts.below.parts_model.specs.declared.stop.Stop.{Stop}
use Rattle.library_parts.below.parts_model.specs.declared.stop.Stop.TheVariants.{NoMemory, Refused}
use Rattle.library_parts.specs.Answers.{Gives}
use Rattle.record_reads.specs.declared.asked.AskedBy.{AskedBy}
use Rattle.record_reads.specs.declared.plans.UsedOpen.{UsedOpen}
use Rattle.record_reads.specs.declared.plans.PlannedRead.{PlannedRead}
use Rattle.record_reads.specs.declared.plans.FoundRead.{FoundRead}
use Rattle.record_reads.specs.Asked.{CanBeAsked, found_through, nothing_found}
use Rattle.record_reads.specs.Plans.{opened_with, used_of, record_shown, record_planned, planned_change, read_found, FindsAt, IsFoundAt, MayLock, PlansFound, Plans}
use Rattle.record_reads.specs.declared.plans.FoundAt.{FoundAt}

module _ (m : Memory) (job : ℕ) (file : FileState) (opened : OpenState) (lock : LockOption) where
  abbrev pub through_open : OpenedFile
  through_open = opened_with opened file

  -- the open at the format of what was found
  abbrev pub at_found : Found → OpenedFile
  at_found it = opened_with (at_format it.entry.format opened) file

  -- it is read at its format as it is planned
  read-planned : (it : Found)
      → does (read_change m job) (if_lockable job m through_open lock it) ≡ does (λ plan. planned_change m job plan it) (record_planned m job (at_found it) lock it.entry.rrn it.row)
  read-planned it =
      by (not_locked (read_call lock (at_format it.entry.format opened)) job (at_format it.entry.format opened) it.entry.rrn m)
      (few_locks (read_call lock (at_format it.entry.format opened)) job (at_format it.entry.format opened) it.entry.rrn m)
    where
      entry : FoundEntry
      entry = record { file = file; opened = at_format it.entry.format opened; call = read_call lock (at_format it.entry.format opened); found = it }

      plan : PlannedRead
      plan = record {
        used = used_of job (at_format it.entry.format opened) m;
        call = read_call lock (at_format it.entry.format opened);
        rrn = it.entry.rrn;
        shown = record_shown m file (at_format it.entry.format opened) it.entry.rrn it.row;
      }

      by : (unlocked few : Result Bool Reply)
          → does (read_change m job) (unlocked >>= λ _. (few >>= λ _. Ok entry)) ≡ does (λ plan. planned_change m job plan it) (unlocked >>= λ _. (few >>= λ _. Ok plan))
      by (Err reply) few = refl
      by (Ok _) (Err reply) = refl
      by (Ok _) (Ok _) = refl

  module _ (asks : AskedBy) where
    abbrev pub its_read : Result Change Reply
    its_read = read_found m job through_open lock asks

    found-is : (item : Option Found) → found_through asks file opened m ≡ item
        → its_read ≡ does (read_change m job) (found item (nothing_found asks) >>= λ it. if_lockable job m through_open lock it)
    found-is item is = ap (λ (e : Option Found). does (read_change m job) (found e (nothing_found asks) >>= λ it. if_lockable job m through_open lock it)) is

    -- nothing was found, or memory was short
    pub nothing-read : (stop : Stop) → FindsAt m through_open asks (Err stop) → PlansFound m job through_open its_read (Err stop)
    nothing-read NoMemory finds = tt
    nothing-read (Refused reply) finds = found-is None finds.0 ∙ ap (λ (r : Reply). Err r) finds.1

    module _ (asked : CanBeAsked asks file opened m) (at : FoundAt) (its : IsFoundAt m through_open asks at) where
      planned : its_read ≡ does (λ plan. planned_change m job plan its.it) (record_planned m job (opened_with (at_format at.format opened) file) lock at.rrn its.it.row)
      planned =
          found-is (Some its.it) its.finds ∙ read-planned its.it
          ∙ (λ i. does (λ plan. planned_change m job plan its.it) (record_planned m job (opened_with (at_format (its.format i) opened) file) lock (its.rrn i) its.it.row))

      pub found-read : (plan : PlannedRead) → record_planned m job (opened_with (at_format at.format opened) file) lock at.rrn its.it.row ≡ Ok plan → MayLock m job plan
          → plan.used ≡ used_of job (at_format at.format opened) m → PlansFound m job through_open its_read (Ok (record { by = asks; read = plan; row = at.row }))
      found-read plan gives may through = record {
        asked = asked;
        it = its.it;
        finds = its.finds;
        row = its.row;
        change = planned ∙ ap (λ (r : Result PlannedRead Reply). does (λ plan. planned_change m job plan its.it) r) gives;
        number = ap (λ (used : UsedOpen). used.number) through;
        lock = may;
      }

      pub found-stopped : (stop : Stop) → Gives {A = PlannedRead} (Err stop) (record_planned m job (opened_with (at_format at.format opened) file) lock at.rrn its.it.row)
          → PlansFound m job through_open its_read (Err stop)
      found-stopped NoMemory gives = tt
      found-stopped (Refused reply) gives = planned ∙ ap (λ (r : Result PlannedRead Reply). does (λ plan. planned_change m job plan its.it) r) gives

-- the plan of a record that the locks allow to be read
pub record-planned : (m : Memory) (job : ℕ) (file : FileState) (opened : OpenState) (lock : LockOption) (rrn : ℕ) (row : Option RowPlace) (call : Call) → call ≡ read_call lock opened
    → not_locked call job opened rrn m ≡ Ok true → few_locks call job opened rrn m ≡ Ok true → (used : UsedOpen) → used ≡ used_of job opened m
    → (shown : RecordRead) → shown ≡ record_shown m file opened rrn row
    → (let plan : PlannedRead = record { used = used; call = call; rrn = rrn; shown = shown } in record_planned m job (opened_with opened file) lock rrn row ≡ Ok plan)
record-planned m job file opened lock rrn row call is unlocked few used through shown shows =
    (λ i. by (sym is i) (not_locked (sym is i) job opened rrn m) (few_locks (sym is i) job opened rrn m))
    ∙ (λ i. by call (unlocked i) (few i))
    ∙ (λ i. Ok (record { used = sym through i; call = call; rrn = rrn; shown = sym shows i }))
  where
    by : Call → Result Bool Reply → Result Bool Reply → Result PlannedRead Reply
    by calling free some = free >>= λ _. (some >>= λ _. Ok (record { used = used_of job opened m; call = calling; rrn = rrn; shown = record_shown m file opened rrn row }))

same-ok : {A B : Type 0} (r : Result A B) (a b : A) → r ≡ Ok a → r ≡ Ok b → a ≡ b
same-ok r a b first second = let same : a ≡ b = cc in same

same-some : {A : Type 0} (o : Option A) (a b : A) → o ≡ Some a → o ≡ Some b → a ≡ b
same-some o a b first second = let same : a ≡ b = cc in same

-- what is planned through the open of a name is planned for the request
pub requested : (m : Memory) (job : ℕ) (name : List ℕ) (its : OpenedFile) (wanted made : Result Change Reply) (result : Result FoundRead Stop)
    → opened_file name job m ≡ Ok its → wanted ≡ made → PlansFound m job its made result → Plans m job name wanted result
requested m job name its wanted made (Ok plan) there same plans = record {
  can = record {
    its = its;
    opened = there;
    asked = plans.asked;
    it = plans.it;
    finds = plans.finds;
    row = plans.row;
    number = plans.number;
    lock = plans.lock;
  };
  leads = λ other it opened finds.
      let is : other ≡ its = same-ok (opened_file name job m) other its opened there in
      let here : found_through plan.by its.file its.opened m ≡ Some it = subst (λ (o : OpenedFile). found_through plan.by o.file o.opened m ≡ Some it) is finds in
      same ∙ plans.change
      ∙ ap (λ (e : Found). Ok (planned_change m job plan.read e)) (same-some (found_through plan.by its.file its.opened m) plans.it it plans.finds here);
}
requested m job name its wanted made (Err NoMemory) there same plans = tt
requested m job name its wanted made (Err (Refused reply)) there same plans = same ∙ plans
