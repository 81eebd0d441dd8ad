-- What a library that was opened, and a session that ran over it, come to together.
use Rattle.std.proofs.Common.{◌≡◌, ◌∙◌, ◌++◌, ℕ, inl, inr, true, false, IsTrue, List, [], length, refl, sym, ap, subst, arith}
use Rattle.std.specs.List.{list_all}
use Rattle.std.proofs.lemmas.List.{take_all}
use Rattle.store_model.specs.Disk.{Disk, Leaves}
use Rattle.store_model.specs.Faults.{Rose}
use Rattle.journal_opening.specs.declared.fault.OpenFault.{OpenFault}
use Rattle.journal_opening.specs.declared.fault.OpenFault.TheVariants as fault
use Rattle.library_model.specs.declared.calls.Call.{Call}
use Rattle.library_steps.specs.State.{State, begun}
use Rattle.library_steps.specs.History.{Outcome, Standing, Failed}
use Rattle.joint_state.specs.Sound.{IsSound}
use Rattle.front_laws.specs.Replayed.{IsReplayed}
use Rattle.front_laws.specs.Unsaved.{AsksNoCheckpoint}
use Rattle.front_laws.specs.Opens.{FrontsCanBeOpened}
use Rattle.opened_library.specs.Parts.{LibraryOver}
use Rattle.opened_library.specs.Stands.{IsAt}
use Rattle.input_scripts.specs.Askable.{is_askable_script}
use Rattle.input_scripts.specs.declared.Schedule.{Schedule}
use Rattle.input_scripts.specs.declared.Schedule.TheVariants.{Jobs, RoundRobin}
use Rattle.input_scripts.specs.declared.Scripts.{Scripts}
use Rattle.job_runner.specs.Asked.{AreAsked}
use Rattle.job_runner.specs.Made.{AreGiven}
use Rattle.job_runner.specs.Moments.{HasRun as HasRunOver, StandsForced}
use Rattle.job_runner.specs.Places.{BeginsJobs}
use Rattle.job_runner.specs.Session.{SessionOver, HasMade}
use Rattle.job_runner.specs.Turns.{AreInTurn}
use Rattle.job_runner.proofs.StartLemmas.{HasRun-made, StandsForced-begun}
use Rattle.opened_library.specs.Opened.{IsNotOpened, IsOpenedLibrary}
use Rattle.restart_model.specs.Libraries.{restart_job}
use Rattle.restart_model.specs.Sources.{descriptions}
use Rattle.opened_library.specs.Restarts.{MayRestart}
use Rattle.ibmi_batch.specs.declared.status.Status.{Status}
use Rattle.ibmi_batch.specs.declared.status.Status.TheVariants.{StoreFault}
use Rattle.ibmi_batch.specs.Opening.{status_of}
use Rattle.ibmi_batch.specs.Outcome.{HasRun, IsCutShort, IsStanding, RunOver, Writing}
use Rattle.ibmi_batch.specs.Parts.{IsUnopened, RunsJobs, SessionRan}
use Rattle.ibmi_batch.specs.Storing.{IsKeptRun}
use Rattle.ibmi_batch.proofs.FrontLemmas.{no-checkpoint, run-acknowledged, run-answered, run-moments}
use Rattle.ibmi_batch.specs.Words.{are_serial_words}

-- ---- a store that was not opened

pub unopened : (why : OpenFault) (tells : Type 0) (old new : Disk) → IsNotOpened why tells old new → IsUnopened (status_of why) (record { tells = tells; old = old; new = new })
unopened fault.NotALibrary tells old new is = is
unopened (fault.Damaged area at) tells old new is = is
unopened fault.StoreFault tells old new is = is
unopened fault.NoMemory tells old new is = is

-- ---- what a session came to

-- no calls are in turn by any schedule
pub in-turn-none : (jobs : ℕ) (schedule : Schedule) (before : List Call) → AreInTurn jobs schedule before []
in-turn-none jobs (Jobs turns) before = tt
in-turn-none jobs RoundRobin before = tt

-- an outcome of a library that hasn't failed stands
pub stands-alive : {S : Type 0} (tells : Type 0) (disk : S → Disk) (library : LibraryOver S) (outcome : Outcome) → IsAt tells disk library outcome → library.failed ≡ false
    → IsStanding outcome
stands-alive tells disk library (Standing s) at alive = (s, refl)
stands-alive tells disk library (Failed entries) at alive = absurd cc

-- that of one that has failed doesn't
pub cut-failed : {S : Type 0} (tells : Type 0) (disk : S → Disk) (library : LibraryOver S) (outcome : Outcome) → IsAt tells disk library outcome → library.failed ≡ true
    → IsCutShort outcome
cut-failed tells disk library (Standing s) at failed = absurd (let alive = at.alive in cc)
cut-failed tells disk library (Failed entries) at failed = (entries, refl)

-- where it fails behind them the store's count of faults rose
pub session-rose : {S C : Type 0} (tells : Type 0) (disk : S → Disk) (gives : C → ℕ → C → Type 0) (first later : SessionOver S C) (made : List Call)
    → HasMade tells disk gives first later made → first.library.failed ≡ false → later.library.failed ≡ true → Rose (disk first.library.store).faults (disk later.library.store).faults
session-rose tells disk gives first later made has alive failed = elim (has.cause failed) [
  | inl before ↦ absurd cc
  | inr rose ↦ rose
]

module _ {S C : Type 0} (tells : Type 0) (disk : S → Disk) (gives : C → ℕ → C → Type 0) (words : List (List ℕ)) (first later : SessionOver S C) (made : List Call) (from : State)
    (none : first.calls ≡ []) (forced : StandsForced tells disk first.library from) (has : HasMade tells disk gives first later made)
    (order : are_serial_words words ≡ true → AreInTurn (length first.scripts.scripts) first.scripts.schedule first.calls made) where
  all : later.calls ≡ made
  all = has.calls ∙ ap (λ (calls : List Call). calls ++ made) none

  led : HasRunOver tells disk first.scripts.sources first.library later.library from made
  led = HasRun-made tells disk gives first later from made forced has

  pub session-outcome : Outcome
  session-outcome = led.outcome

  pub session-at : IsAt tells disk later.library session-outcome
  unfolding session-outcome led
  session-at = led.at

  -- with what was written
  pub session-ran : (status : Status) (writing : Writing) → HasRun status later.scripts later.calls session-outcome writing
      → SessionRan tells (disk first.library.store) (disk later.library.store) status words first.scripts from (AreGiven gives first.clock later.clock) writing
  unfolding session-outcome led
  session-ran status writing ran = record {
    calls = made;
    outcome = led.outcome;
    reading = led.reading;
    legal = led.runs;
    asked = subst (λ (calls : List Call). AreAsked first.scripts.scripts calls made) none has.asked;
    order = λ serial. subst (λ (calls : List Call). AreInTurn (length first.scripts.scripts) first.scripts.schedule calls made) none (order serial);
    timestamps = has.given;
    moments = led.moments;
    acknowledged = led.now;
    answered = led.answered;
    roots = led.roots;
    ran = subst (λ (scripts : Scripts). HasRun status scripts made session-outcome writing) has.scripts
        (subst (λ (calls : List Call). HasRun status later.scripts calls session-outcome writing) all ran);
  }

-- ---- over a library that was opened

module _ {S : Type 0} (tells : Type 0) (disk : S → Disk) (old : Disk) (library : LibraryOver S) (opened : IsOpenedLibrary tells disk old (disk library.store) library) where
  pub opened-forced : StandsForced tells disk library opened.s
  opened-forced = record {
    stands = opened.stands;
    all = opened.all;
    receiver = opened.receiver;
    left = λ told. record {
      few = omega (arith, opened.all);
      spells = λ areas may.
          rw (opened.receiver, opened.all, take_all (length opened.s.entries) opened.s.entries (omega arith)) (opened.left told areas may);
    };
  }

  module _ (begun-library : LibraryOver S) (scripts : Scripts) (begins : BeginsJobs tells disk library begun-library scripts.names) (last : Disk) where
    -- each front of its calls can be opened again, from a start which is sound and which its journal leaves
    module _ (askable : IsTrue (list_all is_askable_script scripts.scripts)) (law : FrontsCanBeOpened) (sound : IsSound (begun opened.s scripts.names))
        (replayed : IsReplayed (begun opened.s scripts.names)) where
      kept-run : (status : Status) (words : List (List ℕ)) (given : List Call → Type 0) (writing : Writing)
          → (ran : SessionRan tells (disk library.store) last status words scripts (begun opened.s scripts.names) given writing)
          → IsKeptRun (record { tells = tells; old = old; new = last }) opened.before scripts.sources (begun opened.s scripts.names) ran.calls ran.outcome
      kept-run status words given writing ran = record {
        moments = λ told.
            run-moments law scripts.sources (begun opened.s scripts.names) sound replayed (disk library.store) last opened.s.entries (opened.durable told) ran.roots tells old
            opened.before (restarted told) ran.calls ran.outcome unsaved (ran.legal told) (ran.moments told);
        acknowledged = λ told.
            run-acknowledged law scripts.sources (begun opened.s scripts.names) sound replayed (disk library.store) last opened.s.entries (opened.durable told) ran.roots tells old
            opened.before (restarted told) ran.calls ran.outcome unsaved (ran.legal told) (ran.acknowledged told);
        answered = λ told number few.
            run-answered law scripts.sources (begun opened.s scripts.names) sound replayed (disk library.store) last opened.s.entries (opened.durable told) ran.roots tells old
            opened.before (restarted told) ran.calls ran.outcome unsaved (ran.legal told) number (ran.answered told number few);
      }
        where
          restarted : tells → Leaves old (disk library.store) (MayRestart descriptions old restart_job 0 opened.before)
          restarted told = opened.restart told opened.before (opened.from.spelled told)

          unsaved : AsksNoCheckpoint ran.calls
          unsaved = no-checkpoint scripts askable ran.calls ran.asked

      pub over-run : (status : Status) (words : List (List ℕ)) (given : List Call → Type 0) (writing : Writing)
          → SessionRan tells (disk begun-library.store) last status words scripts (begun opened.s scripts.names) given writing
          → RunOver status words scripts given writing (record { tells = tells; old = old; new = last })
      over-run status words given writing says =
          let ran : SessionRan tells (disk library.store) last status words scripts (begun opened.s scripts.names) given writing =
          subst (λ (store : S). SessionRan tells (disk store) last status words scripts (begun opened.s scripts.names) given writing) begins.store says in
          record {
            before = opened.before;
            start = opened.s;
            starts = opened.from;
            calls = ran.calls;
            outcome = ran.outcome;
            run = record { reading = ran.reading; legal = ran.legal; asked = ran.asked; order = ran.order };
            timestamps = ran.timestamps;
            kept = kept-run status words given writing ran;
            ran = ran.ran;
          }

    pub rose-run : Rose (disk begun-library.store).faults last.faults → Rose old.faults last.faults
    rose-run rose = let same = ap (λ (store : S). (disk store).faults) begins.store in let upto = opened.faults in omega (arith, rose, same, upto)

    -- with its jobs begun the library is sound as it was
    begun-sound : IsSound (begun opened.s scripts.names)
    begun-sound = (begins.stands opened.s opened.stands).remembered.sound

    -- a session over it, which began with these jobs, has run
    pub runs-over : {C : Type 0} (gives : C → ℕ → C → Type 0) (session : SessionOver S C) (clock later : C) (status : Status) (words : List (List ℕ)) (writing : Writing)
        → IsTrue (list_all is_askable_script scripts.scripts) → FrontsCanBeOpened → IsReplayed (begun opened.s scripts.names)
        → session.library ≡ begun-library → session.scripts ≡ scripts → session.clock ≡ clock
        → ((from : State) → StandsForced tells disk session.library from
        → SessionRan tells (disk session.library.store) last status words session.scripts from (AreGiven gives session.clock later) writing)
        → (status ≡ StoreFault → session.library.failed ≡ false → Rose (disk session.library.store).faults last.faults)
        → RunsJobs status words scripts (AreGiven gives clock later) writing (record { tells = tells; old = old; new = last })
    runs-over {C = C} gives session clock later status words writing askable law replayed over says at ran cause =
        let forced = StandsForced-begun tells disk library begun-library scripts.names opened.s opened-forced begins in
        let done = ran (begun opened.s scripts.names) (subst (λ (it : LibraryOver S). StandsForced tells disk it (begun opened.s scripts.names)) (sym over) forced) in
        inl (
          over-run askable law begun-sound replayed status words (AreGiven gives clock later) writing
              (subst (λ (it : LibraryOver S). SessionRan tells (disk it.store) last status words scripts (begun opened.s scripts.names) (AreGiven gives clock later) writing) over
              (subst (λ (it : Scripts). SessionRan tells (disk session.library.store) last status words it (begun opened.s scripts.names) (AreGiven gives clock later) writing) says
              (subst (λ (it : C). SessionRan tells (disk session.library.store) last status words session.scripts (begun opened.s scripts.names) (AreGiven gives it later) writing) at done))),
          λ fault.
              rose-run (subst (λ (it : LibraryOver S). Rose (disk it.store).faults last.faults) over
              (cause fault (ap (λ (it : LibraryOver S). it.failed) over ∙ begins.failed ∙ opened.stands.alive))),
        )
