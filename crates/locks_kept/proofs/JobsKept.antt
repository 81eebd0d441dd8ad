-- What holds of a job alone stays so: that it is idle once it has ended, and that its opens are apart and under commitment control where it is.
use Rattle.std.proofs.Common.{◌≡◌, ◌≢◌, ℕ, ◌+◌, ◌-◌, ◌≤◌, ◌||◌, ◌==◌, not, Bool, true, false, if◌then◌else◌, map, List, [], ◌∷◌, Some, None, is_some, slice_get, refl, sym, ◌∙◌, ap, subst, arith}
use Rattle.std.specs.List.{AllByRecursion, list_any}
use Rattle.std.proofs.lemmas.Cmp.{nat_list_eq_equiv}
use Rattle.member_slots.specs.declared.slot.Slot.{Slot}
use Rattle.member_slots.specs.declared.slot.Slot.TheVariants.{Live, Deleted}
use Rattle.lock_table.specs.declared.levels.Call.{Call}
use Rattle.lock_table.specs.declared.levels.Call.TheVariants.{Update, Delete}
use Rattle.library_model.specs.Named.{Named, same_name}
use Rattle.library_model.specs.declared.requests.OpenFile.{OpenFile}
use Rattle.library_steps.specs.State.{State, Memory, OpenState, CycleState, JobState, job_of, memory_of, with_opens}
use Rattle.library_steps.specs.Change.{Change}
use Rattle.library_steps.specs.Opens.{with_open, without_open, new_open}
use Rattle.library_steps.specs.Reads.{at_format, open_changed}
use Rattle.library_steps.specs.ChangeRecord.{is_current, without_record, without_current}
use Rattle.library_steps.specs.Commitment.{with_level, without_cycle, committed_open, rolled_back_open}
use Rattle.library_steps.specs.EndJob.{ended_job}
use Rattle.joint_state.specs.Opens.{IsBefore, AreToldApart, HasOpens}
use Rattle.joint_state.specs.Cycles.{IsUnderControl}
use Rattle.joint_state.specs.Joint.{IsIdle}
use Rattle.joint_state.specs.Sound.{Does, after}
use Rattle.locks_kept.proofs.AllEffects.{effect-of}
use Rattle.locks_kept.proofs.Effects.{IsAlike, IsSameOpen, alike, IsChange, changing, unread, Effect, Around, Opening, Closing, Use, Writing, Updating, Deleting, Start, End, Committing, RollingBack, EndingJob}
use Rattle.locks_kept.proofs.JobLemmas.{Runs, running-Runs, each-job}
use Rattle.locks_kept.proofs.OpenLemmas.{named-holds, unnamed-differ, apart-map, apart-filter, apart-append}
use Rattle.locks_kept.proofs.ListLemmas.{all-append, all-both, all-filter, all-map, all-weaker}

-- what holds of a job, whatever locks and records there are
pub record StandsAlone (job : JobState) : Type 0 where
  pub idle : IsIdle job
  pub control : IsUnderControl job
  pub opens : HasOpens job

goes-on : (job : JobState) → job.ended ≡ false → IsIdle job
goes-on job running = record { opens = λ e. absurd cc; level = λ e. absurd cc }

-- ---- the same opens, but for where they stand and what they have read

pub same-if : (test : Bool) (change : OpenState → OpenState) (o : OpenState) → IsSameOpen (change o) o → IsSameOpen (if test then change o else o) o
same-if true change o same = same
same-if false change o same = record { number = refl; member = refl; commit = refl }

pub alike-if : (test : Bool) (change : OpenState → OpenState) (o : OpenState) → IsAlike (change o) o → IsAlike (if test then change o else o) o
alike-if true change o same = same
alike-if false change o same = record { number = refl; commit = refl }

pub same-unread : (number : ℕ) (o : OpenState) → IsSameOpen (unread number o) o
same-unread number o = same-if (o.number == number) without_current o (record { number = refl; member = refl; commit = refl })

pub same-without_record : (member rrn : ℕ) (o : OpenState) → IsSameOpen (without_record member rrn o) o
same-without_record member rrn o = same-if (is_current member rrn o) without_current o (record { number = refl; member = refl; commit = refl })

pub same-committed : (o : OpenState) → IsSameOpen (committed_open o) o
same-committed o = elim o.commit as (λ b. IsSameOpen (if b then record o { current = None; last_read = None; boundary = o.position } else o) o) [
  | true ↦ record { number = refl; member = refl; commit = refl }
  | false ↦ record { number = refl; member = refl; commit = refl }
]

pub same-rolled_back : (o : OpenState) → IsSameOpen (rolled_back_open o) o
same-rolled_back o = elim o.commit as (λ b. IsSameOpen (if b then record o { position = o.boundary; current = None; last_read = None } else record o { current = None; last_read = None }) o) [
  | true ↦ record { number = refl; member = refl; commit = refl }
  | false ↦ record { number = refl; member = refl; commit = refl }
]

-- a job that goes on at its level, with such opens
pub record Goes (old new : JobState) (change : OpenState → OpenState) : Type 0 where
  pub ended : new.ended ≡ old.ended
  pub level : new.level ≡ old.level
  pub cycle : old.level ≡ None → old.cycle ≡ None → new.cycle ≡ None
  pub opens : new.opens ≡ map (λ entry. (entry.0, change entry.1)) old.opens
  pub opened : new.opened ≡ old.opened
  pub same : (o : OpenState) → IsAlike (change o) o

alone-same : (old new : JobState) (change : OpenState → OpenState) → Goes old new change → old.ended ≡ false → StandsAlone old → StandsAlone new
alone-same old new change goes running alone = record {
  idle = goes-on new (goes.ended ∙ running);
  control = record {
    cycle = λ none. (let before : old.level ≡ None = sym goes.level ∙ none in goes.cycle before (alone.control.cycle before));
    opens = λ none. subst (AllByRecursion (λ e. e.1.commit ≡ false)) (sym goes.opens)
        (all-map (λ (e : List ℕ × OpenState). e.1.commit ≡ false) (λ e. e.1.commit ≡ false) (λ e. (e.0, change e.1)) old.opens (λ e not_in. (goes.same e.1).commit ∙ not_in)
        (alone.control.opens (sym goes.level ∙ none)));
  };
  opens = record {
    apart = subst AreToldApart (sym goes.opens) (apart-map change (λ o. (goes.same o).number) old.opens alone.opens.apart);
    counted = subst (AllByRecursion (λ e. e.1.number ≤ new.opened)) (sym goes.opens)
        (all-map (λ (e : List ℕ × OpenState). e.1.number ≤ old.opened) (λ e. e.1.number ≤ new.opened) (λ e. (e.0, change e.1)) old.opens
        (λ e few. (let number : (change e.1).number ≡ e.1.number = (goes.same e.1).number in let opened = goes.opened in omega (arith, few, number, opened))) alone.opens.counted);
  };
}

-- ---- each kind of request

opening-alone : (name : List ℕ) (args : OpenFile) (members : List ℕ) (job : JobState) → job.ended ≡ false → AllByRecursion (λ e. same_name args.open_id e.0 ≡ false) job.opens
    → (args.commit ≡ true → is_some job.level ≡ true) → StandsAlone job → StandsAlone (with_open args members job)
opening-alone name args members job running fresh control alone = record {
  idle = goes-on (with_open args members job) running;
  control = record {
    cycle = alone.control.cycle;
    opens = λ none. all-append (λ (e : List ℕ × OpenState). e.1.commit ≡ false) job.opens ((args.open_id, new_open args (job.opened + 1) members) ∷ []) (alone.control.opens none)
        (outside none args.commit control, tt);
  };
  opens = record {
    apart = apart-append job.opens (args.open_id, new_open args (job.opened + 1) members) alone.opens.apart
        (all-both (λ (e : List ℕ × OpenState). same_name args.open_id e.0 ≡ false) (λ e. e.1.number ≤ job.opened) (λ e. IsBefore e (args.open_id, new_open args (job.opened + 1) members)) job.opens
        (λ e differ few. record { names = nat_list_eq_equiv.symm e.0 args.open_id ∙ differ; numbers = omega (arith, few) }) fresh alone.opens.counted);
    counted = all-append (λ (e : List ℕ × OpenState). e.1.number ≤ job.opened + 1) job.opens ((args.open_id, new_open args (job.opened + 1) members) ∷ [])
        (all-weaker (λ (e : List ℕ × OpenState). e.1.number ≤ job.opened) (λ e. e.1.number ≤ job.opened + 1) job.opens (λ e few. omega (arith, few)) alone.opens.counted) (omega arith, tt);
  };
}
  where
    outside : job.level ≡ None → (commit : Bool) → (commit ≡ true → is_some job.level ≡ true) → commit ≡ false
    outside none true may = absurd (let started : is_some job.level ≡ true = may refl in let absent : is_some job.level ≡ false = ap is_some none in cc)
    outside none false may = refl

closing-alone : (name : List ℕ) (job : JobState) → job.ended ≡ false → StandsAlone job → StandsAlone (without_open name job)
closing-alone name job running alone = record {
  idle = goes-on (without_open name job) running;
  control = record {
    cycle = alone.control.cycle;
    opens = λ none. all-filter (λ (e : List ℕ × OpenState). e.1.commit ≡ false) (λ e. e.1.commit ≡ false) (λ e. not (same_name name e.0)) job.opens (λ e left outside. outside)
        (alone.control.opens none);
  };
  opens = record {
    apart = apart-filter (λ e. not (same_name name e.0)) job.opens alone.opens.apart;
    counted = all-filter (λ (e : List ℕ × OpenState). e.1.number ≤ job.opened) (λ e. e.1.number ≤ job.opened) (λ e. not (same_name name e.0)) job.opens (λ e left few. few) alone.opens.counted;
  };
}

-- a change of a record, in the job's commit cycle where the open is under commitment control
pub changing-goes : (commit : Bool) (cycle : CycleState) (change : OpenState → OpenState) (job : JobState) → (job.level ≡ None → commit ≡ false) → ((o : OpenState) → IsSameOpen (change o) o)
    → Goes job (changing commit cycle change job) change
changing-goes true cycle change job outside same =
    record { ended = refl; level = refl; cycle = λ none was. absurd (let out : true ≡ false = outside none in cc); opens = refl; opened = refl; same = λ o. alike (change o) o (same o) }
changing-goes false cycle change job outside same =
    record { ended = refl; level = refl; cycle = λ none was. was; opens = refl; opened = refl; same = λ o. alike (change o) o (same o) }

pub none-committed : (opens : Named OpenState) → list_any (λ e. e.1.commit) opens ≡ false → AllByRecursion (λ e. e.1.commit ≡ false) opens
none-committed [] none = tt
none-committed (entry ∷ opens) none =
    elim entry.1.commit as (λ b. entry.1.commit ≡ b → (b || list_any (λ (e : List ℕ × OpenState). e.1.commit) opens) ≡ false → AllByRecursion (λ e. e.1.commit ≡ false) (entry ∷ opens)) [
      | true ↦ λ e h. absurd cc
      | false ↦ λ e h. (e, none-committed opens h)
    ] refl none

-- ---- all of them

module _ (m new : Memory) (job : ℕ) (runs : Runs m.jobs job (job_of job m)) (all : (place : ℕ) (j : JobState) → slice_get m.jobs place ≡ Some j → StandsAlone j) where
  its : StandsAlone (job_of job m)
  its = all (job - 1) (job_of job m) runs.at

  others : (place : ℕ) (j : JobState) → slice_get m.jobs place ≡ Some j → place + 1 ≢ job → StandsAlone j
  others place j at differ = all place j at

  change-alone : (opened : OpenState) (member : ℕ) (call : Call) (rrn : ℕ) (slot : Slot) (change : OpenState → OpenState) → IsChange m job new opened member call rrn slot change
      → ((o : OpenState) → IsSameOpen (change o) o) → (place : ℕ) (j : JobState) → slice_get new.jobs place ≡ Some j → StandsAlone j
  change-alone opened member call rrn slot change is same =
      each-job m new job (changing opened.commit is.cycle change) is.jobs runs (λ n j. StandsAlone j)
      (alone-same (job_of job m) (changing opened.commit is.cycle change (job_of job m)) change
      (changing-goes opened.commit is.cycle change (job_of job m) (λ none. named-holds (λ (o : OpenState). o.commit ≡ false) is.name (job_of job m).opens opened is.named
      (its.control.opens none)) same)
      runs.goes_on its) others

  pub alone-kept : Effect m job new → (place : ℕ) (j : JobState) → slice_get new.jobs place ≡ Some j → StandsAlone j
  alone-kept (Around is) = λ place j at. all place j (ap (λ js. slice_get js place) (sym is.jobs) ∙ at)
  alone-kept (Opening is) =
      each-job m new job (with_open is.args is.over) is.jobs runs (λ n j. StandsAlone j)
      (opening-alone is.args.open_id is.args is.over (job_of job m) runs.goes_on (unnamed-differ is.args.open_id (job_of job m).opens is.fresh) is.control its) others
  alone-kept (Closing is) = each-job m new job (without_open is.name) is.jobs runs (λ n j. StandsAlone j) (closing-alone is.name (job_of job m) runs.goes_on its) others
  alone-kept (Use is) =
      each-job m new job (open_changed is.opened.number is.change) is.jobs runs (λ n j. StandsAlone j)
      (alone-same (job_of job m) _ (λ o. if o.number == is.opened.number then is.change o else o) (record {
        ended = refl;
        level = refl;
        cycle = λ none was. was;
        opens = refl;
        opened = refl;
        same = λ o. alike-if (o.number == is.opened.number) is.change o (is.same o);
      }) runs.goes_on its) others
  alone-kept (Writing is) =
      change-alone is.opened (at_format is.format is.opened).member is.call is.rrn (Live is.image) (λ o. o) is.change (λ o. record { number = refl; member = refl; commit = refl })
  alone-kept (Updating is) = change-alone is.opened is.opened.member Update is.rrn (Live is.image) (unread is.opened.number) is.change (same-unread is.opened.number)
  alone-kept (Deleting is) = change-alone is.opened is.opened.member Delete is.rrn Deleted (without_record is.opened.member is.rrn) is.change (same-without_record is.opened.member is.rrn)
  alone-kept (Start is) =
      each-job m new job (with_level (Some is.level)) is.jobs runs (λ n j. StandsAlone j)
      (record {
        idle = goes-on _ runs.goes_on;
        control = record { cycle = λ none. absurd cc; opens = λ none. absurd cc };
        opens = record { apart = its.opens.apart; counted = its.opens.counted };
      }) others
  alone-kept (End is) =
      each-job m new job (with_level None) is.jobs runs (λ n j. StandsAlone j)
      (record {
        idle = goes-on _ runs.goes_on;
        control = record {
          cycle = λ none. is.cycle;
          opens = λ none. none-committed (job_of job m).opens is.opens;
        };
        opens = record { apart = its.opens.apart; counted = its.opens.counted };
      }) others
  alone-kept (Committing is) =
      each-job m new job (λ j. with_opens committed_open (without_cycle j)) is.jobs runs (λ n j. StandsAlone j)
      (alone-same (job_of job m) _ committed_open
      (record { ended = refl; level = refl; cycle = λ none was. refl; opens = refl; opened = refl; same = λ o. alike _ o (same-committed o) }) runs.goes_on its) others
  alone-kept (RollingBack is) =
      each-job m new job (λ j. with_opens rolled_back_open (without_cycle j)) is.jobs runs (λ n j. StandsAlone j)
      (alone-same (job_of job m) _ rolled_back_open
      (record { ended = refl; level = refl; cycle = λ none was. refl; opens = refl; opened = refl; same = λ o. alike _ o (same-rolled_back o) }) runs.goes_on its) others
  alone-kept (EndingJob is) =
      each-job m new job ended_job is.jobs runs (λ n j. StandsAlone j)
      (record { idle = record { opens = λ e. refl; level = λ e. refl }; control = record { cycle = λ none. refl; opens = λ none. tt }; opens = record { apart = tt; counted = tt } }) others

pub jobs-kept : (s : State) (done : Change) → Does s done → (place : ℕ) (j : JobState) → slice_get (after s done).jobs place ≡ Some j → StandsAlone j
jobs-kept s done does =
    alone-kept (memory_of s) done.memory does.job (running-Runs s.jobs does.job does.running)
    (λ place j at. (let stands = does.sound.joint.jobs place j at in record { idle = stands.idle; control = stands.control; opens = stands.opens })) (effect-of s done does)
