-- What a stop leaves of a session's calls can be opened again: its roots stand as they were left by opening, and what its receivers spell can be replayed.
use Rattle.std.proofs.Common.{◌≡◌, inl, inr, ℕ, zero, suc, ◌<◌, true, false, IsTrue, List, [], ◌∷◌, take, refl, sym, subst, arith}
use Rattle.std.specs.List.{list_all}
use Rattle.store_model.specs.Disk.{Areas, Disk, Leaves, May}
use Rattle.store_model.proofs.Runs.{leaves_less, leaves_then}
use Rattle.entry_codec.specs.declared.entries.Entry.{Entry}
use Rattle.checkpoint.specs.declared.layout.TheConstants.{ROOT_AREA}
use Rattle.checkpoint.specs.Roots.{AreRoots, first_root}
use Rattle.receiver_chain.specs.declared.numbers.TheConstants.{FIRST_RECEIVER}
use Rattle.receiver_chain.specs.Others.{LeavesRoots}
use Rattle.receiver_chain.specs.Receivers.{area_of}
use Rattle.journal_opening.specs.Journals.{SpellJournal}
use Rattle.built_requests.specs.Built.{is_built}
use Rattle.library_model.specs.declared.calls.Call.{Call}
use Rattle.library_model.specs.declared.requests.Request.{Request}
use Rattle.library_model.specs.declared.requests.Request.TheVariants.{Checkpoint}
use Rattle.library_model.specs.declared.sources.NamedSource.{NamedSource}
use Rattle.library_steps.specs.State.{State}
use Rattle.library_steps.specs.History.{Outcome, Standing, Runs}
use Rattle.joint_state.specs.Sound.{IsSound}
use Rattle.front_laws.specs.Replayed.{IsReplayed}
use Rattle.front_laws.specs.Unsaved.{AsksNoCheckpoint, saves}
use Rattle.front_laws.specs.Opens.{FrontsCanBeOpened}
use Rattle.front_laws.specs.Fronts.{IsAnswered, IsFront}
use Rattle.input_scripts.specs.Askable.{is_askable_script}
use Rattle.input_scripts.specs.declared.Scripts.{Scripts}
use Rattle.job_runner.specs.Asked.{AreAsked}
use Rattle.job_runner.proofs.CallLemmas.{AreAsked-built}
use Rattle.restart_model.specs.Libraries.{restart_job}
use Rattle.restart_model.specs.Sources.{descriptions}
use Rattle.opened_library.specs.Restarts.{MayRestart}
use Rattle.ibmi_batch.specs.Storing.{IsAnsweredAt, IsOpenFront, MayRun}

-- ---- no call asks for a checkpoint

built-saves : (request : Request) → is_built request ≡ true → saves request ≡ false
built-saves Checkpoint built = absurd cc
built-saves _ built = refl

-- the library answers what the scripts ask
pub no-checkpoint : (scripts : Scripts) → IsTrue (list_all is_askable_script scripts.scripts) → (calls : List Call) → AreAsked scripts.scripts [] calls → AsksNoCheckpoint calls
no-checkpoint scripts askable calls asked = AreAsked-built (λ (request : Request). saves request ≡ false) built-saves scripts.scripts askable [] calls asked

no-checkpoint-front : (number : ℕ) (calls : List Call) → AsksNoCheckpoint calls → AsksNoCheckpoint (take number calls)
no-checkpoint-front zero [] unsaved = tt
no-checkpoint-front (suc number) [] unsaved = tt
no-checkpoint-front zero (call ∷ calls) unsaved = tt
no-checkpoint-front (suc number) (call ∷ calls) unsaved = (unsaved.0, no-checkpoint-front number calls unsaved.1)

-- ---- a session's calls

-- from a start of which each front can be opened again, over a disk of which a stop leaves its journal; the calls leave roots alone
module _ (law : FrontsCanBeOpened) (sources : List NamedSource) (start : State) (sound : IsSound start) (replayed : IsReplayed start) (first last : Disk) (entries : List Entry)
    (durable : (areas : Areas) → May first areas → SpellJournal descriptions entries areas) (roots : LeavesRoots first last) where
  -- whole calls
  open-front : (calls acknowledged : List Call) (outcome : Outcome) → AsksNoCheckpoint calls → Runs sources (Standing start) calls outcome
      → (areas : Areas) → last.since first.moment areas → IsFront sources start calls acknowledged outcome areas → IsOpenFront sources start calls acknowledged outcome areas
  open-front calls acknowledged outcome unsaved runs areas left front =
      let opens = law sources start calls outcome front.count sound replayed unsaved runs front.whole front.most in
      let from = roots.images areas left in
      let before = durable from.0 from.1 in
      let root : ROOT_AREA < area_of FIRST_RECEIVER = omega arith in
      record {
        front = front;
        spells = record {
          earlier = before.earlier;
          roots = subst (AreRoots before.earlier first_root) (sym (from.2 ROOT_AREA root)) before.roots;
          spelled = front.spells;
          replays = opens.replays;
          journaled = opens.deposited.journaled;
        };
      }

  -- what the store was before, and what a restart made of it
  module _ (tells : Type 0) (old : Disk) (before : List Entry) (restart : Leaves old first (MayRestart descriptions old restart_job 0 before)) (calls : List Call) (outcome : Outcome)
      (unsaved : AsksNoCheckpoint calls) (runs : Runs sources (Standing start) calls outcome) where
    pub run-moments : Leaves first last (IsFront sources start calls [] outcome) → Leaves old last (MayRun old before sources start calls outcome)
    run-moments moments =
        leaves_then old first last (MayRun old before sources start calls outcome)
        (leaves_less old first (MayRestart descriptions old restart_job 0 before) (MayRun old before sources start calls outcome) restart (λ areas may. inl may))
        (record { later = roots.later; images = λ areas left. inr (open-front calls [] outcome unsaved runs areas left (moments.images areas left)) })

    pub run-acknowledged : ((areas : Areas) → May last areas → IsFront sources start calls calls outcome areas)
        → (areas : Areas) → May last areas → IsOpenFront sources start calls calls outcome areas
    run-acknowledged now areas may =
        open-front calls calls outcome unsaved runs areas (last.wider first.moment last.moment areas roots.later.moment may) (now areas may)

    pub run-answered : (number : ℕ) → IsAnswered sources start calls outcome first last number
        → IsAnsweredAt (record { tells = tells; old = old; new = last }) before sources start calls outcome number
    run-answered number one = record {
      moment = one.moment;
      begun = omega (arith, restart.later.moment, one.begun);
      ended = one.ended;
      reached = one.reached;
      runs = one.runs;
      earlier = λ areas left. elim (roots.later.parts old.moment areas restart.later.moment left) [
        | inl early ↦ inr (inl (restart.images areas early))
        | inr late ↦ elim (one.before areas late) [
          | inl since ↦ inl since
          | inr whole ↦ inr (inr (open-front (take number calls) [] one.reached (no-checkpoint-front number calls unsaved) one.runs areas late whole))
        ]
      ];
      since = λ areas left.
          open-front calls (take number calls) outcome unsaved runs areas (last.wider first.moment one.moment areas one.begun left) (one.since areas left);
    }
