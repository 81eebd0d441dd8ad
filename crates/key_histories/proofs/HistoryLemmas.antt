-- What each answered request keeps of keys, each legal history keeps.
use Rattle.std.proofs.Common.{◌≡◌, inl, inr, ◌++◌, ℕ, IsTrue, List, [], ◌∷◌, Result, Ok, Err, refl, sym, ap, subst}
use Rattle.library_model.specs.declared.requests.Request.{Request}
use Rattle.library_model.specs.declared.replies.Reply.{Reply}
use Rattle.library_model.specs.declared.calls.Call.{Call}
use Rattle.library_model.specs.declared.sources.NamedSource.{NamedSource}
use Rattle.library_steps.specs.State.{State, begun, empty_library, memory_of, job_at}
use Rattle.library_steps.specs.Change.{Change, changed}
use Rattle.library_steps.specs.Step.{change, MayAnswer}
use Rattle.library_steps.specs.History.{is_running, Outcome, Standing, Failed, Comes, Runs}
use Rattle.joint_state.specs.Sound.{Does, IsSound, after}
use Rattle.joint_state.proofs.ReadLemmas.{own-read}
use Rattle.key_state.specs.Keys.{KeysStand}
use Rattle.keys_kept.specs.KeysKept.{AreKeysKept, HasUniqueKeys, all_rolled_back}
use Rattle.sound_histories.specs.Reached.{IsReached}

abbrev Stands : State → Type 0
Stands s = KeysStand (memory_of s)

-- the state after an answer, by whether there was a refusal
changed-stands : (s t : State) (reply : Reply) (r : Result Change Reply) → Stands s → ((done : Change) → r ≡ Ok done → Stands (after s done)) → (t, reply) ≡ changed s r → Stands t
changed-stands s t reply (Ok done) stand kept is = subst Stands (sym (ap (λ p. p.0) is)) (kept done refl)
changed-stands s t reply (Err refused) stand kept is = subst Stands (sym (ap (λ p. p.0) is)) stand

-- of a library that stands
abbrev StandsAt : Outcome → Type 0
StandsAt (Standing s) = Stands s
StandsAt (Failed entries) = Unit {0}

-- a call more leads on from where the calls before it led
runs-more : (sources : List NamedSource) (from : Outcome) (s : State) (mid : Outcome) (calls : List Call) (call : Call) → Runs sources from calls (Standing s)
    → IsTrue (is_running (job_at call.job s.jobs)) → Comes sources s call mid → Runs sources from (calls ++ call ∷ []) mid
runs-more sources from s mid [] call runs running comes = subst (λ (o : Outcome). Runs sources o (call ∷ []) mid) runs (running, mid, comes, refl)
runs-more sources (Standing f) s mid (first ∷ calls) call runs running comes = (runs.0, runs.1, runs.2, runs-more sources runs.1 s mid calls call runs.3 running comes)
runs-more sources (Failed entries) s mid (first ∷ calls) call runs running comes = absurd runs

module _ (sources : List NamedSource) (start : State) (sound : (calls : List Call) (s : State) → Runs sources (Standing start) calls (Standing s) → IsSound s) (kept : AreKeysKept) where
  answer-stands : (s t : State) (job timestamp : ℕ) (request : Request) (reply : Reply) → IsSound s → Stands s → IsTrue (is_running (job_at job s.jobs))
      → MayAnswer sources s job timestamp request reply t → Stands t
  answer-stands s t job timestamp request reply sound_now stand running (inl is) =
      changed-stands s t reply (change sources s.entries (memory_of s) job timestamp request) stand
      (λ done does.
      let d : Does s done =
      record { sound = sound_now; sources = sources; job = job; timestamp = timestamp; request = request; running = running; read = s.entries; reads = own-read s sound_now; does = does }
      in
      kept s done d stand)
      is
  answer-stands s t job timestamp request reply sound_now stand running (inr same) = subst Stands (sym same.0) stand

  comes-stands : (s : State) (mid : Outcome) (call : Call) → IsSound s → Stands s → IsTrue (is_running (job_at call.job s.jobs)) → Comes sources s call mid → StandsAt mid
  comes-stands s (Standing u) call sound_now stand running comes = answer-stands s u call.job call.timestamp call.request call.reply sound_now stand running comes
  comes-stands s (Failed entries) call sound_now stand running comes = tt

  -- from wherever the calls before have led
  outcomes-stand : (before : List Call) (from : Outcome) (t : State) (calls : List Call) → Runs sources (Standing start) before from → StandsAt from
      → Runs sources from calls (Standing t) → Stands t
  outcomes-stand before from t [] led stand runs = subst StandsAt (sym runs) stand
  outcomes-stand before (Standing s) t (call ∷ calls) led stand runs =
      outcomes-stand (before ++ call ∷ []) runs.1 t calls (runs-more sources (Standing start) s runs.1 before call led runs.0 runs.2)
      (comes-stands s runs.1 call (sound before s led) stand runs.0 runs.2) runs.3
  outcomes-stand before (Failed entries) t (call ∷ calls) led stand runs = absurd runs

  pub runs-stand : (t : State) (calls : List Call) → Stands start → Runs sources (Standing start) calls (Standing t) → Stands t
  runs-stand t calls stand runs = outcomes-stand [] (Standing start) t calls refl stand runs

-- from a library with nothing in it, whatever jobs begin there
module _ (sound : (sources : List NamedSource) (names : List (List ℕ)) (calls : List Call) (s : State) → IsReached sources names calls s → IsSound s)
    (begin : (names : List (List ℕ)) → KeysStand (memory_of (begun empty_library names))) (kept : AreKeysKept) where
  pub reached-stand : (sources : List NamedSource) (names : List (List ℕ)) (calls : List Call) (s : State) → IsReached sources names calls s → KeysStand (memory_of s)
  reached-stand sources names calls s reached = runs-stand sources (begun empty_library names) (sound sources names) kept s calls (begin names) reached

  pub reached-rolled : (rolled : (s : State) → IsSound s → KeysStand (memory_of s) → (places : List ℕ) → HasUniqueKeys (all_rolled_back places (memory_of s)))
      → (sources : List NamedSource) (names : List (List ℕ)) (calls : List Call) (s : State) (places : List ℕ) → IsReached sources names calls s
      → HasUniqueKeys (all_rolled_back places (memory_of s))
  reached-rolled rolled sources names calls s places reached = rolled s (sound sources names calls s reached) (reached-stand sources names calls s reached) places
