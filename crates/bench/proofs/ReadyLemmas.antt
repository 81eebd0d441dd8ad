-- How jobs begin in a library, and that each of them may make a call then and after each call that ends no job.
use Rattle.std.proofs.Common.{◌≡◌, ◌≤◌, ◌<◌, ℕ, zero, suc, ◌+◌, ◌-◌, true, false, IsTrue, List, [], ◌∷◌, ◌++◌, length, map, slice_get, refl, sym, ◌∙◌, ap, subst, arith, length-append, Result, Ok, Err, OnOk, OnErr}
use Rattle.std.proofs.lemmas.List.{length-map, map-append}
use Rattle.std.proofs.lemmas.Bool.Decides.{nat_tests}
use Rattle.library_model.specs.declared.requests.Request.{Request}
use Rattle.library_model.specs.declared.sources.NamedSource.{NamedSource}
use Rattle.library_model.specs.Ending.{is_end_job}
use Rattle.library_steps.specs.State.{State, JobState, job_at, new_job}
use Rattle.library_steps.specs.History.{is_running}
use Rattle.deposited_entries.specs.Deposits.{AreShort}
use Rattle.kept_library.specs.Parts.{LibraryOver}
use Rattle.library_core.specs.Running.{runs_after}
use Rattle.kept_library.specs.Stands.{IsReady}
use Rattle.library_core.proofs.RunLemmas.{runs-on}
use Rattle.bench.specs.Ready.{AreReady, HasBegun}

-- each of them may
pub AreReady-each : {S : Type 0} (count job : ℕ) (library : LibraryOver S) → AreReady count library → 1 ≤ job → job ≤ count → IsReady job library
AreReady-each count job library ready first last = record {
  alive = ready.alive;
  running = ready.running job first last;
}

-- after a call that ends no job each of them may again
pub AreReady-on : {S : Type 0} (count job : ℕ) (r : Request) (old new : LibraryOver S) → AreReady count old → is_end_job r ≡ false → new.failed ≡ false
    → ((other : ℕ) → is_running (job_at other new.state.jobs) ≡ runs_after job r old.state.jobs other) → AreReady count new
AreReady-on count job r old new ready goes_on alive runs = record {
  alive = alive;
  running = λ other first last. rw (runs other, runs-on job r old.state.jobs other goes_on) (ready.running other first last);
}

-- none has begun in a library that has no jobs
pub HasBegun-none : {S : Type 0} (library : LibraryOver S) → library.failed ≡ false → library.state.jobs ≡ [] → HasBegun 0 library
HasBegun-none library alive none = record { names = []; many = refl; alive = alive; jobs = none }

-- one more has begun
pub HasBegun-more : {S : Type 0} (count : ℕ) (name : List ℕ) (old new : LibraryOver S) → HasBegun count old → new.state ≡ record old.state { jobs = old.state.jobs ++ new_job name ∷ [] }
    → new.failed ≡ old.failed → HasBegun (count + 1) new
HasBegun-more count name old new before begins same = record {
  names = before.names ++ name ∷ [];
  many = length-append before.names (name ∷ []) ∙ ap (λ n. n + 1) before.many;
  alive = same ∙ before.alive;
  jobs = ap (λ (s : State). s.jobs) begins ∙ ap (λ (js : List JobState). js ++ new_job name ∷ []) before.jobs ∙ sym (map-append new_job before.names (name ∷ []));
}

-- how many have begun
pub HasBegun-length : {S : Type 0} (count : ℕ) (library : LibraryOver S) → HasBegun count library → length library.state.jobs ≡ count
HasBegun-length count library before = ap (λ (js : List JobState). length js) before.jobs ∙ length-map before.names new_job ∙ before.many

-- a job that has begun and done nothing runs
begun-runs : (names : List (List ℕ)) (at : ℕ) → at < length names → is_running (slice_get (map new_job names) at) ≡ true
begun-runs [] at within = absurd (omega arith)
begun-runs (name ∷ names) zero within = refl
begun-runs (name ∷ names) (suc at) within = begun-runs names at (omega arith)

job-runs : (names : List (List ℕ)) (job : ℕ) → 1 ≤ job → job ≤ length names → is_running (job_at job (map new_job names)) ≡ true
job-runs names job first last = let here = begun-runs names (job - 1) (omega (arith, first, last)) in grind (arith, nat_tests, here, first)

-- each that has begun may make a call
pub AreReady-begun : {S : Type 0} (count : ℕ) (library : LibraryOver S) → HasBegun count library → AreReady count library
AreReady-begun count library before = record {
  alive = before.alive;
  running = λ job first last. subst (λ (js : List JobState). IsTrue (is_running (job_at job js))) (sym before.jobs) (job-runs before.names job first (omega (arith, last, before.many)));
}

-- ---- sources

-- a source that was pushed is short as the others are, or there was no memory and none came
pub short-pushed : {E : Type 0} (result : Result (Unit {0}) E) (old new : List NamedSource) (source : NamedSource) → OnOk result (new ≡ old ++ source ∷ []) → OnErr result (new ≡ old)
    → length source.text + 64 ≤ 534773760 → AreShort old → AreShort new
short-pushed {E = E} result old new source pushed unchanged short all = put result pushed unchanged
  where
    behind : (sources : List NamedSource) → AreShort sources → AreShort (sources ++ source ∷ [])
    behind [] none = (short, tt)
    behind (s ∷ sources) those = (those.0, behind sources those.1)

    put : (r : Result (Unit {0}) E) → OnOk r (new ≡ old ++ source ∷ []) → OnErr r (new ≡ old) → AreShort new
    put (Ok nothing) more same = subst AreShort (sym more) (behind old all)
    put (Err fault) more same = subst AreShort (sym same) all
