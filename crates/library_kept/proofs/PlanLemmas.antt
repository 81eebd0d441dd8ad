-- What the plans of requests have looked up.
use Rattle.std.proofs.Common.{◌≡◌, ℕ, zero, suc, ◌+◌, ◌-◌, ◌<◌, ◌≤◌, ◌==◌, if◌then◌else◌, IsTrue, Bool, true, false, Option, Some, None, is_some, slice_get, Result, Ok, Err, List, [], ◌∷◌, length, refl, sym, ◌∙◌, ap, subst, arith}
use Rattle.std.specs.List.{AllByRecursion}
use Rattle.std.proofs.lemmas.Bool.{eqb-false}
use Rattle.std.proofs.lemmas.Bool.Decides.{nat_tests}
use Rattle.field_types.specs.declared.faults.RecordFault.{RecordFault}
use Rattle.member_slots.specs.declared.slot.Slot.{Slot}
use Rattle.member_slots.specs.Member.{MemberState, slot_at}
use Rattle.lawful_states.specs.Owners.{Owns, AreApart}
use Rattle.library_model.specs.Named.{Named, named, same_name}
use Rattle.library_steps.specs.History.{is_running}
use Rattle.library_steps.specs.Records.{record_in}
use Rattle.library_steps.specs.Refusals.{found, named_or_refused, FoundMember, member_of_file, OpenedFile, opened_file}
use Rattle.library_steps.specs.State.{State, Memory, FileState, JobState, memory_of, file_named, physical_named, open_named, job_at, job_of, or_new}
use Rattle.library_steps.specs.WriteRecord.{packed}
use Rattle.lawful_states.specs.Members.{HasMember}
use Rattle.lawful_states.proofs.BaseLemmas.{physical-found}
use Rattle.lawful_states.proofs.FindLemmas.{found-is, member-there}
use Rattle.joint_state.specs.Joint.{IsJoint, JobStands}
use Rattle.joint_state.specs.Sound.{IsSound}
use Rattle.library_kept.proofs.ResultLemmas.{ok-equal, bind-ok}

-- ---- names

pub opened-is : (name : List ℕ) (job : ℕ) (m : Memory) (its : OpenedFile) → opened_file name job m ≡ Ok its
    → (open_named name job m ≡ Some its.opened) × (named its.opened.file m.files ≡ Some its.file)
opened-is name job m its h =
    let a = bind-ok (named_or_refused name (open_named name job m)) _ its h in
    let b = bind-ok (named_or_refused a.0.file (file_named a.0.file m)) _ its a.2 in
    subst (λ (i : OpenedFile). (open_named name job m ≡ Some i.opened) × (named i.opened.file m.files ≡ Some i.file)) (ok-equal _ its b.2)
    (found-is (open_named name job m) _ a.0 a.1, found-is (file_named a.0.file m) _ b.0 b.1)

pub member-is : (file member : List ℕ) (m : Memory) (it : FoundMember) → member_of_file file member m ≡ Ok it
    → (named file m.files ≡ Some it.file) × (named member it.file.members ≡ Some it.status)
member-is file member m it h =
    let a = bind-ok (named_or_refused file (physical_named file m)) _ it h in
    let b = bind-ok (named_or_refused member (named member a.0.members)) _ it a.2 in
    subst (λ (i : FoundMember). (named file m.files ≡ Some i.file) × (named member i.file.members ≡ Some i.status)) (ok-equal _ it b.2)
    ((physical-found file m.files a.0 (found-is (physical_named file m) _ a.0 a.1)).0, found-is (named member a.0.members) _ b.0 b.1)

-- a file has the member that is named
pub named-member : (s : State) (file member : List ℕ) (it : FoundMember) → IsSound s → member_of_file file member (memory_of s) ≡ Ok it → HasMember s file it.file it.status.number
named-member s file member it sound h = let is = member-is file member (memory_of s) it h in member-there s file member it.file it.status sound.library is.0 is.1

-- two files that have one member are the same
pub same-file : (files : Named FileState) (name other : List ℕ) (file another : FileState) (number : ℕ) → AreApart files → Owns files name file number
    → Owns files other another number → file ≡ another
same-file files name other file another number apart one two =
    let same : name ≡ other = apart.apart name other file another number one two in
    let both : Some file ≡ Some another = sym one.there ∙ ap (λ (n : List ℕ). named n files) same ∙ two.there in
    cc

pub packed-is : (r : Result (List ℕ) RecordFault) (image : List ℕ) → packed r ≡ Ok image → r ≡ Ok image
packed-is (Ok other) image h = let same : other ≡ image = ok-equal other image h in ap (λ (bytes : List ℕ). Ok bytes) same
packed-is (Err fault) image h = absurd cc

-- ---- the job

pub named-each : {A : Type 0} (P : A → Type 0) (name : List ℕ) (things : Named A) (thing : A) → AllByRecursion (λ (e : List ℕ × A). P e.1) things → named name things ≡ Some thing → P thing
named-each P name [] thing all found = absurd cc
named-each P name (first ∷ things) thing all found =
    elim (same_name name first.0) as (λ b. (if b then Some first.1 else named name things) ≡ Some thing → P thing) [
      | true ↦ λ same. let e : first.1 ≡ thing = cc in subst P e all.0
      | false ↦ λ later. named-each P name things thing all.1 later
    ] found

-- a job that runs is there
pub running-job : (s : State) (job : ℕ) → IsTrue (is_running (job_at job s.jobs)) → IsJoint s → JobStands s job (job_of job (memory_of s))
running-job s job running joint = at (job == 0) refl running
  where
    there : (o : Option JobState) → slice_get s.jobs (job - 1) ≡ o → IsTrue (is_running o) → job - 1 + 1 ≡ job → JobStands s job (or_new o)
    there None is runs same = absurd cc
    there (Some j) is runs same = subst (λ (n : ℕ). JobStands s n j) same (joint.jobs (job - 1) j is)

    at : (b : Bool) → (job == 0) ≡ b → IsTrue (is_running (if b then None else slice_get s.jobs (job - 1))) → JobStands s job (or_new (if b then None else slice_get s.jobs (job - 1)))
    at true is runs = absurd cc
    at false is runs = there (slice_get s.jobs (job - 1)) refl runs (let other = eqb-false job 0 is in grind (arith, nat_tests))

-- and is the one of its number
pub job-there : (jobs : List JobState) (job : ℕ) → IsTrue (is_running (job_at job jobs)) → slice_get jobs (job - 1) ≡ Some (or_new (job_at job jobs))
job-there jobs job running = at (job == 0) running
  where
    there : (o : Option JobState) → IsTrue (is_running o) → o ≡ Some (or_new o)
    there None runs = absurd cc
    there (Some j) runs = refl

    at : (b : Bool) → IsTrue (is_running (if b then None else slice_get jobs (job - 1))) → slice_get jobs (job - 1) ≡ Some (or_new (if b then None else slice_get jobs (job - 1)))
    at true runs = absurd cc
    at false runs = there (slice_get jobs (job - 1)) runs

-- ---- places

slot-within : (slots : List Slot) (place : ℕ) → is_some (record_in (slice_get slots place)) ≡ true → place < length slots
slot-within [] place live = absurd cc
slot-within (slot ∷ slots) zero live = omega arith
slot-within (slot ∷ slots) (suc place) live = omega (arith, slot-within slots place live)

-- a record stands at a place that the member has
pub live-within : (member : MemberState) (rrn : ℕ) → is_some (record_in (slot_at member rrn)) ≡ true → (1 ≤ rrn) × (rrn ≤ length member.slots)
live-within member rrn live =
    elim (rrn == 0) as (λ b. (rrn == 0) ≡ b → is_some (record_in (if b then None else slice_get member.slots (rrn - 1))) ≡ true → (1 ≤ rrn) × (rrn ≤ length member.slots)) [
      | true ↦ λ is e. absurd cc
      | false ↦ λ is e. (
          let within = slot-within member.slots (rrn - 1) e in
          let first : 1 ≤ rrn = grind (arith, nat_tests) in
          (first, omega (arith, first, within)))
    ] refl live

pub same-number : (a b : ℕ) → a ≡ b → (a == b) ≡ true
same-number a b same = grind (arith, nat_tests)
