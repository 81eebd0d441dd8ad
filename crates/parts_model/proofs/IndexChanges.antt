-- The kept paths are those of a library still, when a change is noted in a commit cycle, and when a commit cycle or a job ends.
use Rattle.std.proofs.Common.{ℕ, zero, suc, ◌+◌, ◌-◌, ◌≤◌, ◌≡◌, ◌==◌, if◌then◌else◌, IsTrue, Bool, true, false, cond, List, [], ◌∷◌, length, map, slice_get, Option, Some, None, refl, sym, ap, arith, ◌∙◌, subst}
use Rattle.std.specs.Prelude.{filter}
use Rattle.std.specs.List.{AllZip}
use Rattle.member_slots.specs.declared.slot.Slot.{Slot}
use Rattle.member_slots.specs.Members.{NumberedMembers}
use Rattle.file_model.specs.declared.paths.PathSpec.{PathSpec}
use Rattle.journal_model.specs.Rollback.{MemberChange}
use Rattle.path_set.specs.declared.moves.PathMove.{PathMove}
use Rattle.path_set.specs.KeptPaths.{KeptPaths, NumberedPaths}
use Rattle.path_set.specs.RecordChanges.{RecordChange, reversed, moves_in, opposites, paths_after}
use Rattle.path_set.specs.MemberSteps.{is_over, slot_replaced}
use Rattle.path_set.proofs.RecordLemmas.{moves-opposite, moves-later}
use Rattle.job_table.specs.Changes.{change_of}
use Rattle.lawful_states.specs.Jobs.{cycle_from}
use Rattle.job_table.specs.Opens.{OpenOrder}
use Rattle.job_table.specs.Table.{changed_at, job_of_number}
use Rattle.library_model.specs.Named.{Named}
use Rattle.library_steps.specs.Commitment.{at_boundary, committed_open, rolled_back_open, without_cycle}
use Rattle.library_steps.specs.EndJob.{ended_job}
use Rattle.library_steps.specs.History.{is_running}
use Rattle.library_steps.specs.SlotChange.{noted, with_cycle}
use Rattle.library_steps.specs.State.{FileState, OpenState, CycleState, JobState, job_at, job_changed, or_new, with_opens}
use Rattle.library_steps.specs.Uses.{changes_in}
use Rattle.parts_model.specs.Indexed.{HaveSpares, OpensRead, record_change, moves_back, moves_of_job, changes_over, IsIndexed}
use Rattle.parts_model.proofs.IndexPaths.{counted_in, changes_over-cons, changes_over-fewer, so_many, spares-fewer}
use Rattle.parts_model.proofs.IndexOpens.{SameReads, same-open, opens-alike, opens-mapped, zip-changed}

-- ---- a change noted

-- a cycle has the changes of the one that it goes on from
from-changes : (sequence : ℕ) (cycle : Option CycleState) → (cycle_from sequence cycle).undos ≡ changes_in cycle
from-changes sequence None = refl
from-changes sequence (Some cycle) = refl

-- the job at a place with one change more
abbrev noted_at : (sequence : ℕ) → MemberChange → (before : Option CycleState) → JobState → JobState
noted_at sequence undo before = with_cycle (noted undo (cycle_from sequence before))

noted-moves : (paths : NumberedPaths) (place sequence : ℕ) (undo : MemberChange) (jobs : List JobState)
    → map (moves_of_job paths) (job_changed place (noted_at sequence undo (or_new (slice_get jobs place)).cycle) jobs)
    ≡ changed_at place (λ (ms : List (List PathMove)). moves_back paths undo ∷ ms) (map (moves_of_job paths) jobs)
noted-moves paths place sequence undo [] = refl
noted-moves paths zero sequence undo (job ∷ jobs) = λ i. (moves_back paths undo ∷ map (moves_back paths) (from-changes sequence job.cycle i)) ∷ map (moves_of_job paths) jobs
noted-moves paths (suc place) sequence undo (job ∷ jobs) = ap (λ (w : List (List (List PathMove))). moves_of_job paths job ∷ w) (noted-moves paths place sequence undo jobs)

noted-count : (spec : PathSpec) (place sequence : ℕ) (undo : MemberChange) (jobs : List JobState)
    → changes_over spec (job_changed place (noted_at sequence undo (or_new (slice_get jobs place)).cycle) jobs) ≤ changes_over spec jobs + so_many (is_over undo.member spec) 1
noted-count spec place sequence undo [] = omega arith
noted-count spec zero sequence undo (job ∷ jobs) =
    let before = changes_over-cons spec job jobs in
    let after = changes_over-cons spec (noted_at sequence undo job.cycle job) jobs in
    let more = one (is_over undo.member spec) in
    let same = ap (λ (undos : List MemberChange). length (filter (λ (u : MemberChange). is_over u.member spec) undos)) (from-changes sequence job.cycle) in
    omega (arith, before, after, more, same)
  where
    one : (b : Bool)
        → length (cond b (undo ∷ filter (λ (u : MemberChange). is_over u.member spec) (cycle_from sequence job.cycle).undos) (filter (λ (u : MemberChange). is_over u.member spec)
        (cycle_from sequence job.cycle).undos))
        ≡ length (filter (λ (u : MemberChange). is_over u.member spec) (cycle_from sequence job.cycle).undos) + so_many b 1
    one true = omega arith
    one false = omega arith
noted-count spec (suc place) sequence undo (job ∷ jobs) =
    let before = changes_over-cons spec job jobs in
    let after = changes_over-cons spec job (job_changed place (noted_at sequence undo (or_new (slice_get jobs place)).cycle) jobs) in
    let rest = noted-count spec place sequence undo jobs in
    omega (arith, before, after, rest)

-- the opens of the jobs stay
zip-left : {B : Type 0} (R : JobState → B → Type 0) (place : ℕ) (change : JobState → JobState) (jobs : List JobState) (things : List B)
    → ((job : JobState) (thing : B) → R job thing → R (change job) thing) → AllZip R jobs things → AllZip R (job_changed place change jobs) things
zip-left R place change [] [] each all = tt
zip-left R place change [] (thing ∷ things) each all = absurd all
zip-left R place change (job ∷ jobs) [] each all = absurd all
zip-left R zero change (job ∷ jobs) (thing ∷ things) each all = (each job thing all.0, all.1)
zip-left R (suc place) change (job ∷ jobs) (thing ∷ things) each all = (all.0, zip-left R place change jobs things each all.1)

module _ (files : Named FileState) (members : NumberedMembers) (jobs : List JobState) (orders : List (Named OpenOrder)) (moves : List (List (List PathMove))) (kept : KeptPaths) where
  noted-place : (place sequence : ℕ) (undo : MemberChange) (back : List PathMove) → back ≡ moves_back kept.paths undo → HaveSpares (λ spec. changes_over spec jobs + so_many (is_over undo.member spec) 1) kept
      → IsIndexed files members jobs orders moves kept
      → IsIndexed files members (job_changed place (noted_at sequence undo (or_new (slice_get jobs place)).cycle) jobs) orders (changed_at place (λ (ms : List (List PathMove)). back ∷ ms) moves) kept
  noted-place place sequence undo back is room indexed = record {
    paths = indexed.paths;
    orders = zip-left (OpensRead files kept.paths) place (noted_at sequence undo (or_new (slice_get jobs place)).cycle) jobs orders (λ job its reads. reads) indexed.orders;
    moves = (λ i. changed_at place (λ (ms : List (List PathMove)). is i ∷ ms) (indexed.moves i)) ∙ sym (noted-moves kept.paths place sequence undo jobs);
    room = spares-fewer (λ spec. changes_over spec (job_changed place (noted_at sequence undo (or_new (slice_get jobs place)).cycle) jobs))
        (λ spec. changes_over spec jobs + so_many (is_over undo.member spec) 1) kept (λ spec. noted-count spec place sequence undo jobs) room;
    bytes = indexed.bytes;
    views = indexed.views;
  }

  -- a change of a job that runs
  pub IsIndexed-noted : (number sequence : ℕ) (undo : MemberChange) (back : List PathMove) → IsTrue (is_running (job_at number jobs)) → back ≡ moves_back kept.paths undo
      → HaveSpares (λ spec. changes_over spec jobs + so_many (is_over undo.member spec) 1) kept → IsIndexed files members jobs orders moves kept
      → IsIndexed files members (job_changed (number - 1) (with_cycle (noted undo (cycle_from sequence (job_of_number number jobs).cycle))) jobs) orders (changed_at (number - 1)
      (λ ms. back ∷ ms) moves) kept
  IsIndexed-noted number sequence undo back running is room indexed =
      elim (number == 0) as (λ b. IsTrue (is_running (if b then None else slice_get jobs (number - 1)))
      → IsIndexed files members (job_changed (number - 1) (with_cycle (noted undo (cycle_from sequence (or_new (if b then None else slice_get jobs (number - 1))).cycle))) jobs) orders
      (changed_at (number - 1) (λ (ms : List (List PathMove)). back ∷ ms) moves) kept) [
        | true ↦ λ h. absurd cc
        | false ↦ λ h. noted-place (number - 1) sequence undo back is room indexed
      ] running

-- ---- a commit cycle ended

none-moves : (paths : NumberedPaths) (place : ℕ) (change : JobState → JobState) (jobs : List JobState) → ((job : JobState) → changes_in (change job).cycle ≡ [])
    → map (moves_of_job paths) (job_changed place change jobs) ≡ changed_at place (λ (ms : List (List PathMove)). []) (map (moves_of_job paths) jobs)
none-moves paths place change [] none = refl
none-moves paths zero change (job ∷ jobs) none = λ i. map (moves_back paths) (none job i) ∷ map (moves_of_job paths) jobs
none-moves paths (suc place) change (job ∷ jobs) none = ap (λ (w : List (List (List PathMove))). moves_of_job paths job ∷ w) (none-moves paths place change jobs none)

none-count : (spec : PathSpec) (change : JobState → JobState) → ((job : JobState) → changes_in (change job).cycle ≡ []) → (job : JobState) → counted_in spec (change job) ≤ counted_in spec job
none-count spec change none job =
    let e : counted_in spec (change job) ≡ 0 = ap (λ (undos : List MemberChange). length (filter (λ (u : MemberChange). is_over u.member spec) undos)) (none job) in omega (arith, e)

module _ (files : Named FileState) (members : NumberedMembers) (jobs : List JobState) (orders : List (Named OpenOrder)) (moves : List (List (List PathMove))) (kept : KeptPaths) where
  -- whatever is done to the opens, if they read by these orders
  pub IsIndexed-cycle_over : (place : ℕ) (change : JobState → JobState) (others : List (Named OpenOrder)) → ((job : JobState) → changes_in (change job).cycle ≡ [])
      → AllZip (OpensRead files kept.paths) (job_changed place change jobs) others → IsIndexed files members jobs orders moves kept
      → IsIndexed files members (job_changed place change jobs) others (changed_at place (λ ms. []) moves) kept
  IsIndexed-cycle_over place change others none reads indexed = record {
    paths = indexed.paths;
    orders = reads;
    moves = ap (changed_at place (λ (ms : List (List PathMove)). [])) indexed.moves ∙ sym (none-moves kept.paths place change jobs none);
    room = spares-fewer (λ spec. changes_over spec (job_changed place change jobs)) (λ spec. changes_over spec jobs) kept
        (λ spec. changes_over-fewer spec place change jobs (none-count spec change none)) indexed.room;
    bytes = indexed.bytes;
    views = indexed.views;
  }

  pub IsIndexed-cycle_ended : (place : ℕ) (change : OpenState → OpenState) → ((opened : OpenState) → SameReads opened (change opened)) → IsIndexed files members jobs orders moves kept
      → IsIndexed files members (job_changed place (λ j. with_opens change (without_cycle j)) jobs) orders (changed_at place (λ ms. []) moves) kept
  IsIndexed-cycle_ended place change each indexed =
      IsIndexed-cycle_over place (λ j. with_opens change (without_cycle j)) orders (λ job. refl)
      (zip-left (OpensRead files kept.paths) place (λ j. with_opens change (without_cycle j)) jobs orders
      (λ job its reads. opens-alike files kept.paths job.opens (map (λ (entry : List ℕ × OpenState). (entry.0, change entry.1)) job.opens) its
      (opens-mapped change job.opens each) reads) indexed.orders) indexed

  pub IsIndexed-committed : (place : ℕ) → IsIndexed files members jobs orders moves kept
      → IsIndexed files members (job_changed place (λ j. with_opens committed_open (without_cycle j)) jobs) orders (changed_at place (λ ms. []) moves) kept
  IsIndexed-committed place =
      IsIndexed-cycle_ended place committed_open
      (λ opened. elim opened.commit as (λ b. SameReads opened (if b then at_boundary opened else opened)) [
        | true ↦ record { file = refl; members = refl; access_path = refl }
        | false ↦ same-open opened
      ])

  pub IsIndexed-rolled_back : (place : ℕ) → IsIndexed files members jobs orders moves kept
      → IsIndexed files members (job_changed place (λ j. with_opens rolled_back_open (without_cycle j)) jobs) orders (changed_at place (λ ms. []) moves) kept
  IsIndexed-rolled_back place =
      IsIndexed-cycle_ended place rolled_back_open
      (λ opened. elim opened.commit as (λ b. SameReads opened
      (if b then record opened { position = opened.boundary; current = None; last_read = None } else record opened { current = None; last_read = None })) [
        | true ↦ record { file = refl; members = refl; access_path = refl }
        | false ↦ record { file = refl; members = refl; access_path = refl }
      ])

  -- the end of a job, which closes its opens
  pub IsIndexed-ended : (place : ℕ) → IsIndexed files members jobs orders moves kept
      → IsIndexed files members (job_changed place ended_job jobs) (changed_at place (λ its. []) orders) (changed_at place (λ ms. []) moves) kept
  IsIndexed-ended place indexed =
      IsIndexed-cycle_over place ended_job (changed_at place (λ (its : Named OpenOrder). []) orders) (λ job. refl)
      (zip-changed (OpensRead files kept.paths) place ended_job (λ (its : Named OpenOrder). []) jobs orders (λ job its reads. tt) indexed.orders) indexed

-- ---- the moves that take a change back

-- what a change gave back takes it back, in the paths after it
pub returned-moves : (c : RecordChange) (undo : MemberChange) (old new : NumberedPaths) → record_change undo ≡ c → new ≡ paths_after (moves_in c old) old
    → opposites (moves_in c old) ≡ moves_back new undo
returned-moves c undo old new same is =
    moves-opposite c old
    ∙ sym (moves-later (reversed c) (moves_in c old) old)
    ∙ (λ i. moves_in (reversed (sym same i)) (sym is i))

-- the change as a commit cycle keeps it
pub record_change-of : (member rrn cycle : ℕ) (before after : Slot) → 1 ≤ rrn → record_change (change_of member rrn cycle before after) ≡ slot_replaced member rrn before after
record_change-of member rrn cycle before after first = ap (λ (n : ℕ). slot_replaced member n before after) (let e : rrn - 1 + 1 ≡ rrn = omega (arith, first) in e)
