-- The rules of locks by call, for every level, and what they keep.
use Rattle.std.proofs.Common.{◌≡◌, ℕ, ◌+◌, ◌<◌, Bool, true, false, not, ◌&&◌, ◌||◌, ◌==◌, Option, None, Some, List, [], ◌∷◌, length, get_or, take, refl, sym, ap, ◌∙◌, arith}
use Rattle.std.specs.Prelude.{IfSome}
use Rattle.std.specs.List.{list_any}
use Rattle.std.proofs.lemmas.Bool.Decides.{nat_tests}
use Rattle.std.proofs.lemmas.List.Elements.{filter_agree}
use Rattle.std.proofs.lemmas.List.Folds.{list_any_more}
use Rattle.commit_level.specs.declared.Level.{Level}
use Rattle.commit_level.specs.declared.Level.TheVariants.{Chg, Cs, All}
use Rattle.lock_table.specs.declared.levels.Call.{Call}
use Rattle.lock_table.specs.declared.levels.Call.TheVariants.{InputRead, UpdateRead, Update, Delete, Write, WriteAt, Unlock, Position, Close, Commit, Rollback, EndCommitment, EndJob}
use Rattle.lock_table.specs.declared.levels.Wanted.{Wanted}
use Rattle.lock_table.specs.declared.lock.Holder.{Holder}
use Rattle.lock_table.specs.declared.lock.RecordId.{RecordId}
use Rattle.lock_table.specs.declared.lock.Lock.{Lock}
use Rattle.lock_table.specs.Lock.{is_by, is_open, is_of_group, is_of_job, is_of_open, is_of_opens, is_of_record}
use Rattle.lock_table.specs.declared.lock.Reach.TheVariants.{Open, Boundary}
use Rattle.lock_table.specs.declared.part.Part.TheVariants.{OfJob, Reaching, OnRecord}
use Rattle.lock_table.specs.Index.{is_part}
use Rattle.lock_table.specs.Table.{freed}
use Rattle.lock_table.specs.Levels.{asked, gained, locks_after}
use Rattle.lock_table.proofs.Kept.{filter-filter}
use Rattle.lock_table.proofs.Locks.{is_part-group, is_part-job, is_part-record}

module _ (holder : Holder) (at : RecordId) (is_committed : ℕ → Bool) (held : List Lock) where
  pub after-commit : (level : Option Level) → locks_after Commit level holder at is_committed held ≡ freed (is_of_opens holder.job is_committed) (freed (is_of_group holder.job) held)
  after-commit None = refl
  after-commit (Some Chg) = refl
  after-commit (Some Cs) = refl
  after-commit (Some All) = refl

  after-rollback : (level : Option Level) → locks_after Rollback level holder at is_committed held ≡ freed (is_of_job holder.job) (freed (is_of_group holder.job) held)
  after-rollback None = refl
  after-rollback (Some Chg) = refl
  after-rollback (Some Cs) = refl
  after-rollback (Some All) = refl

  after-end_job : (level : Option Level) → locks_after EndJob level holder at is_committed held ≡ freed (is_of_job holder.job) (freed (is_of_group holder.job) held)
  after-end_job None = refl
  after-end_job (Some Chg) = refl
  after-end_job (Some Cs) = refl
  after-end_job (Some All) = refl

all_of_job : (is_open by : Bool) → (not (not is_open && by) && not (is_open && by)) ≡ not by
all_of_job true b = refl
all_of_job false true = refl
all_of_job false false = refl

both_freed : (job : ℕ) (held : List Lock) → freed (is_of_job job) (freed (is_of_group job) held) ≡ freed (is_by job) held
both_freed job held =
    filter-filter (λ l. not (is_of_group job l)) (λ l. not (is_of_job job l)) held
    ∙ filter_agree (λ l. not (is_of_group job l) && not (is_of_job job l)) (λ l. not (is_by job l)) (λ l. all_of_job (is_open l.reach) (is_by job l)) held

module _ (holder : Holder) (at : RecordId) (is_committed : ℕ → Bool) (held : List Lock) (level : Option Level) where
  pub rollback-all : freed (is_by holder.job) held ≡ locks_after Rollback level holder at is_committed held
  rollback-all = sym (both_freed holder.job held) ∙ sym (after-rollback holder at is_committed held level)

  pub end_job-all : freed (is_by holder.job) held ≡ locks_after EndJob level holder at is_committed held
  end_job-all = sym (both_freed holder.job held) ∙ sym (after-end_job holder at is_committed held level)

-- ---- the parts that are freed
pub freed-job : (job : ℕ) (held : List Lock) → freed (is_part (OfJob job)) held ≡ freed (is_by job) held
freed-job job held = filter_agree (λ l. not (is_part (OfJob job) l)) (λ l. not (is_by job l)) (λ l. ap not (is_part-job job l)) held

pub freed-group : (job : ℕ) (held : List Lock) → freed (is_part (Reaching job Boundary)) held ≡ freed (is_of_group job) held
freed-group job held = filter_agree (λ l. not (is_part (Reaching job Boundary) l)) (λ l. not (is_of_group job l)) (λ l. ap not (is_part-group job l)) held

pub freed-record : (job : ℕ) (at : RecordId) (held : List Lock) → freed (is_part (OnRecord job Open at)) held ≡ freed (is_of_record job at) held
freed-record job at held = filter_agree (λ l. not (is_part (OnRecord job Open at) l)) (λ l. not (is_of_record job at l)) (λ l. ap not (is_part-record job l at)) held

-- ---- one open more whose locks are freed
abbrev pub among : List ℕ → ℕ → Bool
among opens n = list_any (λ opened. opened == n) opens

nothing_freed : (job : ℕ) (held : List Lock) → held ≡ freed (is_of_opens job (among [])) held
nothing_freed job [] = refl
nothing_freed job (l ∷ held) = rw (and_false (is_of_job job l)) (ap (λ xs. l ∷ xs) (nothing_freed job held))
  where
    and_false : (b : Bool) → (b && false) ≡ false
    and_false true = refl
    and_false false = refl

pub freed-none_yet : (job : ℕ) (held : List Lock) → held ≡ freed (is_of_opens job (among [])) held
freed-none_yet = nothing_freed

one_more : (is_open by seen : Bool) (o x : ℕ) → (not ((is_open && by) && seen) && not (is_open && (by && (o == x)))) ≡ not ((is_open && by) && (seen || (x == o)))
one_more true true true o x = refl
one_more true true false o x = ap not (same o x)
  where
    same : (o x : ℕ) → (o == x) ≡ (x == o)
    same o x = grind (arith, nat_tests)
one_more true false s o x = refl
one_more false b s o x = refl

pub freed-one_more : (job : ℕ) (opens : List ℕ) (i : ℕ) (d : ℕ) (held : List Lock) → i < length opens → freed (is_of_open (record { job = job; opened = get_or opens i d })) (freed (is_of_opens job (among (take i opens))) held) ≡ freed (is_of_opens job (among (take (i + 1) opens))) held
freed-one_more job opens i d held l =
    filter-filter (λ k. not (is_of_opens job (among (take i opens)) k)) (λ k. not (is_of_open (record { job = job; opened = get_or opens i d }) k)) held
    ∙ filter_agree _ (λ k. not (is_of_opens job (among (take (i + 1) opens)) k))
    (λ k.
    one_more (is_open k.reach) (is_by job k) (among (take i opens) k.opened) k.opened (get_or opens i d)
    ∙ ap (λ b. not (is_of_job job k && b)) (sym (list_any_more (λ opened. opened == k.opened) opens i d l))) held

-- ---- what a call leaves on its record is what it asked for, or nothing
pub gained-asked : (P : Wanted → Type 0) (call : Call) (level : Option Level) → IfSome (asked call level) P → IfSome (gained call level) P
gained-asked P InputRead level h = h
gained-asked P UpdateRead level h = h
gained-asked P Update level h = h
gained-asked P Delete level h = h
gained-asked P Write level h = h
gained-asked P WriteAt None h = tt
gained-asked P WriteAt (Some Chg) h = h
gained-asked P WriteAt (Some Cs) h = h
gained-asked P WriteAt (Some All) h = h
gained-asked P Unlock level h = h
gained-asked P Position level h = h
gained-asked P Close level h = h
gained-asked P Commit level h = h
gained-asked P Rollback level h = h
gained-asked P EndCommitment level h = h
gained-asked P EndJob level h = h
