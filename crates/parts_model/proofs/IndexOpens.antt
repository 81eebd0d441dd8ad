-- The kept paths are those of a library still, when opens change in what doesn't tell how they read, come or go, and when jobs begin.
use Rattle.std.proofs.Common.{ℕ, zero, suc, ◌+◌, ◌≡◌, ◌==◌, if◌then◌else◌, true, false, cond, not, List, [], ◌∷◌, ◌++◌, length, map, Option, Some, None, Result, Ok, Err, OnOk, OnErr, refl}
use Rattle.std.proofs.Common.{sym, ap, arith, ◌∙◌, subst}
use Rattle.std.specs.Prelude.{filter}
use Rattle.std.specs.List.{AllZip}
use Rattle.std.proofs.lemmas.List.{map-append}
use Rattle.std.proofs.lemmas.List.Sums.{sum_by_push}
use Rattle.commit_level.specs.declared.Level.{Level}
use Rattle.file_model.specs.Joins.{RowPlace}
use Rattle.file_model.specs.Paths.{PathEntry}
use Rattle.file_model.specs.Positions.{Position}
use Rattle.journal_model.specs.Rollback.{MemberChange}
use Rattle.lock_table.specs.declared.levels.Call.{Call}
use Rattle.member_slots.specs.Members.{NumberedMembers}
use Rattle.path_set.specs.declared.moves.PathMove.{PathMove}
use Rattle.path_set.specs.KeptPaths.{KeptPaths, NumberedPaths}
use Rattle.file_model.specs.declared.paths.PathSpec.{PathSpec}
use Rattle.path_set.specs.MemberSteps.{is_over}
use Rattle.job_table.specs.Opens.{OpenOrder, SameOpen}
use Rattle.job_table.specs.Table.{JobTable, changed_at}
use Rattle.library_model.specs.declared.requests.OpenFile.{OpenFile}
use Rattle.library_model.specs.Named.{Named, named, same_name}
use Rattle.library_steps.specs.ChangeRecord.{without_current, without_record, is_current}
use Rattle.library_steps.specs.Commitment.{with_level}
use Rattle.library_steps.specs.LogicalFiles.{bases_in}
use Rattle.library_steps.specs.Opens.{new_open, with_open, without_open}
use Rattle.library_steps.specs.Records.{is_file_path}
use Rattle.library_steps.specs.Reads.{open_changed, positioned, has_read, entry_found, row_found}
use Rattle.library_steps.specs.State.{FileState, OpenState, JobState, job_changed, with_opens, new_job}
use Rattle.library_steps.specs.Uses.{changes_in}
use Rattle.parts_model.specs.Indexed.{IsReadSo, ReadsBy, ReadsFile, ReadsIn, OpensRead, moves_back, moves_of_job, changes_over, path_read, IsIndexed, ReadsRowsBy}
use Rattle.parts_model.proofs.IndexPaths.{counted_in, changes_over-cons, spares-fewer}
use Rattle.library_steps.below.dds_logical.specs.declared.join_views.JoinView.{JoinView}

-- ---- opens that read as they did

-- it is of the same file and members, and by the same kind of access path
pub record SameReads (opened other : OpenState) : Type 0 where
  pub file : other.file ≡ opened.file
  pub members : other.members ≡ opened.members
  pub access_path : other.access_path ≡ opened.access_path

-- each of a job's opens does, and the changes of its commit cycle stay
pub record IsSameJob (job other : JobState) : Type 0 where
  pub opens : AllZip (λ (entry another : List ℕ × OpenState). SameReads entry.1 another.1) job.opens other.opens
  pub changes : changes_in other.cycle ≡ changes_in job.cycle

pub reads-alike : (files : Named FileState) (paths : NumberedPaths) (opened other : OpenState) (order : OpenOrder) → SameReads opened other → ReadsFile (bases_in files) paths opened order (named opened.file files)
    → ReadsFile (bases_in files) paths other order (named other.file files)
reads-alike files paths opened other order same reads =
    subst (λ (n : List ℕ). ReadsFile (bases_in files) paths other order (named n files)) (sym same.file) (by (named opened.file files) reads)
  where
    by : (o : Option FileState) → ReadsFile (bases_in files) paths opened order o → ReadsFile (bases_in files) paths other order o
    by None h = h
    by (Some file) h =
        subst (λ (o : OpenState). ReadsBy paths (path_read (bases_in files) file o) order × IsReadSo (is_file_path o.access_path) file.spec × ReadsRowsBy (bases_in files) paths file.spec order.join)
        (λ i. record opened { members = sym same.members i; access_path = sym same.access_path i })
        h

pub opens-alike : (files : Named FileState) (paths : NumberedPaths) (opens others : Named OpenState) (orders : Named OpenOrder)
    → AllZip (λ (entry another : List ℕ × OpenState). SameReads entry.1 another.1) opens others → AllZip (ReadsIn files paths) opens orders → AllZip (ReadsIn files paths) others orders
opens-alike files paths [] [] orders same reads = reads
opens-alike files paths [] (other ∷ others) orders same reads = absurd same
opens-alike files paths (entry ∷ opens) [] orders same reads = absurd same
opens-alike files paths (entry ∷ opens) (other ∷ others) [] same reads = absurd reads
opens-alike files paths (entry ∷ opens) (other ∷ others) (order ∷ orders) same reads =
    (reads-alike files paths entry.1 other.1 order.1 same.0 reads.0, opens-alike files paths opens others orders same.1 reads.1)

jobs-alike : (files : Named FileState) (paths : NumberedPaths) (jobs others : List JobState) (orders : List (Named OpenOrder)) → AllZip IsSameJob jobs others
    → AllZip (OpensRead files paths) jobs orders
    → AllZip (OpensRead files paths) others orders
jobs-alike files paths [] [] orders same reads = reads
jobs-alike files paths [] (other ∷ others) orders same reads = absurd same
jobs-alike files paths (job ∷ jobs) [] orders same reads = absurd same
jobs-alike files paths (job ∷ jobs) (other ∷ others) [] same reads = absurd reads
jobs-alike files paths (job ∷ jobs) (other ∷ others) (its ∷ orders) same reads =
    (opens-alike files paths job.opens other.opens its same.0.opens reads.0, jobs-alike files paths jobs others orders same.1 reads.1)

moves-alike : (paths : NumberedPaths) (jobs others : List JobState) → AllZip IsSameJob jobs others → map (moves_of_job paths) others ≡ map (moves_of_job paths) jobs
moves-alike paths [] [] same = refl
moves-alike paths [] (other ∷ others) same = absurd same
moves-alike paths (job ∷ jobs) [] same = absurd same
moves-alike paths (job ∷ jobs) (other ∷ others) same = λ i. map (moves_back paths) (same.0.changes i) ∷ moves-alike paths jobs others same.1 i

counts-alike : (spec : PathSpec) (jobs others : List JobState) → AllZip IsSameJob jobs others → changes_over spec others ≡ changes_over spec jobs
counts-alike spec [] [] same = refl
counts-alike spec [] (other ∷ others) same = absurd same
counts-alike spec (job ∷ jobs) [] same = absurd same
counts-alike spec (job ∷ jobs) (other ∷ others) same =
    let before = changes_over-cons spec job jobs in
    let after = changes_over-cons spec other others in
    let rest = counts-alike spec jobs others same.1 in
    let first : counted_in spec other ≡ counted_in spec job = ap (λ (undos : List MemberChange). length (filter (λ (undo : MemberChange). is_over undo.member spec) undos)) same.0.changes in
    omega (arith, before, after, rest, first)

pub IsIndexed-jobs : (files : Named FileState) (members : NumberedMembers) (jobs others : List JobState) (orders : List (Named OpenOrder)) (moves : List (List (List PathMove))) (kept : KeptPaths)
    → AllZip IsSameJob jobs others → IsIndexed files members jobs orders moves kept → IsIndexed files members others orders moves kept
IsIndexed-jobs files members jobs others orders moves kept same indexed = record {
  paths = indexed.paths;
  orders = jobs-alike files kept.paths jobs others orders same indexed.orders;
  moves = indexed.moves ∙ sym (moves-alike kept.paths jobs others same);
  room = spares-fewer (λ spec. changes_over spec others) (λ spec. changes_over spec jobs) kept (λ spec. let e = counts-alike spec jobs others same in omega (arith, e)) indexed.room;
  bytes = indexed.bytes;
  views = indexed.views;
}

pub same-open : (opened : OpenState) → SameReads opened opened
same-open opened = record { file = refl; members = refl; access_path = refl }

pub same-opens : (opens : Named OpenState) → AllZip (λ (entry another : List ℕ × OpenState). SameReads entry.1 another.1) opens opens
same-opens [] = tt
same-opens (entry ∷ opens) = (same-open entry.1, same-opens opens)

pub same-job : (job : JobState) → IsSameJob job job
same-job job = record { opens = same-opens job.opens; changes = refl }

same-jobs : (jobs : List JobState) → AllZip IsSameJob jobs jobs
same-jobs [] = tt
same-jobs (job ∷ jobs) = (same-job job, same-jobs jobs)

same-changed : (place : ℕ) (change : JobState → JobState) (jobs : List JobState) → ((job : JobState) → IsSameJob job (change job)) → AllZip IsSameJob jobs (job_changed place change jobs)
same-changed place change [] each = tt
same-changed zero change (job ∷ jobs) each = (each job, same-jobs jobs)
same-changed (suc place) change (job ∷ jobs) each = (same-job job, same-changed place change jobs each)

pub opens-mapped : (change : OpenState → OpenState) (opens : Named OpenState) → ((opened : OpenState) → SameReads opened (change opened))
    → AllZip (λ (entry another : List ℕ × OpenState). SameReads entry.1 another.1) opens (map (λ entry. (entry.0, change entry.1)) opens)
opens-mapped change [] each = tt
opens-mapped change (entry ∷ opens) each = (each entry.1, opens-mapped change opens each)

-- the opens of a job changed, and nothing else of it
pub with_opens-same : (change : OpenState → OpenState) (job : JobState) → ((opened : OpenState) → SameReads opened (change opened)) → IsSameJob job (with_opens change job)
with_opens-same change job each = record { opens = opens-mapped change job.opens each; changes = refl }

-- ---- one job changed

module _ (files : Named FileState) (members : NumberedMembers) (jobs : List JobState) (orders : List (Named OpenOrder)) (moves : List (List (List PathMove))) (kept : KeptPaths) where
  pub IsIndexed-job : (place : ℕ) (change : JobState → JobState) → ((job : JobState) → IsSameJob job (change job)) → IsIndexed files members jobs orders moves kept
      → IsIndexed files members (job_changed place change jobs) orders moves kept
  IsIndexed-job place change each = IsIndexed-jobs files members jobs (job_changed place change jobs) orders moves kept (same-changed place change jobs each)

  pub IsIndexed-with_opens : (place : ℕ) (change : OpenState → OpenState) → ((opened : OpenState) → SameReads opened (change opened)) → IsIndexed files members jobs orders moves kept
      → IsIndexed files members (job_changed place (with_opens change) jobs) orders moves kept
  IsIndexed-with_opens place change each = IsIndexed-job place (with_opens change) (λ job. with_opens-same change job each)

  pub IsIndexed-open_changed : (place number : ℕ) (change : OpenState → OpenState) → ((opened : OpenState) → SameReads opened (change opened)) → IsIndexed files members jobs orders moves kept
      → IsIndexed files members (job_changed place (open_changed number change) jobs) orders moves kept
  IsIndexed-open_changed place number change each =
      IsIndexed-with_opens place (λ opened. if opened.number == number then change opened else opened)
      (λ opened. elim (opened.number == number) as (λ b. SameReads opened (if b then change opened else opened)) [
        | true ↦ each opened
        | false ↦ same-open opened
      ])

  pub IsIndexed-positioned : (place number : ℕ) (view : Option JoinView) (position : Position PathEntry) → IsIndexed files members jobs orders moves kept
      → IsIndexed files members (job_changed place (open_changed number (positioned view position)) jobs) orders moves kept
  IsIndexed-positioned place number view position = IsIndexed-open_changed place number (positioned view position) (same view)
    where
      same : (o : Option JoinView) (opened : OpenState) → SameReads opened (positioned o position opened)
      same None opened = record { file = refl; members = refl; access_path = refl }
      same (Some join) opened = record { file = refl; members = refl; access_path = refl }

  pub IsIndexed-has_read : (place number : ℕ) (call : Call) (entry : PathEntry) → IsIndexed files members jobs orders moves kept
      → IsIndexed files members (job_changed place (open_changed number (has_read call (entry_found entry))) jobs) orders moves kept
  IsIndexed-has_read place number call entry =
      IsIndexed-open_changed place number (has_read call (entry_found entry)) (λ opened. record { file = refl; members = refl; access_path = refl })

  pub IsIndexed-row_read : (place number : ℕ) (call : Call) (at : RowPlace) → IsIndexed files members jobs orders moves kept
      → IsIndexed files members (job_changed place (open_changed number (has_read call (row_found at))) jobs) orders moves kept
  IsIndexed-row_read place number call at =
      IsIndexed-open_changed place number (has_read call (row_found at)) (λ opened. record { file = refl; members = refl; access_path = refl })

  pub IsIndexed-without_current : (place number : ℕ) → IsIndexed files members jobs orders moves kept
      → IsIndexed files members (job_changed place (open_changed number without_current) jobs) orders moves kept
  IsIndexed-without_current place number = IsIndexed-open_changed place number without_current (λ opened. record { file = refl; members = refl; access_path = refl })

  pub IsIndexed-without_record : (place member rrn : ℕ) → IsIndexed files members jobs orders moves kept
      → IsIndexed files members (job_changed place (with_opens (without_record member rrn)) jobs) orders moves kept
  IsIndexed-without_record place member rrn =
      IsIndexed-with_opens place (without_record member rrn)
      (λ opened. elim (is_current member rrn opened) as (λ b. SameReads opened (if b then without_current opened else opened)) [
        | true ↦ record { file = refl; members = refl; access_path = refl }
        | false ↦ same-open opened
      ])

  pub IsIndexed-with_level : (place : ℕ) (level : Option Level) → IsIndexed files members jobs orders moves kept
      → IsIndexed files members (job_changed place (with_level level) jobs) orders moves kept
  IsIndexed-with_level place level = IsIndexed-job place (with_level level) (λ job. record { opens = same-opens job.opens; changes = refl })

-- ---- an open more, and an open less

pub zip-changed : {B : Type 0} (R : JobState → B → Type 0) (place : ℕ) (change : JobState → JobState) (other : B → B) (jobs : List JobState) (things : List B)
    → ((job : JobState) (thing : B) → R job thing → R (change job) (other thing)) → AllZip R jobs things → AllZip R (job_changed place change jobs) (changed_at place other things)
zip-changed R place change other [] [] each all = tt
zip-changed R place change other [] (thing ∷ things) each all = absurd all
zip-changed R place change other (job ∷ jobs) [] each all = absurd all
zip-changed R zero change other (job ∷ jobs) (thing ∷ things) each all = (each job thing all.0, all.1)
zip-changed R (suc place) change other (job ∷ jobs) (thing ∷ things) each all = (all.0, zip-changed R place change other jobs things each all.1)

pub zip-push : {A B : Type 0} (R : A → B → Type 0) (xs : List A) (ys : List B) (x : A) (y : B) → AllZip R xs ys → R x y → AllZip R (xs ++ x ∷ []) (ys ++ y ∷ [])
zip-push R [] [] x y all one = (one, tt)
zip-push R [] (b ∷ ys) x y all one = absurd all
zip-push R (a ∷ xs) [] x y all one = absurd all
zip-push R (a ∷ xs) (b ∷ ys) x y all one = (all.0, zip-push R xs ys x y all.1 one)

-- a change of the job at a place that leaves the changes of its commit cycle
moves-kept : (paths : NumberedPaths) (place : ℕ) (change : JobState → JobState) (jobs : List JobState) → ((job : JobState) → changes_in (change job).cycle ≡ changes_in job.cycle)
    → map (moves_of_job paths) (job_changed place change jobs) ≡ map (moves_of_job paths) jobs
moves-kept paths place change [] same = refl
moves-kept paths zero change (job ∷ jobs) same = λ i. map (moves_back paths) (same job i) ∷ map (moves_of_job paths) jobs
moves-kept paths (suc place) change (job ∷ jobs) same = ap (λ (w : List (List (List PathMove))). moves_of_job paths job ∷ w) (moves-kept paths place change jobs same)

counts-kept : (spec : PathSpec) (place : ℕ) (change : JobState → JobState) (jobs : List JobState) → ((job : JobState) → changes_in (change job).cycle ≡ changes_in job.cycle)
    → changes_over spec (job_changed place change jobs) ≡ changes_over spec jobs
counts-kept spec place change [] same = refl
counts-kept spec zero change (job ∷ jobs) same =
    let before = changes_over-cons spec job jobs in
    let after = changes_over-cons spec (change job) jobs in
    let first : counted_in spec (change job) ≡ counted_in spec job = ap (λ (undos : List MemberChange). length (filter (λ (undo : MemberChange). is_over undo.member spec) undos)) (same job) in
    omega (arith, before, after, first)
counts-kept spec (suc place) change (job ∷ jobs) same =
    let before = changes_over-cons spec job jobs in
    let after = changes_over-cons spec job (job_changed place change jobs) in
    let rest = counts-kept spec place change jobs same in
    omega (arith, before, after, rest)

module _ (files : Named FileState) (members : NumberedMembers) (jobs : List JobState) (orders : List (Named OpenOrder)) (moves : List (List (List PathMove))) (kept : KeptPaths) where
  IsIndexed-order : (place : ℕ) (change : JobState → JobState) (other : Named OpenOrder → Named OpenOrder) → ((job : JobState) → changes_in (change job).cycle ≡ changes_in job.cycle)
      → AllZip (OpensRead files kept.paths) (job_changed place change jobs) (changed_at place other orders) → IsIndexed files members jobs orders moves kept
      → IsIndexed files members (job_changed place change jobs) (changed_at place other orders) moves kept
  IsIndexed-order place change other same reads indexed = record {
    paths = indexed.paths;
    orders = reads;
    moves = indexed.moves ∙ sym (moves-kept kept.paths place change jobs same);
    room = spares-fewer (λ spec. changes_over spec (job_changed place change jobs)) (λ spec. changes_over spec jobs) kept
        (λ spec. let e = counts-kept spec place change jobs same in omega (arith, e)) indexed.room;
    bytes = indexed.bytes;
    views = indexed.views;
  }

  -- an open more, of members of a file
  pub IsIndexed-with_open : (place : ℕ) (args : OpenFile) (numbers : List ℕ) (order : OpenOrder) → ReadsFile (bases_in files) kept.paths (new_open args 0 numbers) order (named args.file files)
      → IsIndexed files members jobs orders moves kept
      → IsIndexed files members (job_changed place (with_open args numbers) jobs) (changed_at place (λ its. its ++ (args.open_id, order) ∷ []) orders) moves kept
  IsIndexed-with_open place args numbers order reads indexed =
      IsIndexed-order place (with_open args numbers) (λ its. its ++ (args.open_id, order) ∷ []) (λ job. refl)
      (zip-changed (OpensRead files kept.paths) place (with_open args numbers) (λ its. its ++ (args.open_id, order) ∷ []) jobs orders
      (λ job its all. zip-push (ReadsIn files kept.paths) job.opens its (args.open_id, new_open args (job.opened + 1) numbers) (args.open_id, order) all
      (reads-alike files kept.paths (new_open args 0 numbers) (new_open args (job.opened + 1) numbers) order (record { file = refl; members = refl; access_path = refl }) reads))
      indexed.orders) indexed

  -- the opens of a name less, where opens and orders have the same names
  pub IsIndexed-without_open : (place : ℕ) (name : List ℕ) → AllZip (λ (job : JobState) (its : Named OpenOrder). AllZip SameOpen job.opens its) jobs orders
      → IsIndexed files members jobs orders moves kept
      → IsIndexed files members (job_changed place (without_open name) jobs) (changed_at place (λ its. filter (λ entry. not (same_name name entry.0)) its) orders) moves kept
  IsIndexed-without_open place name ordered indexed =
      IsIndexed-order place (without_open name) (λ its. filter (λ (entry : List ℕ × OpenOrder). not (same_name name entry.0)) its) (λ job. refl)
      (go place jobs orders ordered indexed.orders) indexed
    where
      less : (opens : Named OpenState) (its : Named OpenOrder) → AllZip SameOpen opens its → AllZip (ReadsIn files kept.paths) opens its
          → AllZip (ReadsIn files kept.paths) (filter (λ (entry : List ℕ × OpenState). not (same_name name entry.0)) opens) (filter (λ (entry : List ℕ × OpenOrder). not (same_name name entry.0)) its)
      less [] [] same reads = tt
      less [] (order ∷ its) same reads = absurd same
      less (entry ∷ opens) [] same reads = absurd same
      less (entry ∷ opens) (order ∷ its) same reads =
          subst (λ (n : List ℕ). AllZip (ReadsIn files kept.paths) (cond (not (same_name name entry.0)) (entry ∷ filter (λ (e : List ℕ × OpenState). not (same_name name e.0)) opens)
          (filter (λ (e : List ℕ × OpenState). not (same_name name e.0)) opens))
          (cond (not (same_name name n)) (order ∷ filter (λ (e : List ℕ × OpenOrder). not (same_name name e.0)) its) (filter (λ (e : List ℕ × OpenOrder). not (same_name name e.0)) its)))
          same.0.0
          (elim (not (same_name name entry.0)) as (λ b. AllZip (ReadsIn files kept.paths) (cond b (entry ∷ filter (λ (e : List ℕ × OpenState). not (same_name name e.0)) opens)
          (filter (λ (e : List ℕ × OpenState). not (same_name name e.0)) opens))
          (cond b (order ∷ filter (λ (e : List ℕ × OpenOrder). not (same_name name e.0)) its) (filter (λ (e : List ℕ × OpenOrder). not (same_name name e.0)) its))) [
            | true ↦ (reads.0, less opens its same.1 reads.1)
            | false ↦ less opens its same.1 reads.1
          ])

      go : (at : ℕ) (js : List JobState) (os : List (Named OpenOrder)) → AllZip (λ (job : JobState) (its : Named OpenOrder). AllZip SameOpen job.opens its) js os
          → AllZip (OpensRead files kept.paths) js os
          → AllZip (OpensRead files kept.paths) (job_changed at (without_open name) js) (changed_at at (λ its. filter (λ (entry : List ℕ × OpenOrder). not (same_name name entry.0)) its) os)
      go at [] [] same reads = tt
      go at [] (its ∷ os) same reads = absurd same
      go at (job ∷ js) [] same reads = absurd same
      go zero (job ∷ js) (its ∷ os) same reads = (less job.opens its same.0 reads.0, reads.1)
      go (suc at) (job ∷ js) (its ∷ os) same reads = (reads.0, go at js os same.1 reads.1)

  -- ---- a job more

  pub IsIndexed-new_job : (name : List ℕ) → IsIndexed files members jobs orders moves kept → IsIndexed files members (jobs ++ new_job name ∷ []) (orders ++ [] ∷ []) (moves ++ [] ∷ []) kept
  IsIndexed-new_job name indexed = record {
    paths = indexed.paths;
    orders = zip-push (OpensRead files kept.paths) jobs orders (new_job name) [] indexed.orders tt;
    moves = ap (λ (w : List (List (List PathMove))). w ++ [] ∷ []) indexed.moves ∙ sym (map-append (moves_of_job kept.paths) jobs (new_job name ∷ []));
    room = spares-fewer (λ spec. changes_over spec (jobs ++ new_job name ∷ [])) (λ spec. changes_over spec jobs) kept
        (λ spec. let e = sum_by_push (counted_in spec) jobs (new_job name) in omega (arith, e)) indexed.room;
    bytes = indexed.bytes;
    views = indexed.views;
  }

-- the jobs after one has begun, or after it hasn't
pub IsIndexed-begun : (files : Named FileState) (members : NumberedMembers) (old new : JobTable) (kept : KeptPaths) (name : List ℕ) {A E : Type 0} (result : Result A E)
    → IsIndexed files members old.jobs old.orders old.moves kept → OnOk result (new.jobs ≡ old.jobs ++ new_job name ∷ [])
    → OnOk result ((new.orders ≡ old.orders ++ [] ∷ []) × (new.moves ≡ old.moves ++ [] ∷ [])) → OnErr result (new ≡ old)
    → IsIndexed files members new.jobs new.orders new.moves kept
IsIndexed-begun files members old new kept name (Ok n) indexed begun behind same =
    rw (begun, behind.0, behind.1) (IsIndexed-new_job files members old.jobs old.orders old.moves kept name indexed)
IsIndexed-begun files members old new kept name (Err e) indexed begun behind same =
    subst (λ (t : JobTable). IsIndexed files members t.jobs t.orders t.moves kept) (sym same) indexed
