-- The requests that open, close and use an open, and change no record: OPNDBF, CLOF, SETLL, SETGT, the reads, and UNLOCK.
use Rattle.std.proofs.Common.{◌≡◌, inl, inr, ℕ, ◌-◌, ◌||◌, not, nat_le, Bool, true, false, List, length, Option, Some, None, Result, IfSome, is_some, refl, sym, ◌∙◌, ap}
use Rattle.std.specs.List.{AllByRecursion}
use Rattle.std.specs.Option.{is_none, option_and_then}
use Rattle.commit_level.specs.declared.Level.{Level}
use Rattle.commit_level.specs.declared.Level.TheVariants as levels
use Rattle.lock_table.specs.declared.levels.Call.{Call}
use Rattle.lock_table.specs.declared.levels.Call.TheVariants.{InputRead, UpdateRead, Update, Delete, Write, WriteAt, Unlock, Position as PositionCall, Close, Commit, Rollback, EndCommitment, EndJob}
use Rattle.lock_table.specs.Levels.{asked}
use Rattle.lock_table.specs.Table.{blocker}
use Rattle.dds_logical.specs.declared.join_views.JoinView.{JoinView}
use Rattle.file_model.specs.KeyOrder.{KeyValue}
use Rattle.file_model.specs.Joins.{RowPlace}
use Rattle.file_model.specs.Paths.{PathEntry}
use Rattle.file_model.specs.Positions.{Bound, Position, Reading, Before, Past, next_from, prior_from, next_equal, prior_equal, chain_key, chain_number}
use Rattle.logical_model.specs.Bases.{FileSpec, PhysicalFile, LogicalFile, base_members}
use Rattle.logical_model.specs.Readings.{join_in}
use Rattle.library_model.specs.Named.{named, same_name}
use Rattle.library_model.specs.declared.replies.Missing.TheVariants.{Name}
use Rattle.library_model.specs.declared.limits.TheConstants.{MOST_OPENS}
use Rattle.library_model.specs.declared.replies.Reply.{Reply}
use Rattle.library_model.specs.declared.replies.Reply.TheVariants as replies
use Rattle.library_model.specs.declared.replies.LimitKind.TheVariants as limits
use Rattle.library_model.specs.declared.requests.ChainRecord.{ChainRecord}
use Rattle.library_model.specs.declared.requests.ChainTo.{ChainTo}
use Rattle.library_model.specs.declared.requests.ChainTo.TheVariants.{Key, RecordNumber}
use Rattle.library_model.specs.declared.requests.LockOption.{LockOption}
use Rattle.library_model.specs.declared.requests.LockOption.TheVariants.{Default, No}
use Rattle.library_model.specs.declared.requests.OpenFile.{OpenFile}
use Rattle.library_model.specs.declared.requests.OpenName.{OpenName}
use Rattle.library_model.specs.declared.requests.OpenOption.{OpenOption}
use Rattle.library_model.specs.declared.requests.OpenOption.TheVariants.{Input, All}
use Rattle.library_model.specs.declared.requests.ReadEqual.{ReadEqual}
use Rattle.library_model.specs.declared.requests.ReadRecord.{ReadRecord}
use Rattle.library_model.specs.declared.requests.SetPosition.{SetPosition}
use Rattle.library_steps.specs.State.{Memory, MemberStatus, FileState, OpenState, JobState, job_of, job_changed, open_named, file_named}
use Rattle.library_steps.specs.LogicalFiles.{bases_of}
use Rattle.library_steps.specs.Change.{does}
use Rattle.library_steps.specs.Refusals.{◌>>=◌, found, refuse_if, refuse_with, named_or_refused, OpenedFile, opened_file}
use Rattle.library_steps.specs.Locking.{level_of, record_of, locks_left, clashing, few_locks, not_locked}
use Rattle.library_steps.specs.Records.{key_asked, number_asked}
use Rattle.library_steps.specs.Opens.{first_unjournaled, may_commit, may_commit_all, may_not, members_by, open_plan, open_file, close_file}
use Rattle.library_steps.specs.Reads.{at_format, open_changed, bound_asked, position_plan, position_change, positioned, set_lower_limit, set_greater_than, default_read, read_call, Found, FoundEntry, find_in, if_lockable, current_after, has_read, stands_on, read_change, read_plan, read, read_prior, read_equal_plan, read_equal, read_prior_equal, chained, chain_plan, chain}
use Rattle.library_steps.specs.ChangeRecord.{has_open_lock, has_boundary_lock, without_current, unlock_plan, unlock_change, unlock}
use Rattle.joint_state.specs.Lawful.{OpensHold}
use Rattle.joint_state.specs.Calls.{IsRead, AsksNone}
use Rattle.locks_kept.proofs.AroundEffects.{Leaves}
use Rattle.locks_kept.proofs.Effects.{IsAlike, IsSameOpen, alike, Opening, Closing, Use}
use Rattle.locks_kept.proofs.FoundLemmas.{next_from-holds, prior_from-holds, next_equal-holds, prior_equal-holds, chain_key-holds, chain_number-holds}
use Rattle.locks_kept.proofs.OpenedMembers.{FitsOpen, FindsEntry, FindsRow, IsOpenedFile, Opens, find_in-fits, opens-of}
use Rattle.locks_kept.proofs.RefusalLemmas.{Holds, each-holds, found-holds, refuse_if-holds, refuse_with-holds, then-holds, bind-holds, does-holds, wider-holds}
use Rattle.locks_kept.proofs.OptionLemmas.{nothing-there}

-- ---- OPNDBF and CLOF

may_commit-started : (commit : Bool) (status : MemberStatus) (job : JobState) → Holds (may_commit commit status job) (λ passed. commit ≡ true → is_some job.level ≡ true)
may_commit-started false status job = record { holds = λ e. absurd cc }
may_commit-started true status job =
    bind-holds (found job.level replies.NoDefinition) (λ level. job.level ≡ Some level) _ _ (found-holds job.level replies.NoDefinition) (λ level is.
    each-holds (refuse_if (is_none status.images) (replies.NotJournaled status.number)) _ (λ passed e. ap is_some is))

may_commit_all-started : (commit : Bool) (members : List ℕ) (job : JobState) (m : Memory) → Holds (may_commit_all commit members job m) (λ passed. commit ≡ true → is_some job.level ≡ true)
may_commit_all-started false members job m = record { holds = λ e. absurd cc }
may_commit_all-started true members job m =
    bind-holds (found job.level replies.NoDefinition) (λ level. job.level ≡ Some level) _ _ (found-holds job.level replies.NoDefinition) (λ level is.
    each-holds (refuse_with replies.NotJournaled (first_unjournaled members m)) _ (λ passed e. ap is_some is))

abbrev pub IsUnderLevel : Memory → ℕ → OpenFile → Type 0
IsUnderLevel m job args = args.commit ≡ true → is_some (job_of job m).level ≡ true

-- whatever the file is
members_by-started : (m : Memory) (job : ℕ) (args : OpenFile) (file : FileState) (spec : FileSpec) → Holds (members_by spec m job args file) (λ members. IsUnderLevel m job args)
members_by-started m job args file (PhysicalFile spec) =
    then-holds (named_or_refused args.member (named args.member file.members)) _ (λ members. IsUnderLevel m job args) (λ status.
    bind-holds (may_commit args.commit status (job_of job m)) (λ passed. IsUnderLevel m job args) _ (λ members. IsUnderLevel m job args)
    (may_commit-started args.commit status (job_of job m)) (λ may control. record { holds = control }))
members_by-started m job args file (LogicalFile spec) =
    then-holds (refuse_if (not (same_name args.member args.file)) (replies.NoSuchName (Name args.member))) _ (λ members. IsUnderLevel m job args) (λ own.
    then-holds (refuse_if (may_not spec args) replies.WrongOpen) _ (λ members. IsUnderLevel m job args) (λ may.
    bind-holds (may_commit_all args.commit (base_members (bases_of m) spec) (job_of job m) m) (λ passed. IsUnderLevel m job args) _ (λ members. IsUnderLevel m job args)
    (may_commit_all-started args.commit (base_members (bases_of m) spec) (job_of job m) m) (λ passed control. record { holds = control })))

pub record MayOpen (m : Memory) (job : ℕ) (args : OpenFile) : Type 0 where
  pub fresh : open_named args.open_id job m ≡ None
  pub control : IsUnderLevel m job args

open_plan-known : (m : Memory) (job : ℕ) (args : OpenFile) → Holds (open_plan m job args) (λ members. MayOpen m job args)
unfolding open_plan
open_plan-known m job args =
    bind-holds (refuse_if (is_some (open_named args.open_id job m)) (replies.NameExists args.open_id)) _ _ _ (refuse_if-holds _ _) (λ passed fresh.
    then-holds (refuse_if (nat_le MOST_OPENS (length (job_of job m).opens)) (replies.LimitReached limits.Opens MOST_OPENS)) _ _ (λ few.
    then-holds (named_or_refused args.file (file_named args.file m)) _ _ (λ file.
    wider-holds (members_by file.spec m job args file) (λ members. IsUnderLevel m job args) (λ members. MayOpen m job args)
    (λ members control. record { fresh = nothing-there (open_named args.open_id job m) fresh; control = control }) (members_by-started m job args file file.spec))))

pub open_file-effect : (m : Memory) (job : ℕ) (args : OpenFile) → Holds (open_file m job args) (Leaves m job)
open_file-effect m job args =
    does-holds _ (open_plan m job args) (Leaves m job) (wider-holds (open_plan m job args) (λ members. MayOpen m job args) _ (λ members may.
    Opening (record { args = args; over = members; jobs = refl; locks = refl; members = refl; fresh = may.fresh; control = may.control })) (open_plan-known m job args))

pub close_file-effect : (m : Memory) (job : ℕ) (args : OpenName) → Holds (close_file m job args) (Leaves m job)
close_file-effect m job args =
    does-holds _ (named_or_refused args.open_id (open_named args.open_id job m)) (Leaves m job) (wider-holds _ (λ opened. open_named args.open_id job m ≡ Some opened) _ (λ opened is.
    Closing (record { name = args.open_id; opened = opened; named = is; jobs = refl; locks = refl; members = refl })) (found-holds _ _))

-- ---- an open that is named

opened_file-named : (name : List ℕ) (job : ℕ) (m : Memory) → Holds (opened_file name job m) (IsOpenedFile m job name)
opened_file-named name job m =
    bind-holds (named_or_refused name (open_named name job m)) (λ opened. open_named name job m ≡ Some opened) _ (IsOpenedFile m job name) (found-holds _ _) (λ opened is.
    bind-holds (named_or_refused opened.file (file_named opened.file m)) (λ file. file_named opened.file m ≡ Some file) _ (IsOpenedFile m job name) (found-holds _ _) (λ file there.
    record { holds = record { named = is; file = there } }))

pub opened-file-then : {B : Type 0} (name : List ℕ) (job : ℕ) (m : Memory) (next : OpenedFile → Result B Reply) (P : B → Type 0)
    → ((its : OpenedFile) → IsOpenedFile m job name its → Holds (next its) P) → Holds (opened_file name job m >>= next) P
opened-file-then name job m next P rest = bind-holds (opened_file name job m) (IsOpenedFile m job name) next P (opened_file-named name job m) rest

pub opened-then : {B : Type 0} (name : List ℕ) (job : ℕ) (m : Memory) (next : OpenedFile → Result B Reply) (P : B → Type 0)
    → ((its : OpenedFile) → open_named name job m ≡ Some its.opened → Holds (next its) P) → Holds (opened_file name job m >>= next) P
opened-then name job m next P rest = opened-file-then name job m next P (λ its is. rest its is.named)

-- a call that asks for no lock meets none
pub asks-nothing : (call : Call) (level : Option Level) → AsksNone call → asked call level ≡ None
asks-nothing InputRead level none = absurd none
asks-nothing UpdateRead level none = absurd none
asks-nothing Update level none = absurd none
asks-nothing Delete level none = absurd none
asks-nothing Write level none = absurd none
asks-nothing WriteAt level none = absurd none
asks-nothing Unlock None none = refl
asks-nothing Unlock (Some levels.Chg) none = refl
asks-nothing Unlock (Some levels.Cs) none = refl
asks-nothing Unlock (Some levels.All) none = refl
asks-nothing PositionCall None none = refl
asks-nothing PositionCall (Some levels.Chg) none = refl
asks-nothing PositionCall (Some levels.Cs) none = refl
asks-nothing PositionCall (Some levels.All) none = refl
asks-nothing Close None none = refl
asks-nothing Close (Some levels.Chg) none = refl
asks-nothing Close (Some levels.Cs) none = refl
asks-nothing Close (Some levels.All) none = refl
asks-nothing Commit level none = absurd none
asks-nothing Rollback level none = absurd none
asks-nothing EndCommitment level none = absurd none
asks-nothing EndJob level none = absurd none

pub clashes-none : (call : Call) (job : ℕ) (opened : OpenState) (rrn : ℕ) (m : Memory) → AsksNone call → clashing call job opened rrn m ≡ None
clashes-none call job opened rrn m none =
    ap (option_and_then (λ wanted. blocker job (record_of opened rrn) wanted.kind m.locks)) (asks-nothing call (level_of (job_of job m) opened) none)

-- ---- SETLL and SETGT

position_plan-named : (side : Bound → Position PathEntry) (m : Memory) (job : ℕ) (args : SetPosition)
    → Holds (position_plan side m job args) (λ new. open_named args.open_id job m ≡ Some new.its.opened)
unfolding position_plan
position_plan-named side m job args =
    opened-then args.open_id job m _ _ (λ its is.
    then-holds (bound_asked its side args.to) _ _ (λ position. record { holds = is }))

positioned-same : (join : Option JoinView) (position : Position PathEntry) (o : OpenState) → IsSameOpen (positioned join position o) o
positioned-same None position o = record { number = refl; member = refl; commit = refl }
positioned-same (Some view) position o = record { number = refl; member = refl; commit = refl }

position-effect : (side : Bound → Position PathEntry) (m : Memory) (job : ℕ) (args : SetPosition) → Holds (position_plan side m job args) (λ new. Leaves m job (position_change m job new))
position-effect side m job args =
    wider-holds (position_plan side m job args) (λ new. open_named args.open_id job m ≡ Some new.its.opened) _ (λ new is. Use (record {
      name = args.open_id;
      opened = new.its.opened;
      member = new.its.opened.member;
      call = PositionCall;
      rrn = 0;
      change = positioned (join_in new.its.file.spec) new.position;
      named = is;
      jobs = refl;
      locks = refl;
      members = refl;
      same = λ o. alike _ o (positioned-same (join_in new.its.file.spec) new.position o);
      of = inr (tt, λ o. (positioned-same (join_in new.its.file.spec) new.position o).member);
      free = clashes-none PositionCall job new.its.opened 0 m tt;
      current = λ o r e. absurd cc;
    })) (position_plan-named side m job args)

pub set_lower_limit-effect : (m : Memory) (job : ℕ) (args : SetPosition) → Holds (set_lower_limit m job args) (Leaves m job)
set_lower_limit-effect m job args = does-holds (position_change m job) (position_plan Before m job args) (Leaves m job) (position-effect Before m job args)

pub set_greater_than-effect : (m : Memory) (job : ℕ) (args : SetPosition) → Holds (set_greater_than m job args) (Leaves m job)
set_greater_than-effect m job args = does-holds (position_change m job) (position_plan Past m job args) (Leaves m job) (position-effect Past m job args)

-- ---- UNLOCK

unlock_plan-named : (m : Memory) (job : ℕ) (args : OpenName) → Holds (unlock_plan m job args) (λ it. open_named args.open_id job m ≡ Some it.opened)
unfolding unlock_plan
unlock_plan-named m job args =
    opened-then args.open_id job m _ _ (λ its is.
    then-holds (found its.opened.last_read replies.NoCurrentRecord) _ _ (λ rrn.
    then-holds (refuse_if (not (has_open_lock job its.opened rrn m || has_boundary_lock job its.opened rrn m)) replies.NoCurrentRecord) _ _ (λ locked.
    then-holds (refuse_if (has_boundary_lock job its.opened rrn m) replies.HeldToBoundary) _ _ (λ ends. record { holds = is }))))

pub unlock-effect : (m : Memory) (job : ℕ) (args : OpenName) → Holds (unlock m job args) (Leaves m job)
unlock-effect m job args =
    does-holds (unlock_change m job) (unlock_plan m job args) (Leaves m job)
    (wider-holds (unlock_plan m job args) (λ it. open_named args.open_id job m ≡ Some it.opened) _ (λ it is. Use (record {
      name = args.open_id;
      opened = it.opened;
      member = it.opened.member;
      call = Unlock;
      rrn = it.rrn;
      change = without_current;
      named = is;
      jobs = refl;
      locks = refl;
      members = refl;
      same = λ o. record { number = refl; commit = refl };
      of = inr (tt, λ o. refl);
      free = clashes-none Unlock job it.opened it.rrn m tt;
      current = λ o r e. absurd cc;
    })) (unlock_plan-named m job args))

-- ---- the reads

pub record IsFound (m : Memory) (job : ℕ) (name : List ℕ) (it : FoundEntry) : Type 0 where
  pub old : OpenState
  pub named : open_named name job m ≡ Some old
  pub moved : it.opened ≡ at_format it.found.entry.format old
  pub reads : IsRead it.call
  pub live : FitsOpen m old it.found.entry
  pub free : clashing it.call job it.opened it.found.entry.rrn m ≡ None

read_call-reads : (lock : LockOption) (opened : OpenState) → IsRead (read_call lock opened)
read_call-reads Default opened = by opened.option
  where
    by : (option : OpenOption) → IsRead (default_read option)
    by Input = tt
    by All = tt
read_call-reads No opened = tt

lockable-found : (job : ℕ) (m : Memory) (name : List ℕ) (its : OpenedFile) (lock : LockOption) (it : Found) → open_named name job m ≡ Some its.opened
    → FitsOpen m its.opened it.entry → Holds (if_lockable job m its lock it) (IsFound m job name)
lockable-found job m name its lock it is live =
    bind-holds (not_locked (read_call lock opened) job opened it.entry.rrn m) (λ passed. clashing (read_call lock opened) job opened it.entry.rrn m ≡ None) _ (IsFound m job name)
    (refuse_with-holds _ (clashing (read_call lock opened) job opened it.entry.rrn m)) (λ passed free.
    then-holds (few_locks (read_call lock opened) job opened it.entry.rrn m) _ (IsFound m job name) (λ few.
    record { holds = record { old = its.opened; named = is; moved = refl; reads = read_call-reads lock opened; live = live; free = free } }))
  where
    opened : OpenState
    opened = at_format it.entry.format its.opened

-- what is found is found
item-found : (P : Found → Type 0) (item : Option Found) (nothing : Reply) → IfSome item P → Holds (found item nothing) P
item-found P None nothing holds = record { holds = tt }
item-found P (Some it) nothing holds = record { holds = holds }

current-read : (call : Call) (rrn r : ℕ) → current_after call rrn ≡ Some r → (r ≡ rrn) × (call ≡ UpdateRead)
current-read InputRead rrn r e = absurd cc
current-read UpdateRead rrn r e = (cc, refl)
current-read Update rrn r e = absurd cc
current-read Delete rrn r e = absurd cc
current-read Write rrn r e = absurd cc
current-read WriteAt rrn r e = absurd cc
current-read Unlock rrn r e = absurd cc
current-read PositionCall rrn r e = absurd cc
current-read Close rrn r e = absurd cc
current-read Commit rrn r e = absurd cc
current-read Rollback rrn r e = absurd cc
current-read EndCommitment rrn r e = absurd cc
current-read EndJob rrn r e = absurd cc

stands-same : (entry : PathEntry) (row : Option RowPlace) (o : OpenState) → IsSameOpen (stands_on entry row o) o
stands-same entry None o = record { number = refl; member = refl; commit = refl }
stands-same entry (Some place) o = record { number = refl; member = refl; commit = refl }

read-alike : (call : Call) (it : Found) (o : OpenState) → IsAlike (has_read call it o) o
read-alike call it o = let same = stands-same it.entry it.row (at_format it.entry.format o) in record { number = same.number; commit = same.commit }

read-moves : (call : Call) (it : Found) (o : OpenState) → (has_read call it o).member ≡ (at_format it.entry.format o).member
read-moves call it o = (stands-same it.entry it.row (at_format it.entry.format o)).member

read-effect : (m : Memory) (job : ℕ) (name : List ℕ) (plan : Result FoundEntry Reply) → Holds plan (IsFound m job name) → Holds plan (λ it. Leaves m job (read_change m job it))
read-effect m job name plan found = wider-holds plan (IsFound m job name) _ (λ it is. Use (record {
  name = name;
  opened = is.old;
  member = (at_format it.found.entry.format is.old).member;
  call = it.call;
  rrn = it.found.entry.rrn;
  change = has_read it.call it.found;
  named = is.named;
  jobs = ap (λ (o : OpenState). job_changed (job - 1) (open_changed o.number (has_read it.call it.found)) m.jobs) is.moved;
  locks = ap (λ o. locks_left it.call job o it.found.entry.rrn m) is.moved;
  members = refl;
  same = λ o. read-alike it.call it.found o;
  of = inl (is.reads, is.live, read-moves it.call it.found is.old);
  free = ap (λ o. clashing it.call job o it.found.entry.rrn m) (sym is.moved) ∙ is.free;
  current = λ o r e. current-read it.call it.found.entry.rrn r e;
})) found

-- ---- reads that go on from a position

module _ (entry_from : Reading PathEntry → Position PathEntry → Option PathEntry) (row_from : Reading RowPlace → Position RowPlace → Option RowPlace) (nothing : Reply) (m : Memory)
    (finds_entry : (position : Position PathEntry) → FindsEntry m (λ reading. entry_from reading position))
    (finds_row : (position : Position RowPlace) → FindsRow m (λ reading. row_from reading position)) where
  read_plan-found : (job : ℕ) (args : ReadRecord) → AllByRecursion (OpensHold m.files) m.jobs → Holds (read_plan entry_from row_from nothing m job args) (IsFound m job args.open_id)
  unfolding read_plan
  read_plan-found job args all =
      opened-file-then args.open_id job m _ (IsFound m job args.open_id) (λ its is.
      bind-holds (found (find_in its m (λ reading. entry_from reading its.opened.position) (λ reading. row_from reading its.opened.rows)) nothing)
      (λ it. FitsOpen m its.opened it.entry) _ (IsFound m job args.open_id)
      (item-found (λ it. FitsOpen m its.opened it.entry) (find_in its m (λ reading. entry_from reading its.opened.position) (λ reading. row_from reading its.opened.rows)) nothing
      (find_in-fits m its (opens-of m job args.open_id its all is) (λ reading. entry_from reading its.opened.position) (λ reading. row_from reading its.opened.rows)
      (finds_entry its.opened.position) (finds_row its.opened.rows))) (λ it fits.
      lockable-found job m args.open_id its args.lock it is.named fits))

  read-leaves : (job : ℕ) (args : ReadRecord) → AllByRecursion (OpensHold m.files) m.jobs → Holds (does (read_change m job) (read_plan entry_from row_from nothing m job args)) (Leaves m job)
  read-leaves job args all =
      does-holds (read_change m job) (read_plan entry_from row_from nothing m job args) (Leaves m job) (read-effect m job args.open_id _ (read_plan-found job args all))

pub read-does : (m : Memory) (job : ℕ) (args : ReadRecord) → AllByRecursion (OpensHold m.files) m.jobs → Holds (read m job args) (Leaves m job)
read-does m job args all =
    read-leaves next_from next_from replies.EndOfFile m
    (λ position opened reading fits. next_from-holds (FitsOpen m opened) reading position fits)
    (λ position opened reading fits. next_from-holds (λ (row : RowPlace). FitsOpen m opened row.primary) reading position fits) job args all

pub read_prior-does : (m : Memory) (job : ℕ) (args : ReadRecord) → AllByRecursion (OpensHold m.files) m.jobs → Holds (read_prior m job args) (Leaves m job)
read_prior-does m job args all =
    read-leaves prior_from prior_from replies.BeginOfFile m
    (λ position opened reading fits. prior_from-holds (FitsOpen m opened) reading position fits)
    (λ position opened reading fits. prior_from-holds (λ (row : RowPlace). FitsOpen m opened row.primary) reading position fits) job args all

-- ---- reads of a key

module _ (entry_from : Reading PathEntry → List KeyValue → Position PathEntry → Option PathEntry) (row_from : Reading RowPlace → List KeyValue → Position RowPlace → Option RowPlace) (nothing : Reply)
    (m : Memory)
    (finds_entry : (key : List KeyValue) (position : Position PathEntry) → FindsEntry m (λ reading. entry_from reading key position))
    (finds_row : (key : List KeyValue) (position : Position RowPlace) → FindsRow m (λ reading. row_from reading key position)) where
  read_equal_plan-found : (job : ℕ) (args : ReadEqual) → AllByRecursion (OpensHold m.files) m.jobs → Holds (read_equal_plan entry_from row_from nothing m job args) (IsFound m job args.open_id)
  unfolding read_equal_plan
  read_equal_plan-found job args all =
      opened-file-then args.open_id job m _ (IsFound m job args.open_id) (λ its is.
      then-holds (key_asked its.file its.opened args.key) _ (IsFound m job args.open_id) (λ key.
      bind-holds (found (find_in its m (λ reading. entry_from reading key its.opened.position) (λ reading. row_from reading key its.opened.rows)) nothing)
      (λ it. FitsOpen m its.opened it.entry) _ (IsFound m job args.open_id)
      (item-found (λ it. FitsOpen m its.opened it.entry) (find_in its m (λ reading. entry_from reading key its.opened.position) (λ reading. row_from reading key its.opened.rows)) nothing
      (find_in-fits m its (opens-of m job args.open_id its all is) (λ reading. entry_from reading key its.opened.position) (λ reading. row_from reading key its.opened.rows)
      (finds_entry key its.opened.position) (finds_row key its.opened.rows))) (λ it fits.
      lockable-found job m args.open_id its args.lock it is.named fits)))

  read_equal-leaves : (job : ℕ) (args : ReadEqual) → AllByRecursion (OpensHold m.files) m.jobs
      → Holds (does (read_change m job) (read_equal_plan entry_from row_from nothing m job args)) (Leaves m job)
  read_equal-leaves job args all =
      does-holds (read_change m job) (read_equal_plan entry_from row_from nothing m job args) (Leaves m job) (read-effect m job args.open_id _ (read_equal_plan-found job args all))

pub read_equal-does : (m : Memory) (job : ℕ) (args : ReadEqual) → AllByRecursion (OpensHold m.files) m.jobs → Holds (read_equal m job args) (Leaves m job)
read_equal-does m job args all =
    read_equal-leaves next_equal next_equal replies.EndOfFile m
    (λ key position opened reading fits. next_equal-holds (FitsOpen m opened) reading key position fits)
    (λ key position opened reading fits. next_equal-holds (λ (row : RowPlace). FitsOpen m opened row.primary) reading key position fits) job args all

pub read_prior_equal-does : (m : Memory) (job : ℕ) (args : ReadEqual) → AllByRecursion (OpensHold m.files) m.jobs → Holds (read_prior_equal m job args) (Leaves m job)
read_prior_equal-does m job args all =
    read_equal-leaves prior_equal prior_equal replies.BeginOfFile m
    (λ key position opened reading fits. prior_equal-holds (FitsOpen m opened) reading key position fits)
    (λ key position opened reading fits. prior_equal-holds (λ (row : RowPlace). FitsOpen m opened row.primary) reading key position fits) job args all

-- ---- CHAIN

chained-fits : (m : Memory) (its : OpenedFile) (to : ChainTo) → Opens m its → Holds (chained its m to) (λ item. IfSome item (λ it. FitsOpen m its.opened it.entry))
chained-fits m its (Key values) opens =
    then-holds (key_asked its.file its.opened values) _ (λ item. IfSome item (λ it. FitsOpen m its.opened it.entry)) (λ key.
    record {
      holds = find_in-fits m its opens (λ reading. chain_key reading key) (λ reading. chain_key reading key)
          (λ opened reading fits. chain_key-holds (FitsOpen m opened) reading key fits)
          (λ opened reading fits. chain_key-holds (λ (row : RowPlace). FitsOpen m opened row.primary) reading key fits);
    })
chained-fits m its (RecordNumber rrn) opens =
    then-holds (number_asked its.file its.opened rrn) _ (λ item. IfSome item (λ it. FitsOpen m its.opened it.entry)) (λ number.
    record {
      holds = find_in-fits m its opens (λ reading. chain_number reading number) (λ reading. chain_number reading number)
          (λ opened reading fits. chain_number-holds (FitsOpen m opened) reading number fits)
          (λ opened reading fits. chain_number-holds (λ (row : RowPlace). FitsOpen m opened row.primary) reading number fits);
    })

chain_plan-found : (m : Memory) (job : ℕ) (args : ChainRecord) → AllByRecursion (OpensHold m.files) m.jobs → Holds (chain_plan m job args) (IsFound m job args.open_id)
unfolding chain_plan
chain_plan-found m job args all =
    opened-file-then args.open_id job m _ (IsFound m job args.open_id) (λ its is.
    bind-holds (chained its m args.to) (λ item. IfSome item (λ it. FitsOpen m its.opened it.entry)) _ (IsFound m job args.open_id)
    (chained-fits m its args.to (opens-of m job args.open_id its all is)) (λ item fits.
    bind-holds (found item replies.NotFound) (λ it. FitsOpen m its.opened it.entry) _ (IsFound m job args.open_id)
    (item-found (λ it. FitsOpen m its.opened it.entry) item replies.NotFound fits) (λ it here.
    lockable-found job m args.open_id its args.lock it is.named here)))

pub chain-does : (m : Memory) (job : ℕ) (args : ChainRecord) → AllByRecursion (OpensHold m.files) m.jobs → Holds (chain m job args) (Leaves m job)
chain-does m job args all =
    does-holds (read_change m job) (chain_plan m job args) (Leaves m job) (read-effect m job args.open_id _ (chain_plan-found m job args all))
