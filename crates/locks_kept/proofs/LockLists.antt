-- What holds of the locks that a call leaves: each of them was held and isn't freed, or is the one that it gains.
use Rattle.std.proofs.Common.{◌≡◌, ℕ, ◌||◌, not, Bool, true, false, IfSome, List, [], ◌∷◌, Option, Some, None, refl, ◌∙◌, ap}
use Rattle.std.specs.List.{AllByRecursion, list_any}
use Rattle.std.specs.Ordering.{is_eq, match_ordering}
use Rattle.std.specs.declared.cmp.Ordering.{Ordering}
use Rattle.std.specs.declared.cmp.Ordering.TheVariants.{Less, Equal, Greater}
use Rattle.commit_level.specs.declared.Level.{Level}
use Rattle.lock_table.specs.declared.lock.Lock.{Lock}
use Rattle.lock_table.specs.declared.lock.LockKind.{LockKind}
use Rattle.lock_table.specs.declared.lock.Holder.{Holder}
use Rattle.lock_table.specs.declared.lock.RecordId.{RecordId}
use Rattle.lock_table.specs.declared.lock.Reach.{Reach}
use Rattle.lock_table.specs.declared.lock.Reach.TheVariants.{Open, Boundary}
use Rattle.lock_table.specs.declared.levels.Call.{Call}
use Rattle.lock_table.specs.declared.levels.Wanted.{Wanted}
use Rattle.lock_table.specs.declared.levels.OpenLocks.{OpenLocks}
use Rattle.lock_table.specs.declared.levels.OpenLocks.TheVariants.{Stay, OfOpen, OfRecord, OfCommitted, OfJob}
use Rattle.lock_table.specs.Lock.{lock_by, lock_cmp, is_of_open, is_of_record, is_of_opens, is_of_job, is_of_group}
use Rattle.lock_table.specs.Table.{with_item, without_lock, with_lock_by, freed}
use Rattle.lock_table.specs.Levels.{gained, released, without_open_locks, without_boundary_locks, with_wanted, locks_after}
use Rattle.lock_table.proofs.Kept.{list_any-with_item}
use Rattle.lock_table.proofs.Locks.{lock_cmp-same}
use Rattle.locks_kept.proofs.ListLemmas.{all-filter, all-freed, all-weaker, any-filter}
use Rattle.locks_kept.proofs.TestLemmas.{or_true}

-- ---- a lock more

all-with_item : {X : Type 0} (R : X → X → Ordering) (P : X → Type 0) (x : X) (xs : List X) → P x → AllByRecursion P xs → AllByRecursion P (with_item R x xs)
all-with_item R P x [] here all = (here, tt)
all-with_item R P x (y ∷ ys) here all =
    elim (R x y) as (λ r. AllByRecursion P (match_ordering r (x ∷ y ∷ ys) (y ∷ ys) (y ∷ with_item R x ys))) [
      | Less ↦ (here, all)
      | Equal ↦ all
      | Greater ↦ (all.0, all-with_item R P x ys here all.1)
    ]

-- ---- what a call leaves

-- the call frees the lock, of those that end at the next read
abbrev pub is_freed : OpenLocks → Holder → RecordId → (ℕ → Bool) → Lock → Bool
is_freed Stay holder at is_committed lock = false
is_freed OfOpen holder at is_committed lock = is_of_open holder lock
is_freed OfRecord holder at is_committed lock = is_of_record holder.job at lock
is_freed OfCommitted holder at is_committed lock = is_of_opens holder.job is_committed lock
is_freed OfJob holder at is_committed lock = is_of_job holder.job lock

module _ (holder : Holder) (at : RecordId) (is_committed : ℕ → Bool) where
  without_open-all : (which : OpenLocks) (P Q : Lock → Type 0) (held : List Lock) → ((l : Lock) → is_freed which holder at is_committed l ≡ false → P l → Q l) → AllByRecursion P held
      → AllByRecursion Q (without_open_locks which holder at is_committed held)
  without_open-all Stay P Q held each all = all-weaker P Q held (λ l holds. each l refl holds) all
  without_open-all OfOpen P Q held each all = all-freed P Q (is_of_open holder) held each all
  without_open-all OfRecord P Q held each all = all-freed P Q (is_of_record holder.job at) held each all
  without_open-all OfCommitted P Q held each all = all-freed P Q (is_of_opens holder.job is_committed) held each all
  without_open-all OfJob P Q held each all = all-freed P Q (is_of_job holder.job) held each all

  without_boundary-all : (gone : Bool) (P : Lock → Type 0) (held : List Lock) → AllByRecursion P held
      → AllByRecursion (λ l. P l × (gone ≡ true → is_of_group holder.job l ≡ false)) (without_boundary_locks gone holder.job held)
  without_boundary-all false P held all = all-weaker P (λ l. P l × (false ≡ true → is_of_group holder.job l ≡ false)) held (λ l holds. (holds, λ e. absurd cc)) all
  without_boundary-all true P held all = all-freed P (λ l. P l × (true ≡ true → is_of_group holder.job l ≡ false)) (is_of_group holder.job) held (λ l left holds. (holds, λ e. left)) all

  with_lock_by-all : (Q : Lock → Type 0) (kind : LockKind) (reach : Reach) (held : List Lock) → Q (lock_by holder at kind reach) → AllByRecursion Q held
      → AllByRecursion Q (with_lock_by holder at kind reach held)
  with_lock_by-all Q kind Open held here all = all-with_item lock_cmp Q (lock_by holder at kind Open) held here all
  with_lock_by-all Q kind Boundary held here all =
      all-with_item lock_cmp Q (lock_by holder at kind Boundary) (without_lock (lock_by holder at kind Open) held) here
      (all-filter Q Q (λ l. not (is_eq (lock_cmp l (lock_by holder at kind Open)))) held (λ l left holds. holds) all)

  with_wanted-all : (wanted : Option Wanted) (Q : Lock → Type 0) (held : List Lock) → IfSome wanted (λ w. Q (lock_by holder at w.kind w.reach)) → AllByRecursion Q held
      → AllByRecursion Q (with_wanted wanted holder at held)
  with_wanted-all None Q held here all = all
  with_wanted-all (Some wanted) Q held here all = with_lock_by-all Q wanted.kind wanted.reach held here all

  pub after-all : (call : Call) (level : Option Level) (P Q : Lock → Type 0) (held : List Lock)
      → ((l : Lock) → is_freed (released call level).open_locks holder at is_committed l ≡ false → ((released call level).boundary_locks ≡ true → is_of_group holder.job l ≡ false) → P l → Q l)
      → IfSome (gained call level) (λ w. Q (lock_by holder at w.kind w.reach)) → AllByRecursion P held → AllByRecursion Q (locks_after call level holder at is_committed held)
  after-all call level P Q held each here all =
      let gone = released call level in
      with_wanted-all (gained call level) Q (without_open_locks gone.open_locks holder at is_committed (without_boundary_locks gone.boundary_locks holder.job held)) here
      (without_open-all gone.open_locks (λ l. P l × (gone.boundary_locks ≡ true → is_of_group holder.job l ≡ false)) Q (without_boundary_locks gone.boundary_locks holder.job held)
      (λ l left was. each l left was.1 was.0) (without_boundary-all gone.boundary_locks P held all))

  -- ---- a lock that is left

  any-freed : (test gone : Lock → Bool) (held : List Lock) → ((l : Lock) → test l ≡ true → gone l ≡ false) → list_any test held ≡ true → list_any test (freed gone held) ≡ true
  any-freed test gone held spared some = any-filter test (λ l. not (gone l)) held (λ l passes. ap not (spared l passes)) some

  without_open-any : (which : OpenLocks) (test : Lock → Bool) (held : List Lock) → ((l : Lock) → test l ≡ true → is_freed which holder at is_committed l ≡ false) → list_any test held ≡ true
      → list_any test (without_open_locks which holder at is_committed held) ≡ true
  without_open-any Stay test held spared some = some
  without_open-any OfOpen test held spared some = any-freed test (is_of_open holder) held spared some
  without_open-any OfRecord test held spared some = any-freed test (is_of_record holder.job at) held spared some
  without_open-any OfCommitted test held spared some = any-freed test (is_of_opens holder.job is_committed) held spared some
  without_open-any OfJob test held spared some = any-freed test (is_of_job holder.job) held spared some

  without_boundary-any : (gone : Bool) (test : Lock → Bool) (held : List Lock) → ((l : Lock) → test l ≡ true → gone ≡ true → is_of_group holder.job l ≡ false) → list_any test held ≡ true
      → list_any test (without_boundary_locks gone holder.job held) ≡ true
  without_boundary-any false test held spared some = some
  without_boundary-any true test held spared some = any-freed test (is_of_group holder.job) held (λ l passes. spared l passes refl) some

  other-lock : (l gone : Lock) → (l ≡ gone → ⊥) → not (is_eq (lock_cmp l gone)) ≡ true
  other-lock l gone differ =
      elim (lock_cmp l gone) as (λ r. lock_cmp l gone ≡ r → not (is_eq r) ≡ true) [
        | Less ↦ λ e. refl
        | Equal ↦ λ e. absurd (differ (lock_cmp-same l gone e))
        | Greater ↦ λ e. refl
      ] refl

  with_lock_by-any : (kind : LockKind) (reach : Reach) (test : Lock → Bool) (held : List Lock) → ((l : Lock) → test l ≡ true → l ≡ lock_by holder at kind Open → ⊥) → list_any test held ≡ true
      → list_any test (with_lock_by holder at kind reach held) ≡ true
  with_lock_by-any kind Open test held differ some =
      list_any-with_item lock_cmp lock_cmp-same test (lock_by holder at kind Open) held ∙ or_true (test (lock_by holder at kind Open)) (list_any test held) some
  with_lock_by-any kind Boundary test held differ some =
      list_any-with_item lock_cmp lock_cmp-same test (lock_by holder at kind Boundary) (without_lock (lock_by holder at kind Open) held)
      ∙ or_true (test (lock_by holder at kind Boundary)) (list_any test (without_lock (lock_by holder at kind Open) held))
      (any-filter test (λ l. not (is_eq (lock_cmp l (lock_by holder at kind Open)))) held (λ l passes. other-lock l (lock_by holder at kind Open) (differ l passes)) some)

  with_wanted-any : (wanted : Option Wanted) (test : Lock → Bool) (held : List Lock) → IfSome wanted (λ w. (l : Lock) → test l ≡ true → l ≡ lock_by holder at w.kind Open → ⊥)
      → list_any test held ≡ true
      → list_any test (with_wanted wanted holder at held) ≡ true
  with_wanted-any None test held differ some = some
  with_wanted-any (Some wanted) test held differ some = with_lock_by-any wanted.kind wanted.reach test held differ some

  pub after-any : (call : Call) (level : Option Level) (test : Lock → Bool) (held : List Lock)
      → ((l : Lock) → test l ≡ true → is_freed (released call level).open_locks holder at is_committed l ≡ false)
      → ((l : Lock) → test l ≡ true → (released call level).boundary_locks ≡ true → is_of_group holder.job l ≡ false)
      → IfSome (gained call level) (λ w. (l : Lock) → test l ≡ true → l ≡ lock_by holder at w.kind Open → ⊥)
      → list_any test held ≡ true → list_any test (locks_after call level holder at is_committed held) ≡ true
  after-any call level test held ends boundary differ some =
      let gone = released call level in
      with_wanted-any (gained call level) test (without_open_locks gone.open_locks holder at is_committed (without_boundary_locks gone.boundary_locks holder.job held)) differ
      (without_open-any gone.open_locks test (without_boundary_locks gone.boundary_locks holder.job held) ends (without_boundary-any gone.boundary_locks test held boundary some))

  -- ---- the lock that is gained

  with_lock_by-gained : (kind : LockKind) (reach : Reach) (test : Lock → Bool) (held : List Lock) → test (lock_by holder at kind reach) ≡ true
      → list_any test (with_lock_by holder at kind reach held) ≡ true
  with_lock_by-gained kind Open test held passes = list_any-with_item lock_cmp lock_cmp-same test (lock_by holder at kind Open) held ∙ ap (λ b. b || list_any test held) passes
  with_lock_by-gained kind Boundary test held passes =
      list_any-with_item lock_cmp lock_cmp-same test (lock_by holder at kind Boundary) (without_lock (lock_by holder at kind Open) held)
      ∙ ap (λ b. b || list_any test (without_lock (lock_by holder at kind Open) held)) passes

  pub after-gained : (call : Call) (level : Option Level) (wanted : Wanted) (test : Lock → Bool) (held : List Lock) → gained call level ≡ Some wanted
      → test (lock_by holder at wanted.kind wanted.reach) ≡ true
      → list_any test (locks_after call level holder at is_committed held) ≡ true
  after-gained call level wanted test held is passes =
      let left = without_open_locks (released call level).open_locks holder at is_committed (without_boundary_locks (released call level).boundary_locks holder.job held) in
      ap (λ w. list_any test (with_wanted w holder at left)) is ∙ with_lock_by-gained wanted.kind wanted.reach test left passes
