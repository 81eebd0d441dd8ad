-- What keeping, freeing and asking leave compatible, and which change locks they leave.
use Rattle.std.proofs.Common.{◌≡◌, ◌≢◌, ℕ, Bool, true, false, not, ◌&&◌, ◌||◌, ◌==◌, cond, Option, None, Some, List, [], ◌∷◌, map, refl, arith, sym, ap, ◌∙◌}
use Rattle.std.specs.Prelude.{IfSome}
use Rattle.std.specs.List.{filter, list_any, All}
use Rattle.std.specs.List.Sorted.{IsStrictlySortedBy}
use Rattle.std.specs.Ordering.{is_eq}
use Rattle.std.specs.declared.cmp.Ordering.TheVariants.{Less, Equal, Greater}
use Rattle.std.proofs.lemmas.Bool.Decides.{nat_tests}
use Rattle.std.proofs.lemmas.List.Elements.{All-filter, All-map, All-weaker}
use Rattle.std.proofs.lemmas.List.Kept.{IsStrictlySortedBy-filter}
use Rattle.commit_level.specs.declared.Level.{Level}
use Rattle.lock_table.specs.declared.levels.Call.{Call}
use Rattle.lock_table.specs.declared.levels.Wanted.{Wanted}
use Rattle.lock_table.specs.declared.levels.OpenLocks.{OpenLocks}
use Rattle.lock_table.specs.declared.levels.OpenLocks.TheVariants.{Stay, OfOpen, OfRecord, OfCommitted, OfJob}
use Rattle.lock_table.specs.declared.levels.Freed.{Freed}
use Rattle.lock_table.specs.declared.lock.LockKind.{LockKind}
use Rattle.lock_table.specs.declared.lock.Reach.{Reach}
use Rattle.lock_table.specs.declared.lock.Reach.TheVariants.{Open, Boundary}
use Rattle.lock_table.specs.declared.lock.RecordId.{RecordId}
use Rattle.lock_table.specs.declared.lock.Holder.{Holder}
use Rattle.lock_table.specs.declared.lock.Lock.{Lock}
use Rattle.lock_table.specs.Lock.{Clashes, blocks, bound, is_by, is_change_lock, is_of_group, is_of_job, is_of_open, is_of_opens, is_of_open_on, is_of_record, is_on, is_open, is_update, lock_by, lock_cmp, update_kind}
use Rattle.lock_table.specs.Table.{AreCompatible, HoldsChange, blocker, freed, kept, kept_to_boundary, with_lock, with_lock_by, without_lock}
use Rattle.lock_table.specs.Levels.{asked, gained, locks_after, released, with_wanted, without_boundary_locks, without_open_locks}
use Rattle.lock_table.proofs.InOrder.{filter-with_item}
use Rattle.lock_table.proofs.Kept.{All-in_order, filter-swap, list_any-filter, list_any-in_order, list_any-map, list_any-with_item}
use Rattle.lock_table.proofs.Locks.{lock_cmp-same, lock_cmp-total}
use Rattle.lock_table.proofs.Found.{alone-from_blocker}
use Rattle.lock_table.proofs.Rules.{gained-asked}
use Rattle.lock_table.proofs.Releases.{AreCompatible-filter, AreCompatible-with_lock}

-- ---- tests of lists
module _ {X : Type 0} where
  list_any-wider : (p q : X → Bool) → ((x : X) → p x ≡ true → q x ≡ true) → (xs : List X) → list_any p xs ≡ true → list_any q xs ≡ true
  list_any-wider p q wider [] h = absurd (cc)
  list_any-wider p q wider (x ∷ xs) some =
      elim (p x) as (λ b. p x ≡ b → (b || list_any p xs) ≡ true → (q x || list_any q xs) ≡ true) [
        | true ↦ λ e h. ap (λ b. b || list_any q xs) (wider x e)
        | false ↦ λ e h. ap (λ b. q x || b) (list_any-wider p q wider xs h) ∙ or_true (q x)
      ] refl some
    where
      or_true : (b : Bool) → (b || true) ≡ true
      or_true true = refl
      or_true false = refl

  list_any-spared : (t p : X → Bool) → ((x : X) → t x ≡ true → p x ≡ true) → (xs : List X) → list_any t xs ≡ true → list_any t (filter p xs) ≡ true
  list_any-spared t p spared xs h = list_any-filter p t xs ∙ list_any-wider t (λ x. p x && t x) (λ x k. rw (spared x k) k) xs h

-- ---- keeping
kept-job : (holder : Holder) (at : RecordId) (l : Lock) → (kept holder at l).job ≡ l.job
kept-job holder at l = elim (is_of_open_on holder at l) as (λ b. (cond b (bound l) l).job ≡ l.job) [ true ↦ refl | false ↦ refl ]

kept-blocks : (holder : Holder) (at : RecordId) (a b : Lock) → blocks (kept holder at a).job (kept holder at a).at (kept holder at a).kind (kept holder at b) ≡ blocks a.job a.at a.kind b
kept-blocks holder at a b =
    elim (is_of_open_on holder at a) as (λ p. blocks (cond p (bound a) a).job (cond p (bound a) a).at (cond p (bound a) a).kind (kept holder at b) ≡ blocks a.job a.at a.kind b) [
      | true ↦ second
      | false ↦ second
    ]
  where
    second : blocks a.job a.at a.kind (kept holder at b) ≡ blocks a.job a.at a.kind b
    second = elim (is_of_open_on holder at b) as (λ p. blocks a.job a.at a.kind (cond p (bound b) b) ≡ blocks a.job a.at a.kind b) [ true ↦ refl | false ↦ refl ]

pub AreCompatible-kept : (holder : Holder) (at : RecordId) (held : List Lock) → AreCompatible held → AreCompatible (kept_to_boundary holder at held)
AreCompatible-kept holder at held h =
    All-in_order lock_cmp (λ a. All (λ b. Clashes a b → ⊥) (kept_to_boundary holder at held)) (map (kept holder at) held)
    (All-map (λ a. All (λ b. Clashes a b → ⊥) (kept_to_boundary holder at held)) (kept holder at) held
    (All-weaker (λ a. All (λ b. Clashes a b → ⊥) held) (λ a. All (λ b. Clashes (kept holder at a) b → ⊥) (kept_to_boundary holder at held))
    (λ a alone.
    All-in_order lock_cmp (λ b. Clashes (kept holder at a) b → ⊥) (map (kept holder at) held)
    (All-map (λ b. Clashes (kept holder at a) b → ⊥) (kept holder at) held
    (All-weaker (λ b. Clashes a b → ⊥) (λ b. Clashes (kept holder at a) (kept holder at b) → ⊥) (λ b f k. f (sym (kept-blocks holder at a b) ∙ k)) held alone)))
    held h))

-- a boundary lock is none that a keeping changes
change_kept : (holder : Holder) (at : RecordId) (job : ℕ) (changed : RecordId) (l : Lock) → is_change_lock job changed l ≡ true → is_change_lock job changed (kept holder at l) ≡ true
change_kept holder at job changed l h =
    elim (is_of_open_on holder at l) as (λ b. is_change_lock job changed (cond b (bound l) l) ≡ true) [
      | true ↦ turned (is_on changed l) (is_open l.reach) (is_by job l) (is_update l.kind) h
      | false ↦ h
    ]
  where
    turned : (on is_open by update : Bool) → ((on && (not is_open && by)) && update) ≡ true → ((on && by) && update) ≡ true
    turned true true by update h = absurd (cc)
    turned true false by update h = h
    turned false o by update h = h

pub HoldsChange-kept : (holder : Holder) (at : RecordId) (job : ℕ) (changed : RecordId) (held : List Lock) → HoldsChange job changed held → HoldsChange job changed (kept_to_boundary holder at held)
HoldsChange-kept holder at job changed held h =
    list_any-in_order lock_cmp lock_cmp-same (is_change_lock job changed) (map (kept holder at) held)
    ∙ list_any-map (is_change_lock job changed) (kept holder at) held
    ∙ list_any-wider (is_change_lock job changed) (λ l. is_change_lock job changed (kept holder at l)) (change_kept holder at job changed) held h

-- ---- freeing
change_boundary : (job : ℕ) (changed : RecordId) (l : Lock) → is_change_lock job changed l ≡ true → is_open l.reach ≡ false
change_boundary job changed l = ended (is_on changed l) (is_open l.reach) (is_by job l) (is_update l.kind)
  where
    ended : (on is_open by update : Bool) → ((on && (not is_open && by)) && update) ≡ true → is_open ≡ false
    ended true true by update h = absurd (cc)
    ended true false by update h = refl
    ended false o by update h = absurd (cc)

change_by : (job : ℕ) (changed : RecordId) (l : Lock) → is_change_lock job changed l ≡ true → is_by job l ≡ true
change_by job changed l = by_it (is_on changed l) (is_open l.reach) (is_by job l) (is_update l.kind)
  where
    by_it : (on is_open by update : Bool) → ((on && (not is_open && by)) && update) ≡ true → by ≡ true
    by_it true true by update h = absurd (cc)
    by_it true false true update h = refl
    by_it true false false update h = absurd (cc)
    by_it false o by update h = absurd (cc)

pub HoldsChange-freed : (gone : Lock → Bool) (job : ℕ) (changed : RecordId) (held : List Lock) → ((l : Lock) → is_open l.reach ≡ false → gone l ≡ false) → HoldsChange job changed held → HoldsChange job changed (freed gone held)
HoldsChange-freed gone job changed held spared h = list_any-spared (is_change_lock job changed) (λ l. not (gone l)) (λ l k. ap not (spared l (change_boundary job changed l k))) held h

-- ---- a lock more
HoldsChange-with_lock : (job : ℕ) (changed : RecordId) (lock : Lock) (held : List Lock) → HoldsChange job changed held → HoldsChange job changed (with_lock lock held)
HoldsChange-with_lock job changed lock held h = list_any-with_item lock_cmp lock_cmp-same (is_change_lock job changed) lock held ∙ ap (λ b. is_change_lock job changed lock || b) h ∙ or_true (is_change_lock job changed lock)
  where
    or_true : (b : Bool) → (b || true) ≡ true
    or_true true = refl
    or_true false = refl

-- no change lock is the same as a lock to the next read
HoldsChange-without_open : (job : ℕ) (changed : RecordId) (lock : Lock) (held : List Lock) → is_open lock.reach ≡ true → HoldsChange job changed held → HoldsChange job changed (without_lock lock held)
HoldsChange-without_open job changed lock held o h =
    list_any-spared (is_change_lock job changed) (λ l. not (is_eq (lock_cmp l lock)))
    (λ l k. other l (change_boundary job changed l k)) held h
  where
    other : (l : Lock) → is_open l.reach ≡ false → not (is_eq (lock_cmp l lock)) ≡ true
    other l e =
        elim (lock_cmp l lock) as (λ r. lock_cmp l lock ≡ r → not (is_eq r) ≡ true) [
          | Less ↦ λ g. refl
          | Equal ↦ λ g. absurd (let same : is_open l.reach ≡ is_open lock.reach = ap (λ (k : Lock). is_open k.reach) (lock_cmp-same l lock g) in cc)
          | Greater ↦ λ g. refl
        ] refl

module _ (holder : Holder) (at : RecordId) (kind : LockKind) where
  HoldsChange-with_lock_by : (reach : Reach) (job : ℕ) (changed : RecordId) (held : List Lock) → HoldsChange job changed held → HoldsChange job changed (with_lock_by holder at kind reach held)
  HoldsChange-with_lock_by Open job changed held h = HoldsChange-with_lock job changed (lock_by holder at kind Open) held h
  HoldsChange-with_lock_by Boundary job changed held h =
      HoldsChange-with_lock job changed (lock_by holder at kind Boundary) (without_lock (lock_by holder at kind Open) held)
      (HoldsChange-without_open job changed (lock_by holder at kind Open) held refl h)

  AreCompatible-with_lock_by : (reach : Reach) (held : List Lock) → All (λ other. Clashes (lock_by holder at kind reach) other → ⊥) held → AreCompatible held → AreCompatible (with_lock_by holder at kind reach held)
  AreCompatible-with_lock_by Open held alone h = AreCompatible-with_lock (lock_by holder at kind Open) held h alone
  AreCompatible-with_lock_by Boundary held alone h =
      AreCompatible-with_lock (lock_by holder at kind Boundary) (without_lock (lock_by holder at kind Open) held)
      (AreCompatible-filter (λ l. not (is_eq (lock_cmp l (lock_by holder at kind Open)))) held h)
      (All-filter (λ l. not (is_eq (lock_cmp l (lock_by holder at kind Open)))) (λ other. Clashes (lock_by holder at kind Boundary) other → ⊥) held alone)

-- ---- what a call leaves
module _ (holder : Holder) (at : RecordId) (is_committed : ℕ → Bool) where
  -- what holds of the locks that are held, and of those of them that pass a test
  module _ (Q : List Lock → Type 0) (fewer : (p : Lock → Bool) (held : List Lock) → Q held → Q (filter p held)) where
    without-open : (locks : OpenLocks) (held : List Lock) → Q held → Q (without_open_locks locks holder at is_committed held)
    without-open Stay held h = h
    without-open OfOpen held h = fewer (λ l. not (is_of_open holder l)) held h
    without-open OfRecord held h = fewer (λ l. not (is_of_record holder.job at l)) held h
    without-open OfCommitted held h = fewer (λ l. not (is_of_opens holder.job is_committed l)) held h
    without-open OfJob held h = fewer (λ l. not (is_of_job holder.job l)) held h

    without-boundary : (b : Bool) (held : List Lock) → Q held → Q (without_boundary_locks b holder.job held)
    without-boundary false held h = h
    without-boundary true held h = fewer (λ l. not (is_of_group holder.job l)) held h

    left : (gone : Freed) (held : List Lock) → Q held → Q (without_open_locks gone.open_locks holder at is_committed (without_boundary_locks gone.boundary_locks holder.job held))
    left gone held h = without-open gone.open_locks (without_boundary_locks gone.boundary_locks holder.job held) (without-boundary gone.boundary_locks held h)

  AreCompatible-wanted : (wanted : Option Wanted) (held : List Lock) → IfSome wanted (λ w. All (λ other. Clashes (lock_by holder at w.kind w.reach) other → ⊥) held) → AreCompatible held → AreCompatible (with_wanted wanted holder at held)
  AreCompatible-wanted None held alone h = h
  AreCompatible-wanted (Some w) held alone h = AreCompatible-with_lock_by holder at w.kind w.reach held alone h

  alone-wanted : (wanted : Option Wanted) (held : List Lock) → IfSome wanted (λ w. blocker holder.job at w.kind held ≡ None) → IfSome wanted (λ w. All (λ other. Clashes (lock_by holder at w.kind w.reach) other → ⊥) held)
  alone-wanted None held h = tt
  alone-wanted (Some w) held h = alone-from_blocker (lock_by holder at w.kind w.reach) held h

  alone-fewer : (wanted : Option Wanted) (p : Lock → Bool) (held : List Lock) → IfSome wanted (λ w. All (λ other. Clashes (lock_by holder at w.kind w.reach) other → ⊥) held) → IfSome wanted (λ w. All (λ other. Clashes (lock_by holder at w.kind w.reach) other → ⊥) (filter p held))
  alone-fewer None p held h = tt
  alone-fewer (Some w) p held h = All-filter p (λ other. Clashes (lock_by holder at w.kind w.reach) other → ⊥) held h

  pub AreCompatible-call : (call : Call) (level : Option Level) (held : List Lock) → IfSome (asked call level) (λ wanted. blocker holder.job at wanted.kind held ≡ None) → AreCompatible held → AreCompatible (locks_after call level holder at is_committed held)
  AreCompatible-call call level held free h =
      let alone = alone-wanted (gained call level) held (gained-asked (λ w. blocker holder.job at w.kind held ≡ None) call level free) in
      AreCompatible-wanted (gained call level) (without_open_locks (released call level).open_locks holder at is_committed (without_boundary_locks (released call level).boundary_locks holder.job held))
      (left (λ xs. IfSome (gained call level) (λ w. All (λ other. Clashes (lock_by holder at w.kind w.reach) other → ⊥) xs)) (λ p xs. alone-fewer (gained call level) p xs) (released call level) held alone)
      (left AreCompatible AreCompatible-filter (released call level) held h)

  module _ (job : ℕ) (changed : RecordId) where
    HoldsChange-wanted : (wanted : Option Wanted) (held : List Lock) → HoldsChange job changed held → HoldsChange job changed (with_wanted wanted holder at held)
    HoldsChange-wanted None held h = h
    HoldsChange-wanted (Some w) held h = HoldsChange-with_lock_by holder at w.kind w.reach job changed held h

    and_false : (b : Bool) → (b && false) ≡ false
    and_false true = refl
    and_false false = refl

    HoldsChange-open : (locks : OpenLocks) (held : List Lock) → HoldsChange job changed held → HoldsChange job changed (without_open_locks locks holder at is_committed held)
    HoldsChange-open Stay held h = h
    HoldsChange-open OfOpen held h = HoldsChange-freed (is_of_open holder) job changed held (λ l e. rw e refl) h
    HoldsChange-open OfRecord held h = HoldsChange-freed (is_of_record holder.job at) job changed held (λ l e. rw e (and_false (is_on at l))) h
    HoldsChange-open OfCommitted held h = HoldsChange-freed (is_of_opens holder.job is_committed) job changed held (λ l e. rw e refl) h
    HoldsChange-open OfJob held h = HoldsChange-freed (is_of_job holder.job) job changed held (λ l e. rw e refl) h

    other_group : (job ≢ holder.job) → (l : Lock) → is_change_lock job changed l ≡ true → not (is_of_group holder.job l) ≡ true
    other_group apart l h = ap (λ b. not (not (is_open l.reach) && b)) (other_job l.job holder.job (change_by job changed l h) apart) ∙ ap not (and_false (not (is_open l.reach)))
      where
        other_job : (n m : ℕ) → (n == job) ≡ true → (job ≢ m) → (n == m) ≡ false
        other_job n m h k = grind (arith, nat_tests)

    HoldsChange-boundary : (b : Bool) (held : List Lock) → (job ≢ holder.job) → HoldsChange job changed held → HoldsChange job changed (without_boundary_locks b holder.job held)
    HoldsChange-boundary false held apart h = h
    HoldsChange-boundary true held apart h = list_any-spared (is_change_lock job changed) (λ l. not (is_of_group holder.job l)) (other_group apart) held h

    HoldsChange-own : (b : Bool) (held : List Lock) → b ≡ false → HoldsChange job changed held → HoldsChange job changed (without_boundary_locks b holder.job held)
    HoldsChange-own false held e h = h
    HoldsChange-own true held e h = absurd (cc)

    after : (call : Call) (level : Option Level) (held : List Lock) → HoldsChange job changed (without_boundary_locks (released call level).boundary_locks holder.job held) → HoldsChange job changed (locks_after call level holder at is_committed held)
    after call level held h =
        HoldsChange-wanted (gained call level) (without_open_locks (released call level).open_locks holder at is_committed (without_boundary_locks (released call level).boundary_locks holder.job held))
        (HoldsChange-open (released call level).open_locks (without_boundary_locks (released call level).boundary_locks holder.job held) h)

    pub HoldsChange-others : (call : Call) (level : Option Level) (held : List Lock) → (job ≢ holder.job) → HoldsChange job changed held → HoldsChange job changed (locks_after call level holder at is_committed held)
    HoldsChange-others call level held apart h = after call level held (HoldsChange-boundary (released call level).boundary_locks held apart h)

    pub HoldsChange-call : (call : Call) (level : Option Level) (held : List Lock) → (released call level).boundary_locks ≡ false → HoldsChange job changed held → HoldsChange job changed (locks_after call level holder at is_committed held)
    HoldsChange-call call level held e h = after call level held (HoldsChange-own (released call level).boundary_locks held e h)

  own_lock : is_change_lock holder.job at (lock_by holder at update_kind Boundary) ≡ true
  own_lock = rw (own at.member, own at.rrn, own holder.job) refl
    where
      own : (n : ℕ) → (n == n) ≡ true
      own n = grind (arith, nat_tests)

  pub HoldsChange-changed : (call : Call) (level : Option Level) (held : List Lock) → gained call level ≡ Some (record { kind = update_kind; reach = Boundary }) → HoldsChange holder.job at (locks_after call level holder at is_committed held)
  HoldsChange-changed call level held e =
      rw e (holds (without_lock (lock_by holder at update_kind Open) (without_open_locks (released call level).open_locks holder at is_committed (without_boundary_locks (released call level).boundary_locks holder.job held))))
    where
      holds : (xs : List Lock) → HoldsChange holder.job at (with_lock (lock_by holder at update_kind Boundary) xs)
      holds xs = list_any-with_item lock_cmp lock_cmp-same (is_change_lock holder.job at) (lock_by holder at update_kind Boundary) xs ∙ ap (λ b. b || list_any (is_change_lock holder.job at) xs) own_lock

-- ---- the order in which a DELETE asks and releases
pub freed-with_lock_by : (holder : Holder) (at : RecordId) (kind : LockKind) (held : List Lock) → IsStrictlySortedBy lock_cmp held → freed (is_of_record holder.job at) (with_lock_by holder at kind Boundary held) ≡ with_lock_by holder at kind Boundary (freed (is_of_record holder.job at) held)
freed-with_lock_by holder at kind held s =
    filter-with_item lock_cmp-total lock_cmp-same (λ l. not (is_of_record holder.job at l)) (lock_by holder at kind Boundary) (without_lock (lock_by holder at kind Open) held) (IsStrictlySortedBy-filter lock_cmp (λ l. not (is_eq (lock_cmp l (lock_by holder at kind Open)))) held s)
    ∙ ap (λ b. cond (not b) (with_lock (lock_by holder at kind Boundary) (freed (is_of_record holder.job at) (without_lock (lock_by holder at kind Open) held))) (freed (is_of_record holder.job at) (without_lock (lock_by holder at kind Open) held))) (and_false (is_on at (lock_by holder at kind Boundary)))
    ∙ ap (with_lock (lock_by holder at kind Boundary)) (filter-swap (λ l. not (is_of_record holder.job at l)) (λ l. not (is_eq (lock_cmp l (lock_by holder at kind Open)))) held)
  where
    and_false : (b : Bool) → (b && false) ≡ false
    and_false true = refl
    and_false false = refl
