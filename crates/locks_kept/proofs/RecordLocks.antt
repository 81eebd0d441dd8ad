-- Where a record is locked for a change, no other job's lock is in the way; and none is at the place behind the last.
use Rattle.std.proofs.Common.{◌≡◌, ◌≢◌, ℕ, ◌+◌, ◌≤◌, ◌==◌, ◌&&◌, ◌||◌, not, Bool, true, false, IfSome, length, List, Option, Some, None, refl, sym, ◌∙◌, ap, subst, arith}
use Rattle.std.specs.List.{All, AllByRecursion, list_any}
use Rattle.std.specs.Option.{option_and_then}
use Rattle.std.proofs.lemmas.Bool.Decides.{nat_tests}
use Rattle.member_slots.specs.Members.{member_of}
use Rattle.lock_table.specs.declared.lock.Lock.{Lock}
use Rattle.lock_table.specs.declared.lock.LockKind.{LockKind}
use Rattle.lock_table.specs.declared.lock.Holder.{Holder}
use Rattle.lock_table.specs.declared.lock.RecordId.{RecordId}
use Rattle.lock_table.specs.Lock.{Clashes, are_apart, blocks, is_against, is_by, is_on, is_open, is_update, update_kind}
use Rattle.lock_table.specs.Table.{AreCompatible, blocker, least_job}
use Rattle.library_steps.specs.State.{Memory}
use Rattle.joint_state.specs.CurrentRecords.{keeps_record}
use Rattle.joint_state.specs.Locks.{LockStands}
use Rattle.locks_kept.proofs.ListLemmas.{all-from, all-weaker, none-filter, witness}
use Rattle.locks_kept.proofs.TestLemmas.{and-all, and-parts, number-is, number-same, or_true}

pub is_on-same : (at : RecordId) (l : Lock) → is_on at l ≡ true → l.at ≡ at
is_on-same at l on =
    let parts = and-parts (l.at.member == at.member) (l.at.rrn == at.rrn) on in
    let member : l.at.member ≡ at.member = number-is l.at.member at.member parts.0 in
    let rrn : l.at.rrn ≡ at.rrn = number-is l.at.rrn at.rrn parts.1 in
    λ i. record { member = member i; rrn = rrn i }

pub on-same : (at : RecordId) (l : Lock) → l.at ≡ at → is_on at l ≡ true
on-same at l same = ap (λ x. is_on x l) (sym same) ∙ rw (number-same l.at.member l.at.member refl, number-same l.at.rrn l.at.rrn refl) refl

-- what a lock is by which an open keeps its current record
pub record Keeps (commit : Bool) (holder : Holder) (record_at : RecordId) (l : Lock) : Type 0 where
  pub at : l.at ≡ record_at
  pub job : l.job ≡ holder.job
  pub opened : l.opened ≡ holder.opened
  pub update : is_update l.kind ≡ true
  pub reach : (commit || is_open l.reach) ≡ true

pub keeps-is : (commit : Bool) (holder : Holder) (at : RecordId) (l : Lock) → keeps_record commit holder at l ≡ true → Keeps commit holder at l
keeps-is commit holder at l keeps = by (parts (is_on at l) (is_by holder.job l) (l.opened == holder.opened) (is_update l.kind) (commit || is_open l.reach) keeps)
  where
    parts : (a b c d e : Bool) → (a && b && c && d && e) ≡ true → (a ≡ true) × (b ≡ true) × (c ≡ true) × (d ≡ true) × (e ≡ true)
    parts true true true true e h = (refl, refl, refl, refl, h)
    parts true true true false e h = absurd cc
    parts true true false d e h = absurd cc
    parts true false c d e h = absurd cc
    parts false b c d e h = absurd cc

    by : (is_on at l ≡ true) × (is_by holder.job l ≡ true) × ((l.opened == holder.opened) ≡ true) × (is_update l.kind ≡ true) × ((commit || is_open l.reach) ≡ true) → Keeps commit holder at l
    by p = record { at = is_on-same at l p.0; job = number-is l.job holder.job p.1; opened = number-is l.opened holder.opened p.2; update = p.3; reach = p.4 }

pub keeps-from : (commit : Bool) (holder : Holder) (at : RecordId) (l : Lock) → Keeps commit holder at l → keeps_record commit holder at l ≡ true
keeps-from commit holder at l keeps =
    join (is_on at l) (is_by holder.job l) (l.opened == holder.opened) (is_update l.kind) (commit || is_open l.reach)
    (on-same at l keeps.at) (number-same l.job holder.job keeps.job) (number-same l.opened holder.opened keeps.opened) keeps.update keeps.reach
  where
    join : (a b c d e : Bool) → a ≡ true → b ≡ true → c ≡ true → d ≡ true → e ≡ true → (a && b && c && d && e) ≡ true
    join true true true true true p q r s t = refl
    join true true true true false p q r s t = absurd cc
    join true true true false e p q r s t = absurd cc
    join true true false d e p q r s t = absurd cc
    join true false c d e p q r s t = absurd cc
    join false b c d e p q r s t = absurd cc

pub none-blocks : (job : ℕ) (at : RecordId) (kind : LockKind) (held : List Lock) → AllByRecursion (λ b. blocks job at kind b ≡ true → ⊥) held → blocker job at kind held ≡ None
none-blocks job at kind held none =
    ap least_job (none-filter (blocks job at kind) held (all-weaker (λ (b : Lock). blocks job at kind b ≡ true → ⊥) (λ b. blocks job at kind b ≡ false) held
    (λ b never. false-from (blocks job at kind b) never) none))
  where
    false-from : (b : Bool) → (b ≡ true → ⊥) → b ≡ false
    false-from true never = absurd (never refl)
    false-from false never = refl

-- another lock on the record of an update lock clashes with it
against-update : (a b : Lock) (job : ℕ) (at : RecordId) (kind : LockKind) → a.job ≡ job → a.at ≡ at → is_update a.kind ≡ true → blocks job at kind b ≡ true → Clashes a b
against-update a b job at kind its there update blocked =
    let on = and-parts (is_on at b) (is_against job kind b) blocked in
    let other = and-parts (not (is_by job b)) (are_apart b.kind kind) on.1 in
    and-all (is_on a.at b) (not (is_by a.job b)) (are_apart b.kind a.kind)
    (ap (λ x. is_on x b) there ∙ on.0) (ap (λ n. not (is_by n b)) its ∙ other.0) (or_true (is_update b.kind) (is_update a.kind) update)

-- where the job has a lock for a change, no lock of another stands on the record
pub update-alone : (test : Lock → Bool) (job : ℕ) (at : RecordId) (held : List Lock) → ((l : Lock) → test l ≡ true → (l.job ≡ job) × (l.at ≡ at) × (is_update l.kind ≡ true)) → AreCompatible held
    → list_any test held ≡ true → AllByRecursion (λ b. (kind : LockKind) → blocks job at kind b ≡ true → ⊥) held
update-alone test job at held is compatible locked = by (witness test (λ a. All (λ b. Clashes a b → ⊥) held) held locked (all-from (λ a. All (λ b. Clashes a b → ⊥) held) held compatible))
  where
    by : (a : Lock) × (test a ≡ true) × All (λ b. Clashes a b → ⊥) held → AllByRecursion (λ b. (kind : LockKind) → blocks job at kind b ≡ true → ⊥) held
    by w =
        let its = is w.0 w.1 in
        all-weaker (λ (b : Lock). Clashes w.0 b → ⊥) (λ b. (kind : LockKind) → blocks job at kind b ≡ true → ⊥) held
        (λ b alone kind blocked. alone (against-update w.0 b job at kind its.0 its.1 its.2 blocked)) (all-from (λ b. Clashes w.0 b → ⊥) held w.2)

pub locked-alone : (commit : Bool) (holder : Holder) (at : RecordId) (held : List Lock) → AreCompatible held → list_any (keeps_record commit holder at) held ≡ true
    → AllByRecursion (λ b. (kind : LockKind) → blocks holder.job at kind b ≡ true → ⊥) held
locked-alone commit holder at held compatible locked =
    update-alone (keeps_record commit holder at) holder.job at held (λ l keeps. (let its = keeps-is commit holder at l keeps in (its.job, its.at, its.update))) compatible locked

-- so no open of another job keeps it as its current record
pub none-keeps : (job : ℕ) (at : RecordId) (held : List Lock) (commit : Bool) (holder : Holder) → holder.job ≢ job → AllByRecursion (λ b. (kind : LockKind) → blocks job at kind b ≡ true → ⊥) held
    → list_any (keeps_record commit holder at) held ≡ true → ⊥
none-keeps job at held commit holder other alone locked =
    by (witness (keeps_record commit holder at) (λ b. (kind : LockKind) → blocks job at kind b ≡ true → ⊥) held locked alone)
  where
    by : (b : Lock) × (keeps_record commit holder at b ≡ true) × ((kind : LockKind) → blocks job at kind b ≡ true → ⊥) → ⊥
    by w =
        let keeps = keeps-is commit holder at w.0 w.1 in
        let its = keeps.job in
        let not_by : (w.0.job == job) ≡ false = grind (arith, nat_tests, its, other) in
        w.2 update_kind (and-all (is_on at w.0) (not (is_by job w.0)) (are_apart w.0.kind update_kind)
        (on-same at w.0 keeps.at) (ap not not_by) (or_true (is_update w.0.kind) (is_update update_kind) refl))

pub locked-free : (commit : Bool) (holder : Holder) (at : RecordId) (held : List Lock) (kind : LockKind) → AreCompatible held → list_any (keeps_record commit holder at) held ≡ true
    → blocker holder.job at kind held ≡ None
locked-free commit holder at held kind compatible locked =
    none-blocks holder.job at kind held (all-weaker (λ (b : Lock). (kind : LockKind) → blocks holder.job at kind b ≡ true → ⊥) (λ b. blocks holder.job at kind b ≡ true → ⊥) held (λ b none. none kind)
    (locked-alone commit holder at held compatible locked))

-- no lock stands at a place behind the last
pub behind-free : (m : Memory) (job : ℕ) (at : RecordId) (kind : LockKind) → at.rrn ≡ length (member_of at.member m.members).slots + 1 → AllByRecursion (LockStands m) m.locks
    → blocker job at kind m.locks ≡ None
behind-free m job at kind behind stand =
    none-blocks job at kind m.locks (all-weaker (LockStands m) (λ b. blocks job at kind b ≡ true → ⊥) m.locks (λ b stands blocked. (
    let there : b.at ≡ at = is_on-same at b (and-parts (is_on at b) (is_against job kind b) blocked).0 in
    let rrn : b.at.rrn ≡ at.rrn = ap (λ (x : RecordId). x.rrn) there in
    let few : b.at.rrn ≤ length (member_of at.member m.members).slots = subst (λ (x : RecordId). b.at.rrn ≤ length (member_of x.member m.members).slots) there stands.there in
    omega (arith, rrn, few, behind))) stand)

-- ---- what is asked for

pub asked-free : {A B : Type 0} (f : A → Option B) (o : Option A) → option_and_then f o ≡ None → IfSome o (λ a. f a ≡ None)
asked-free f None none = tt
asked-free f (Some a) none = none
