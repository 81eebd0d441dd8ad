-- What a state is whose memory and entries are those of a change, and how many locks a call may leave.
use Rattle.std.proofs.Common.{◌≡◌, ℕ, ◌+◌, ◌-◌, ◌≤◌, Bool, not, List, [], ◌∷◌, ◌++◌, length, drop, Option, Some, None, IfSome, Result, Ok, refl, sym, ◌∙◌, ap, arith, suc}
use Rattle.std.specs.Ordering.{is_eq, match_ordering}
use Rattle.std.specs.declared.cmp.Ordering.{Ordering}
use Rattle.std.specs.declared.cmp.Ordering.TheVariants.{Less, Equal, Greater}
use Rattle.commit_level.specs.declared.Level.{Level}
use Rattle.commit_level.specs.declared.Level.TheVariants.{Chg, Cs, All}
use Rattle.entry_codec.specs.declared.entries.Entry.{Entry}
use Rattle.entry_codec.specs.declared.entries.Draft.{Draft}
use Rattle.lock_table.specs.declared.lock.Lock.{Lock}
use Rattle.lock_table.specs.declared.lock.Holder.{Holder}
use Rattle.lock_table.specs.declared.lock.RecordId.{RecordId}
use Rattle.lock_table.specs.declared.lock.Reach.{Reach}
use Rattle.lock_table.specs.declared.lock.Reach.TheVariants.{Open, Boundary}
use Rattle.lock_table.specs.declared.levels.Call.{Call}
use Rattle.lock_table.specs.declared.levels.Call.TheVariants.{InputRead, UpdateRead, Update, Delete, Write, WriteAt, Unlock, Position, Close, Commit, Rollback, EndCommitment, EndJob}
use Rattle.lock_table.specs.declared.levels.Wanted.{Wanted}
use Rattle.lock_table.specs.declared.levels.OpenLocks.{OpenLocks}
use Rattle.lock_table.specs.declared.levels.OpenLocks.TheVariants.{Stay, OfOpen, OfRecord, OfCommitted, OfJob}
use Rattle.lock_table.specs.declared.table.TheConstants.{MOST_LOCKS}
use Rattle.lock_table.specs.Lock.{lock_by, lock_cmp, is_of_open, is_of_record, is_of_opens, is_of_job}
use Rattle.lock_table.specs.Table.{with_item, without_lock, with_lock_by}
use Rattle.lock_table.specs.Levels.{asked, gained, released, without_open_locks, with_wanted, locks_after}
use Rattle.library_model.specs.declared.replies.Reply.{Reply}
use Rattle.library_steps.specs.State.{State, Memory, memory_of, with_entries}
use Rattle.library_steps.specs.Change.{Change, deposited, journaled, unjournaled}
use Rattle.parts_model.specs.Answers.{Answers}
use Rattle.lawful_states.specs.Calls.{AsksNone, IsOfOpen}
use Rattle.parts_model.specs.Locks.{HasLockRoom}
use Rattle.parts_model.specs.Parts.{Room}
use Rattle.lawful_states.proofs.LockLemmas.{length-filter, left-Open}

pub append-nil : {X : Type 0} (xs : List X) → xs ++ [] ≡ xs
append-nil [] = refl
append-nil (x ∷ xs) = ap (λ rest. x ∷ rest) (append-nil xs)

drop-none : {X : Type 0} (n : ℕ) (xs : List X) → drop (n - n) xs ≡ xs
drop-none n xs = let none : n - n ≡ 0 = omega arith in ap (λ k. drop k xs) none

-- a state is its memory with its entries
with_entries-self : (s : State) → with_entries s.gone s.entries (memory_of s) ≡ s
with_entries-self s = ap (λ (entries : List Entry). record s { entries = entries }) (drop-none s.gone s.entries)

-- a state with the memory of a change, and with its entries behind those that it had
pub changed-state : (old new : State) (entries : List Entry) (m : Memory) → memory_of new ≡ m → m.gone ≡ old.gone → new.entries ≡ old.entries ++ entries
    → new ≡ with_entries old.gone (old.entries ++ entries) m
changed-state old new entries m is gone kept =
    let same : new.gone ≡ old.gone = ap (λ (x : Memory). x.gone) is ∙ gone in
    sym (with_entries-self new) ∙ (λ i. with_entries (same i) (kept i) (is i))

pub Answers-unjournaled : (old new : State) (reply : Reply) (m : Memory) (wanted : Result Change Reply) → wanted ≡ Ok (unjournaled reply m) → memory_of new ≡ m → m.gone ≡ old.gone
    → new.entries ≡ old.entries
    → Answers old new (Ok reply) wanted
Answers-unjournaled old new reply m wanted is memory gone kept = (unjournaled reply m, is, refl, changed-state old new [] m memory gone (kept ∙ sym (append-nil old.entries)))

pub Answers-journaled : (old new : State) (drafts : List Draft) (forced : Bool) (reply : Reply) (m : Memory) (wanted : Result Change Reply) → wanted ≡ Ok (journaled drafts forced reply m)
    → memory_of new ≡ record m { last_entry = m.last_entry + length drafts } → m.gone ≡ old.gone → new.entries ≡ old.entries ++ deposited m drafts → Answers old new (Ok reply) wanted
Answers-journaled old new drafts forced reply m wanted is memory gone kept =
    (journaled drafts forced reply m, is, refl, changed-state old new (deposited m drafts) (record m { last_entry = m.last_entry + length drafts }) memory gone kept)

-- ---- one lock more at most

length-with_item : {X : Type 0} (R : X → X → Ordering) (x : X) (xs : List X) → length (with_item R x xs) ≤ length xs + 1
length-with_item R x [] = omega arith
length-with_item R x (y ∷ ys) =
    let rest = length-with_item R x ys in
    elim (R x y) as (λ r. length (match_ordering r (x ∷ y ∷ ys) (y ∷ ys) (y ∷ with_item R x ys)) ≤ suc (length ys) + 1) [
      | Less ↦ omega arith
      | Equal ↦ omega arith
      | Greater ↦ omega (arith, rest)
    ]

length-with_wanted : (wanted : Option Wanted) (holder : Holder) (at : RecordId) (held : List Lock) → length (with_wanted wanted holder at held) ≤ length held + 1
length-with_wanted None holder at held = omega arith
length-with_wanted (Some wanted) holder at held = by wanted.reach
  where
    by : (reach : Reach) → length (with_lock_by holder at wanted.kind reach held) ≤ length held + 1
    by Open = length-with_item lock_cmp (lock_by holder at wanted.kind Open) held
    by Boundary =
        let fewer : length (without_lock (lock_by holder at wanted.kind Open) held) ≤ length held = length-filter (λ lock. not (is_eq (lock_cmp lock (lock_by holder at wanted.kind Open)))) held in
        let more = length-with_item lock_cmp (lock_by holder at wanted.kind Boundary) (without_lock (lock_by holder at wanted.kind Open) held) in
        omega (arith, fewer, more)

length-without_open : (which : OpenLocks) (holder : Holder) (at : RecordId) (is_committed : ℕ → Bool) (held : List Lock) → length (without_open_locks which holder at is_committed held) ≤ length held
length-without_open Stay holder at is_committed held = omega arith
length-without_open OfOpen holder at is_committed held = length-filter (λ lock. not (is_of_open holder lock)) held
length-without_open OfRecord holder at is_committed held = length-filter (λ lock. not (is_of_record holder.job at lock)) held
length-without_open OfCommitted holder at is_committed held = length-filter (λ lock. not (is_of_opens holder.job is_committed lock)) held
length-without_open OfJob holder at is_committed held = length-filter (λ lock. not (is_of_job holder.job lock)) held

pub locks-fit : (call : Call) (level : Option Level) (holder : Holder) (at : RecordId) (is_committed : ℕ → Bool) (s : State) (room : Room) → IsOfOpen call → HasLockRoom s room
    → length (locks_after call level holder at is_committed s.locks) ≤ MOST_LOCKS → length (locks_after call level holder at is_committed s.locks) ≤ room.locks
locks-fit call level holder at is_committed s room of has few =
    let left = left-Open call level holder at is_committed s.locks of in
    let more = length-with_wanted (gained call level) holder at (without_open_locks (released call level).open_locks holder at is_committed s.locks) in
    let fewer = length-without_open (released call level).open_locks holder at is_committed s.locks in
    let same = ap length left in
    omega (arith, more, fewer, same, has, few)

-- ---- calls that ask for no lock

pub AsksNone-of_open : (call : Call) → AsksNone call → IsOfOpen call
AsksNone-of_open Unlock asks = tt
AsksNone-of_open Position asks = tt
AsksNone-of_open Close asks = tt
AsksNone-of_open InputRead asks = absurd asks
AsksNone-of_open UpdateRead asks = absurd asks
AsksNone-of_open Update asks = absurd asks
AsksNone-of_open Delete asks = absurd asks
AsksNone-of_open Write asks = absurd asks
AsksNone-of_open WriteAt asks = absurd asks
AsksNone-of_open Commit asks = absurd asks
AsksNone-of_open Rollback asks = absurd asks
AsksNone-of_open EndCommitment asks = absurd asks
AsksNone-of_open EndJob asks = absurd asks

none-Unlock : (level : Option Level) → asked Unlock level ≡ None
none-Unlock None = refl
none-Unlock (Some Chg) = refl
none-Unlock (Some Cs) = refl
none-Unlock (Some All) = refl

-- it asks for none, and leaves none
pub AsksNone-none : (call : Call) (level : Option Level) → AsksNone call → (asked call level ≡ None) × (gained call level ≡ None)
AsksNone-none Unlock level asks = (none-Unlock level, none-Unlock level)
AsksNone-none Position level asks = (none-Unlock level, none-Unlock level)
AsksNone-none Close level asks = (none-Unlock level, none-Unlock level)
AsksNone-none InputRead level asks = absurd asks
AsksNone-none UpdateRead level asks = absurd asks
AsksNone-none Update level asks = absurd asks
AsksNone-none Delete level asks = absurd asks
AsksNone-none Write level asks = absurd asks
AsksNone-none WriteAt level asks = absurd asks
AsksNone-none Commit level asks = absurd asks
AsksNone-none Rollback level asks = absurd asks
AsksNone-none EndCommitment level asks = absurd asks
AsksNone-none EndJob level asks = absurd asks

pub AsksNone-unlocked : (call : Call) (level : Option Level) (P : Wanted → Type 0) → AsksNone call → IfSome (asked call level) P
AsksNone-unlocked call level P asks = let none = (AsksNone-none call level asks).0 in rw none tt

-- no more locks are left than were held
pub length-AsksNone : (call : Call) (level : Option Level) (holder : Holder) (at : RecordId) (is_committed : ℕ → Bool) (held : List Lock) → AsksNone call
    → length (locks_after call level holder at is_committed held) ≤ length held
length-AsksNone call level holder at is_committed held asks =
    let left = left-Open call level holder at is_committed held (AsksNone-of_open call asks) in
    let none = (AsksNone-none call level asks).1 in
    let fewer = length-without_open (released call level).open_locks holder at is_committed held in
    rw left (rw none fewer)
