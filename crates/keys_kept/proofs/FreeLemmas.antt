-- What a plan that asked for free keys tells: each key that comes in is no other record's, and no open commit cycle keeps it to itself.
use Rattle.std.proofs.Common.{◌≡◌, ◌≢◌, ◌⊎◌, inl, inr, ◌∙◌, ℕ, zero, suc, ◌+◌, ◌-◌, ◌≤◌, ◌==◌, ◌||◌, nat_lt, cond, if◌then◌else◌, not, Bool, true, false, List, [], ◌∷◌, filter, filter_map, slice_get, Option, Some, None, subst, refl, sym, ap, arith}
use Rattle.std.specs.List.{AllByRecursion, cons_option, list_any}
use Rattle.std.specs.Option.{option_map}
use Rattle.std.specs.Ordering.{is_eq}
use Rattle.std.proofs.lemmas.Bool.{true≢false, eq-eqb, ne_eqb, or_cases, or_left, or_parts, or_right}
use Rattle.std.proofs.lemmas.Bool.Decides.{nat_tests}
use Rattle.std.proofs.lemmas.List.Folds.{list_any-append}
use Rattle.member_slots.specs.declared.slot.Slot.{Slot}
use Rattle.member_slots.specs.declared.slot.Slot.TheVariants.{Live, Deleted}
use Rattle.member_slots.specs.Members.{member_of}
use Rattle.file_model.specs.declared.paths.PathFormat.{PathFormat}
use Rattle.file_model.specs.KeyOrder.{KeyValue, compare_keys}
use Rattle.journal_model.specs.Places.{slot_of}
use Rattle.journal_model.specs.Replay.{before_of}
use Rattle.journal_model.specs.Rollback.{MemberChange}
use Rattle.library_model.specs.declared.replies.Reply.TheVariants.{RecordInUse, HeldByGroup, DuplicateKey}
use Rattle.library_steps.specs.State.{Memory, JobState, job_at, new_job, or_new}
use Rattle.library_steps.specs.Refusals.{refuse_with}
use Rattle.library_steps.specs.UniqueKeys.{NewKey, Reservation, UniquePath, has_key, if_new, key_in, key_of_slot, keys_free, least, lesser, new_key_in, new_keys, none_repeated, none_reserved, not_reserved, other_record, own_reservation, reservation_of_others, reservations, reserved_by, takes_key, unique_paths}
use Rattle.library_steps.specs.Uses.{changes_in}
use Rattle.key_state.specs.Keys.{changes_by}
use Rattle.cycles_kept.proofs.HoldLemmas.{Holds, bind-holds, wider-holds, with-none}
use Rattle.key_state.proofs.FormatLemmas.{HasPath, IsOver, path-over}
use Rattle.key_state.proofs.KeyLemmas.{has-back, has-equal, other-none}
use Rattle.key_state.proofs.ListLemmas.{all-in, filter-none, flat-each}
use Rattle.key_state.proofs.RestoredLemmas.{takes-from, takes-parts}
use Rattle.key_state.proofs.UniqueLemmas.{MayShow, Shows}

-- ---- the plan, key by key

pub record IsUnreserved (job : ℕ) (commit : Bool) (m : Memory) (new : NewKey) : Type 0 where
  pub others : reservation_of_others job new m ≡ None
  pub own : own_reservation job commit new m ≡ None

not_reserved-is : (job : ℕ) (commit : Bool) (m : Memory) (new : NewKey) → Holds (not_reserved job commit new m) (λ ok. IsUnreserved job commit m new)
not_reserved-is job commit m new =
    bind-holds (refuse_with (λ (r : Reservation). RecordInUse r.job new.format.member r.rrn) (reservation_of_others job new m)) (λ ok. reservation_of_others job new m ≡ None) _ _
    (with-none (λ (r : Reservation). RecordInUse r.job new.format.member r.rrn) (reservation_of_others job new m)) (λ ok none.
    wider-holds (refuse_with (λ (r : Reservation). HeldByGroup r.rrn) (own_reservation job commit new m)) (λ held. own_reservation job commit new m ≡ None) _
    (λ held own. record { others = none; own = own }) (with-none (λ (r : Reservation). HeldByGroup r.rrn) (own_reservation job commit new m)))

none_reserved-all : (job : ℕ) (commit : Bool) (m : Memory) (keys : List NewKey) → Holds (none_reserved job commit keys m) (λ ok. AllByRecursion (IsUnreserved job commit m) keys)
none_reserved-all job commit m [] = record { holds = tt }
none_reserved-all job commit m (new ∷ keys) =
    bind-holds (not_reserved job commit new m) (λ ok. IsUnreserved job commit m new) _ _ (not_reserved-is job commit m new) (λ ok this.
    wider-holds (none_reserved job commit keys m) (λ done. AllByRecursion (IsUnreserved job commit m) keys) _ (λ done rest. (this, rest)) (none_reserved-all job commit m keys))

none_repeated-all : (rrn : ℕ) (m : Memory) (keys : List NewKey) → Holds (none_repeated rrn keys m) (λ ok. AllByRecursion (λ new. other_record new rrn m ≡ None) keys)
none_repeated-all rrn m [] = record { holds = tt }
none_repeated-all rrn m (new ∷ keys) =
    bind-holds (refuse_with (λ (other : ℕ). DuplicateKey new.file other) (other_record new rrn m)) (λ ok. other_record new rrn m ≡ None) _ _
    (with-none (λ (other : ℕ). DuplicateKey new.file other) (other_record new rrn m)) (λ ok this.
    wider-holds (none_repeated rrn keys m) (λ done. AllByRecursion (λ (n : NewKey). other_record n rrn m ≡ None) keys) _ (λ done rest. (this, rest)) (none_repeated-all rrn m keys))

-- all keys that come in are free
pub record AreFree (job : ℕ) (commit : Bool) (rrn : ℕ) (m : Memory) (keys : List NewKey) : Type 0 where
  pub unreserved : AllByRecursion (IsUnreserved job commit m) keys
  pub unrepeated : AllByRecursion (λ new. other_record new rrn m ≡ None) keys

pub keys_free-are : (job : ℕ) (commit : Bool) (member rrn : ℕ) (old : Slot) (image : List ℕ) (m : Memory)
    → Holds (keys_free job commit member rrn old image m) (λ ok. AreFree job commit rrn m (new_keys member old image m))
keys_free-are job commit member rrn old image m =
    bind-holds (none_reserved job commit (new_keys member old image m) m) (λ ok. AllByRecursion (IsUnreserved job commit m) (new_keys member old image m)) _ _
    (none_reserved-all job commit m (new_keys member old image m)) (λ ok unreserved.
    wider-holds (none_repeated rrn (new_keys member old image m) m) (λ done. AllByRecursion (λ (n : NewKey). other_record n rrn m ≡ None) (new_keys member old image m)) _
    (λ done unrepeated. record { unreserved = unreserved; unrepeated = unrepeated }) (none_repeated-all rrn m (new_keys member old image m)))

-- ---- no reservation

lesser-some : (r : Reservation) (o : Option Reservation) → lesser r o ≡ None → ⊥
lesser-some r None none = absurd cc
lesser-some r (Some other) none =
    elim (nat_lt other.rrn r.rrn) as (λ b. cond b (Some other) (Some r) ≡ None → ⊥) [
      | true ↦ λ h. absurd cc
      | false ↦ λ h. absurd cc
    ] none

least-none : (rs : List Reservation) → least rs ≡ None → rs ≡ []
least-none [] none = refl
least-none (r ∷ rs) none = absurd (lesser-some r (least rs) none)

-- none of the changes took the key away, where no reservation of theirs passes a test that all of the job pass
unreserved-changes : (new : NewKey) (test : Reservation → Bool) (number : ℕ) → ((rrn : ℕ) → test (record { job = number; rrn = rrn }) ≡ true) → (undos : List MemberChange)
    → list_any test (filter_map (λ undo. if takes_key new.format new.key undo then Some (record { job = number; rrn = undo.change.place + 1 }) else None) undos) ≡ false
    → list_any (takes_key new.format new.key) undos ≡ false
unreserved-changes new test number passes [] none = refl
unreserved-changes new test number passes (undo ∷ undos) none =
    elim (takes_key new.format new.key undo) as
    (λ b. list_any test (cons_option (cond b (Some (record { job = number; rrn = undo.change.place + 1 })) None)
    (filter_map (λ (u : MemberChange). if takes_key new.format new.key u then Some (record { job = number; rrn = u.change.place + 1 }) else None) undos)) ≡ false
    → (b || list_any (takes_key new.format new.key) undos) ≡ false) [
      | true ↦ λ h. absurd (true≢false (sym (passes (undo.change.place + 1)) ∙ (or_parts (test (record { job = number; rrn = undo.change.place + 1 })) (list_any test rest) h).0))
      | false ↦ λ h. unreserved-changes new test number passes undos h
    ] none
  where
    rest : List Reservation
    rest = filter_map (λ (u : MemberChange). if takes_key new.format new.key u then Some (record { job = number; rrn = u.change.place + 1 }) else None) undos

unreserved-jobs : (new : NewKey) (test : Reservation → Bool) (first : ℕ) (jobs : List JobState) (place number : ℕ) (job : JobState) → number ≡ first + place
    → ((rrn : ℕ) → test (record { job = number; rrn = rrn }) ≡ true) → list_any test (reservations new first jobs) ≡ false → slice_get jobs place ≡ Some job
    → list_any (takes_key new.format new.key) (changes_in job.cycle) ≡ false
unreserved-jobs new test first [] place number job is passes none here = absurd cc
unreserved-jobs new test first (j ∷ jobs) zero number job is passes none here =
    let same : j ≡ job = cc in
    let at : number ≡ first = omega (arith, is) in
    let parts = or_parts (list_any test (reserved_by new first j)) (list_any test (reservations new (first + 1) jobs)) (sym (list_any-append test (reserved_by new first j) (reservations new (first + 1) jobs)) ∙ none) in
    subst (λ (k : JobState). list_any (takes_key new.format new.key) (changes_in k.cycle) ≡ false) same
    (unreserved-changes new test first (λ rrn. subst (λ (n : ℕ). test (record { job = n; rrn = rrn }) ≡ true) at (passes rrn)) (changes_in j.cycle) parts.0)
unreserved-jobs new test first (j ∷ jobs) (suc place) number job is passes none here =
    let parts = or_parts (list_any test (reserved_by new first j)) (list_any test (reservations new (first + 1) jobs)) (sym (list_any-append test (reserved_by new first j) (reservations new (first + 1) jobs)) ∙ none) in
    unreserved-jobs new test (first + 1) jobs place number job (omega (arith, is)) passes parts.1 here

-- what holds of each job that has begun, and of one that has done nothing, holds of the job with a number
pub job-each : (P : ℕ → JobState → Type 0) (jobs : List JobState) → ((number : ℕ) → P number (new_job []))
    → ((place : ℕ) (job : JobState) → slice_get jobs place ≡ Some job → P (place + 1) job) → (number : ℕ) → P number (or_new (job_at number jobs))
job-each P jobs none each number =
    elim (number == 0) as (λ b. (number == 0) ≡ b → P number (or_new (if b then None else slice_get jobs (number - 1)))) [
      | true ↦ λ e. none number
      | false ↦ λ e. counted e
    ] refl
  where
    counted : (number == 0) ≡ false → P number (or_new (slice_get jobs (number - 1)))
    counted e =
        let first : 1 ≤ number = grind (arith, nat_tests, e) in
        let turned : number - 1 + 1 ≡ number = omega (arith, first) in
        elim (slice_get jobs (number - 1)) as (λ o. slice_get jobs (number - 1) ≡ o → P number (or_new o)) [
          | None ↦ λ h. none number
          | Some job ↦ λ h. subst (λ (n : ℕ). P n job) turned (each (number - 1) job h)
        ] refl

-- no reservation of a job with this number passes, so its commit cycle didn't take the key
unreserved-job : (new : NewKey) (test : Reservation → Bool) (m : Memory) (number : ℕ) → ((rrn : ℕ) → test (record { job = number; rrn = rrn }) ≡ true)
    → least (filter test (reservations new 1 m.jobs)) ≡ None → list_any (takes_key new.format new.key) (changes_by number m) ≡ false
unreserved-job new test m number passes none =
    job-each (λ n job. ((rrn : ℕ) → test (record { job = n; rrn = rrn }) ≡ true) → list_any (takes_key new.format new.key) (changes_in job.cycle) ≡ false) m.jobs (λ n p. refl)
    (λ place job here p. unreserved-jobs new test 1 m.jobs place (place + 1) job (omega arith) p
    (filter-none test (reservations new 1 m.jobs) (least-none (filter test (reservations new 1 m.jobs)) none)) here) number passes

-- another job, or the job itself outside its commit cycle
abbrev pub Stands : ℕ → Bool → ℕ → Type 0
Stands job commit number = (number ≢ job) ⊎ ((number ≡ job) × (commit ≡ false))

unreserved-by : (job : ℕ) (commit : Bool) (m : Memory) (new : NewKey) → IsUnreserved job commit m new → (number : ℕ) → Stands job commit number
    → list_any (takes_key new.format new.key) (changes_by number m) ≡ false
unreserved-by job commit m new free number (inl differ) =
    unreserved-job new (λ (r : Reservation). not (r.job == job)) m number (λ rrn. ap not (ne_eqb number job differ)) free.others
unreserved-by job true m new free number (inr its) = absurd (true≢false its.1)
unreserved-by job false m new free number (inr its) = unreserved-job new (λ (r : Reservation). r.job == job) m number (λ rrn. eq-eqb number job its.0) free.own

-- ---- the key of a format

cons-some : (P : NewKey → Type 0) (o : Option NewKey) (new : NewKey) → o ≡ Some new → AllByRecursion P (cons_option o []) → P new
cons-some P o new is all = let here : AllByRecursion P (new ∷ []) = subst (λ (p : Option NewKey). AllByRecursion P (cons_option p [])) is all in here.0

-- what holds of all keys that come in holds of the one that comes into a path
new-key : (P : NewKey → Type 0) (old : Slot) (image : List ℕ) (m : Memory) (format : PathFormat) (path : HasPath m format) (key : List KeyValue)
    → key_in format image ≡ Some key → has_key (key_of_slot format old) key ≡ false → AllByRecursion P (new_keys format.member old image m)
    → P (record { file = path.unique.file; format = format; key = key })
new-key P old image m format path key shows fresh all =
    cons-some P (new_key_in path.unique.file old image format) (record { file = path.unique.file; format = format; key = key })
    (ap (λ (o : Option (List KeyValue)). option_map (λ (k : List KeyValue). record { file = path.unique.file; format = format; key = k }) (if_new (key_of_slot format old) o)) shows
    ∙ ap (λ b. option_map (λ (k : List KeyValue). record { file = path.unique.file; format = format; key = k }) (if b then None else Some key)) fresh)
    (subst (λ (formats : List PathFormat). AllByRecursion P (filter_map (new_key_in path.unique.file old image) formats)) path.alone
    (all-in (λ (u : UniquePath). AllByRecursion P (filter_map (new_key_in u.file old image) u.path.formats)) path.unique (unique_paths format.member m)
    (flat-each P (λ (u : UniquePath). filter_map (new_key_in u.file old image) u.path.formats) (unique_paths format.member m) all) path.among))

any-wider : {X : Type 0} (test other : X → Bool) (xs : List X) → ((x : X) → test x ≡ true → other x ≡ true) → list_any test xs ≡ true → list_any other xs ≡ true
any-wider test other [] wider some = absurd (true≢false (sym some))
any-wider test other (x ∷ xs) wider some =
    elim (or_cases (test x) (list_any test xs) some) [
      | inl first ↦ or_left (other x) (list_any other xs) (wider x first)
      | inr later ↦ or_right (other x) (list_any other xs) (any-wider test other xs wider later)
    ]

-- a record may have its keys in the format of a path over its member
module _ (job : ℕ) (commit : Bool) (format : PathFormat) (place : ℕ) (old : Slot) (image : List ℕ) (m : Memory)
    (was : (old ≡ slot_of (member_of format.member m.members).slots place) ⊎ (old ≡ Deleted))
    (free : AreFree job commit (place + 1) m (new_keys format.member old image m)) where
  -- a key of the slot before it
  kept : (key : List KeyValue) → Shows format key old → Shows format key (slot_of (member_of format.member m.members).slots place)
  kept key has =
      elim was [
        | inl same ↦ subst (Shows format key) same has
        | inr deleted ↦ absurd (true≢false (sym (subst (Shows format key) deleted has)))
      ]

  pub one-may : HasPath m format → (number : ℕ) → Stands job commit number
      → MayShow format place (Live image) (λ p. slot_of (member_of format.member m.members).slots p) (changes_by number m)
  one-may path number stands key shows =
      elim (key_in format image) as
      (λ o. key_in format image ≡ o → has_key o key ≡ true
      → Shows format key (slot_of (member_of format.member m.members).slots place)
      ⊎ (((other : ℕ) → other ≢ place → Shows format key (slot_of (member_of format.member m.members).slots other) → ⊥)
      × (list_any (takes_key format key) (changes_by number m) ≡ true → ⊥))) [
        | None ↦ λ e h. absurd (true≢false (sym h))
        | Some new ↦ λ e h. by new e h
      ] refl shows
    where
      fresh : (new : List KeyValue) → key_in format image ≡ Some new → is_eq (compare_keys new key) ≡ true
          → has_key (key_of_slot format old) new ≡ false
          → ((other : ℕ) → other ≢ place → Shows format key (slot_of (member_of format.member m.members).slots other) → ⊥)
          × (list_any (takes_key format key) (changes_by number m) ≡ true → ⊥)
      fresh new e same hasnt =
          let none = new-key (λ (n : NewKey). other_record n (place + 1) m ≡ None) old image m format path new e hasnt free.unrepeated in
          let unreserved = new-key (IsUnreserved job commit m) old image m format path new e hasnt free.unreserved in
          let untaken = unreserved-by job commit m (record { file = path.unique.file; format = format; key = new }) unreserved number stands in (
            λ other differ its.
                let at = other-none format new (place + 1) (member_of format.member m.members).slots none other
                (has-back (key_of_slot format (slot_of (member_of format.member m.members).slots other)) new key same its) in
                differ (omega (arith, at)),
            λ some. true≢false (sym (any-wider (takes_key format key) (takes_key format new) (changes_by number m)
                (λ undo takes.
                let parts = takes-parts format key undo takes in
                takes-from format new undo parts.0 (has-back (key_of_slot format (before_of undo.change)) new key same parts.1)) some) ∙ untaken),
          )

      by : (new : List KeyValue) → key_in format image ≡ Some new → is_eq (compare_keys new key) ≡ true
          → Shows format key (slot_of (member_of format.member m.members).slots place)
          ⊎ (((other : ℕ) → other ≢ place → Shows format key (slot_of (member_of format.member m.members).slots other) → ⊥)
          × (list_any (takes_key format key) (changes_by number m) ≡ true → ⊥))
      by new e same =
          elim (has_key (key_of_slot format old) new) as
          (λ b. has_key (key_of_slot format old) new ≡ b
          → Shows format key (slot_of (member_of format.member m.members).slots place)
          ⊎ (((other : ℕ) → other ≢ place → Shows format key (slot_of (member_of format.member m.members).slots other) → ⊥)
          × (list_any (takes_key format key) (changes_by number m) ≡ true → ⊥))) [
            | true ↦ λ has. inl (kept key (has-equal (key_of_slot format old) new key same has))
            | false ↦ λ hasnt. inr (fresh new e same hasnt)
          ] refl

pub image-may : (job : ℕ) (commit : Bool) (member place : ℕ) (old : Slot) (image : List ℕ) (m : Memory) → (old ≡ slot_of (member_of member m.members).slots place) ⊎ (old ≡ Deleted)
    → AreFree job commit (place + 1) m (new_keys member old image m) → (format : PathFormat) → IsOver m.files format → format.member ≡ member → (number : ℕ) → Stands job commit number
    → MayShow format place (Live image) (λ p. slot_of (member_of format.member m.members).slots p) (changes_by number m)
image-may job commit member place old image m was free format over of =
    one-may job commit format place old image m
    (subst (λ (n : ℕ). (old ≡ slot_of (member_of n m.members).slots place) ⊎ (old ≡ Deleted)) (sym of) was)
    (subst (λ (n : ℕ). AreFree job commit (place + 1) m (new_keys n old image m)) (sym of) free) (path-over m format over)
