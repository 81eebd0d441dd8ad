-- Which record keeps a key: the least that the changes of a job took away, and the least of all jobs but one.
use Rattle.std.proofs.Common.{◌≡◌, ℕ, zero, suc, ◌+◌, ◌-◌, ◌<◌, ◌==◌, Bool, true, false, if◌then◌else◌, List, [], ◌∷◌, length, drop, Option, Some, None, is_some, Ok, Err, slice_get, refl, sym, ap, subst, ◌∙◌, arith}
use Rattle.std.specs.Borrow.{Bor}
use Rattle.std.specs.Option.{option_copied, option_map}
use Rattle.std.proofs.lemmas.Bool.Decides.{nat_tests}
use Rattle.file_model.specs.KeyOrder.{KeyValue}
use Rattle.file_model.specs.declared.paths.PathFormat.{PathFormat}
use Rattle.lawful_states.proofs.NameLemmas.{some-equal}
use Rattle.journal_model.specs.Rollback.{MemberChange}
use Rattle.job_table.specs.Changes.{KeptUndo}
use Rattle.library_model.specs.declared.replies.Reply.TheVariants.{HeldByGroup, RecordInUse}
use Rattle.library_steps.specs.Refusals.{◌>>=◌, refuse_with}
use Rattle.library_steps.specs.State.{JobState, job_at, or_new}
use Rattle.library_steps.specs.UniqueKeys.{Reservation}
use Rattle.library_steps.specs.Uses.{changes_in}
use Rattle.parts_model.specs.NewKeys.{AllAreAskedBefore, AreAskedBefore, first_reserved, keys_kept, least_of, least_reserved, own_kept, own_reserved, reservation_of, taken}
use Rattle.parts_model.specs.declared.keys.Reservation.{Reservation as Kept}
use Rattle.parts_model.proofs.TakenLemmas.{drop-at, each-at}

-- ---- the change at a place

slice-at : {A : Type 0} (xs : List A) (place : ℕ) → place < length xs → (x : A) × (slice_get xs place ≡ Some x)
slice-at [] place low = absurd (omega (arith, low))
slice-at (x ∷ xs) zero low = (x, refl)
slice-at (x ∷ xs) (suc place) low = slice-at xs place (omega (arith, low))

slice-some : {A : Type 0} (xs : List A) (place : ℕ) → place < length xs → is_some (slice_get xs place) ≡ true
slice-some xs place low = ap (λ (o : Option _). is_some o) (slice-at xs place low).1

pub undo-there : (o : Option (Bor KeptUndo)) (undos : List MemberChange) (place : ℕ) → option_map (λ (undo : KeptUndo). undo.change) (option_copied o) ≡ slice_get undos place → place < length undos
    → is_some o ≡ true
undo-there None undos place at low = (let some = slice-some undos place low in let none : is_some (slice_get undos place) ≡ false = ap (λ (u : Option MemberChange). is_some u) (sym at) in absurd cc)
undo-there (Some undo) undos place at low = refl

pub undo-is : (o : Option (Bor KeptUndo)) (undo : Bor KeptUndo) (undos : List MemberChange) (place : ℕ) → option_map (λ (undo : KeptUndo). undo.change) (option_copied o) ≡ slice_get undos place
    → o ≡ Some undo → slice_get undos place ≡ Some undo.now.change
undo-is o undo undos place at is = sym at ∙ ap (λ (u : Option (Bor KeptUndo)). option_map (λ (undo : KeptUndo). undo.change) (option_copied u)) is

-- ---- and those behind it

pub taken-at : (format : PathFormat) (key : List KeyValue) (undos : List MemberChange) (left place : ℕ) (undo : MemberChange) (least new : Option ℕ) → slice_get undos place ≡ Some undo
    → left ≡ place + 1 → least ≡ least_of (taken format key (drop left undos))
    → ((more : List MemberChange) → least ≡ least_of (taken format key more) → new ≡ least_of (taken format key (undo ∷ more)))
    → new ≡ least_of (taken format key (drop place undos))
taken-at format key undos left place undo least new at next is step =
    let behind : left ≡ suc place = omega (arith, next) in
    step (drop (suc place) undos) (is ∙ ap (λ (n : ℕ). least_of (taken format key (drop n undos))) behind)
    ∙ ap (λ (us : List MemberChange). least_of (taken format key us)) (sym (drop-at undos place undo at))

-- ---- the changes of the job at a place, before those of the jobs behind it

change-of : (o : Option JobState) (changes : List MemberChange) → option_map (λ (job : JobState). changes_in job.cycle) o ≡ Some changes
    → (job : JobState) × (o ≡ Some job) × (changes_in job.cycle ≡ changes)
change-of None changes at = absurd cc
change-of (Some job) changes at = (job, refl, some-equal at)

pub have-at : (format : PathFormat) (member place : ℕ) (jobs : List JobState) (changes : List MemberChange) → AllAreAskedBefore format member jobs
    → option_map (λ (job : JobState). changes_in job.cycle) (slice_get jobs place) ≡ Some changes → AreAskedBefore format member changes
have-at format member place jobs changes all at =
    let its = change-of (slice_get jobs place) changes at in
    subst (AreAskedBefore format member) its.2 (each-at (λ (job : JobState). AreAskedBefore format member (changes_in job.cycle)) jobs place its.0 all its.1)

-- those of the job with a number
pub have-of : (format : PathFormat) (member number : ℕ) (jobs : List JobState) → AllAreAskedBefore format member jobs → AreAskedBefore format member (changes_in (or_new (job_at number jobs)).cycle)
have-of format member number jobs all =
    elim (number == 0) as (λ b. AreAskedBefore format member (changes_in (or_new (if b then None else slice_get jobs (number - 1))).cycle)) [
      | true ↦ tt
      | false ↦ at (slice_get jobs (number - 1)) refl
    ]
  where
    at : (o : Option JobState) → slice_get jobs (number - 1) ≡ o → AreAskedBefore format member (changes_in (or_new o).cycle)
    at None is = tt
    at (Some job) is = each-at (λ (job : JobState). AreAskedBefore format member (changes_in job.cycle)) jobs (number - 1) job all is

module _ (format : PathFormat) (key : List KeyValue) (job : ℕ) (jobs : List JobState) (left place : ℕ) (changes : List MemberChange) (least : Option Reservation)
    (at : option_map (λ (one : JobState). changes_in one.cycle) (slice_get jobs place) ≡ Some changes) (next : left ≡ place + 1)
    (is : least ≡ least_reserved format key job (left + 1) (drop left jobs)) where
  reserved-at : (b : Bool) → ((place + 1) == job) ≡ b
      → (if b then least else first_reserved (place + 1) (least_of (taken format key changes)) least) ≡ least_reserved format key job (place + 1) (drop place jobs)
  reserved-at b own =
      let its = change-of (slice_get jobs place) changes at in
      let behind : left ≡ suc place = omega (arith, next) in
      let more : least ≡ least_reserved format key job ((place + 1) + 1) (drop (suc place) jobs) = is ∙ (λ i. least_reserved format key job (next i + 1) (drop (behind i) jobs)) in
      (λ i. if sym own i then more i else first_reserved (place + 1) (least_of (taken format key (sym its.2 i))) (more i))
      ∙ ap (λ (js : List JobState). least_reserved format key job (place + 1) js) (sym (drop-at jobs place its.0 its.1))

  pub reserved-other : (number : ℕ) (rrn : Option ℕ) (new : Option Reservation) → number ≡ place + 1 → (number ≡ job → ⊥) → rrn ≡ least_of (taken format key changes)
      → new ≡ first_reserved number rrn least → new ≡ least_reserved format key job (place + 1) (drop place jobs)
  reserved-other number rrn new is_number other least_is is_new =
      let differs : ((place + 1) == job) ≡ false = grind (arith, nat_tests) in
      is_new ∙ (λ i. first_reserved (is_number i) (least_is i) least) ∙ reserved-at false differs

-- the job itself is passed over
pub reserved-own : (format : PathFormat) (key : List KeyValue) (job : ℕ) (jobs : List JobState) (left place number : ℕ) (least : Option Reservation) → place < length jobs → left ≡ place + 1
    → least ≡ least_reserved format key job (left + 1) (drop left jobs) → number ≡ place + 1 → number ≡ job → least ≡ least_reserved format key job (place + 1) (drop place jobs)
reserved-own format key job jobs left place number least low next is is_number own =
    let its = slice-at jobs place low in
    let same : ((place + 1) == job) ≡ true = grind (arith, nat_tests) in
    reserved-at format key job jobs left place (changes_in its.0.cycle) least (ap (λ (o : Option JobState). option_map (λ (one : JobState). changes_in one.cycle) o) its.1) next is true same

-- ---- what keeps the key

module _ (format : PathFormat) (key : List KeyValue) (job : ℕ) (own : List MemberChange) (jobs : List JobState) where
  kept-by : (commit : Bool) (o : Option Reservation) → least_reserved format key job 1 jobs ≡ o
      → keys_kept format key job commit own jobs ≡ (refuse_with (λ (r : Reservation). RecordInUse r.job format.member r.rrn) o >>= (λ _. own_kept format key commit own))
  kept-by commit o is = ap (λ (r : Option Reservation). refuse_with (λ (r : Reservation). RecordInUse r.job format.member r.rrn) r >>= (λ _. own_kept format key commit own)) is

  -- another job
  pub kept-others : (commit : Bool) (r : Reservation) → least_reserved format key job 1 jobs ≡ Some r → keys_kept format key job commit own jobs ≡ Err (RecordInUse r.job format.member r.rrn)
  kept-others commit r is = kept-by commit (Some r) is

  -- the job itself, or none
  pub kept-here : (commit : Bool) → least_reserved format key job 1 jobs ≡ None → keys_kept format key job commit own jobs ≡ own_kept format key commit own
  kept-here commit is = kept-by commit None is

module _ (format : PathFormat) (key : List KeyValue) (own : List MemberChange) where
  -- none, under commitment
  pub own-commit : (commit : Bool) → commit ≡ true → own_kept format key commit own ≡ Ok true
  own-commit commit under = ap (λ (b : Bool). own_kept format key b own) under

  pub own-outside : (commit : Bool) (o : Option ℕ) → commit ≡ false → o ≡ least_of (taken format key own) → own_kept format key commit own ≡ refuse_with (λ rrn. HeldByGroup rrn) o
  own-outside commit o outside least_is = (λ i. refuse_with (λ rrn. HeldByGroup rrn) (own_reserved (outside i) (sym least_is i)))

-- nobody
pub kept-none : (format : PathFormat) (key : List KeyValue) (job : ℕ) (own : List MemberChange) (jobs : List JobState) (commit : Bool) (others : Option Kept) (least : Option ℕ)
    → option_map reservation_of others ≡ least_reserved format key job 1 jobs → least ≡ own_reserved commit (least_of (taken format key own)) → others ≡ None → least ≡ None
    → keys_kept format key job commit own jobs ≡ Ok true
kept-none format key job own jobs commit others least others_is least_is none nothing =
    kept-here format key job own jobs commit (sym others_is ∙ ap (λ (o : Option Kept). option_map reservation_of o) none)
    ∙ ap (λ (o : Option ℕ). refuse_with (λ rrn. HeldByGroup rrn) o) (sym least_is ∙ nothing)
