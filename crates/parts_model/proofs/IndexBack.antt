-- While the changes of a commit cycle are taken back one after another, the last one first, the kept paths are those of the members as they are then.
use Rattle.std.proofs.Common.{ℕ, zero, suc, ◌+◌, ◌-◌, ◌<◌, ◌≤◌, ◌≡◌, ◌==◌, if◌then◌else◌, IsTrue, Bool, true, false, cond, List, [], ◌∷◌, length, map, get_or, slice_get, Some, None, refl, sym, ap, arith, ◌∙◌, subst}
use Rattle.std.specs.Prelude.{filter}
use Rattle.std.specs.List.{AllByRecursion}
use Rattle.std.proofs.lemmas.Bool.{cond-false, ne_eqb}
use Rattle.member_slots.specs.declared.slot.Slot.{Slot}
use Rattle.member_slots.specs.Member.{MemberState, slot_at, changed}
use Rattle.member_slots.specs.Members.{NumberedMembers, member_of}
use Rattle.file_model.specs.declared.paths.PathSpec.{PathSpec}
use Rattle.journal_model.specs.Places.{slot_of}
use Rattle.journal_model.specs.Replay.{before_of}
use Rattle.journal_model.specs.Rollback.{MemberChange}
use Rattle.path_set.specs.declared.moves.PathMove.{PathMove}
use Rattle.path_set.specs.KeptPaths.{KeptPaths, NumberedPaths, AreShared, spare_of}
use Rattle.path_set.specs.MemberSteps.{is_over}
use Rattle.path_set.specs.RecordChanges.{reversed, moves_in, paths_after, CanBeMade, count_in}
use Rattle.path_set.specs.MemberChanges.{IsRecordChange}
use Rattle.path_set.proofs.MemberStepLemmas.{replaced-changes}
use Rattle.path_set.proofs.RecordLemmas.{paths-made, moves-later}
use Rattle.job_table.specs.Opens.{OpenOrder}
use Rattle.job_table.specs.Table.{changed_at, job_of_number}
use Rattle.library_model.specs.Named.{Named}
use Rattle.library_steps.specs.Commitment.{rolled_back_open, without_cycle}
use Rattle.library_steps.specs.EndJob.{ended_job}
use Rattle.library_steps.specs.History.{is_running}
use Rattle.library_steps.specs.State.{FileState, JobState, job_at, job_changed, or_new, with_opens}
use Rattle.library_steps.specs.Uses.{changes_in}
use Rattle.lawful_states.specs.Back.{member_back}
use Rattle.parts_model.specs.Indexed.{HasBytes, record_change, moves_back, moves_of_job, changes_over, IsIndexed}
use Rattle.lawful_states.specs.Lawful.{FitsPlace}
use Rattle.parts_model.specs.Standing.{StandAsMade}
use Rattle.parts_model.specs.TakingBack.{IsTakingBack, CanTakeBack, count_over}
use Rattle.lawful_states.proofs.BackLemmas.{FitsPlace-with}
use Rattle.lawful_states.proofs.MemberLemmas.{length-changed, record_length-changed}
use Rattle.parts_model.proofs.IndexPaths.{counted_in, changes_over-cons, room-of_spares, so_many, spares-fewer}
use Rattle.parts_model.proofs.IndexChanges.{IsIndexed-ended, IsIndexed-rolled_back}
use Rattle.parts_model.proofs.IndexRecords.{IsIndexed-made, bytes-changed, bytes-member, bytes-with, spares-fall}

-- ---- the beginning

-- the moves of a job's changes
pub moves-at : (paths : NumberedPaths) (jobs : List JobState) (moves : List (List (List PathMove))) (number : ℕ) → IsTrue (is_running (job_at number jobs)) → moves ≡ map (moves_of_job paths) jobs
    → get_or moves (number - 1) [] ≡ map (moves_back paths) (changes_in (job_of_number number jobs).cycle)
moves-at paths jobs moves number running is =
    elim (number == 0) as (λ b. IsTrue (is_running (if b then None else slice_get jobs (number - 1)))
    → get_or moves (number - 1) [] ≡ map (moves_back paths) (changes_in (or_new (if b then None else slice_get jobs (number - 1))).cycle)) [
      | true ↦ λ h. absurd cc
      | false ↦ λ h. ap (λ (w : List (List (List PathMove))). get_or w (number - 1) []) is ∙ got jobs (number - 1) h
    ] running
  where
    got : (js : List JobState) (place : ℕ) → IsTrue (is_running (slice_get js place))
        → get_or (map (moves_of_job paths) js) place [] ≡ map (moves_back paths) (changes_in (or_new (slice_get js place)).cycle)
    got [] place h = absurd cc
    got (job ∷ js) zero h = refl
    got (job ∷ js) (suc place) h = got js place h

-- the changes of a job's commit cycle, and those of all jobs without it
counted-over : (spec : PathSpec) (place : ℕ) (change : JobState → JobState) (jobs : List JobState) → ((job : JobState) → changes_in (change job).cycle ≡ [])
    → changes_over spec jobs ≡ count_over spec (changes_in (or_new (slice_get jobs place)).cycle) + changes_over spec (job_changed place change jobs)
counted-over spec place change [] none = omega arith
counted-over spec zero change (job ∷ jobs) none =
    let before = changes_over-cons spec job jobs in
    let after = changes_over-cons spec (change job) jobs in
    let gone : counted_in spec (change job) ≡ 0 = ap (count_over spec) (none job) in
    omega (arith, before, after, gone)
counted-over spec (suc place) change (job ∷ jobs) none =
    let before = changes_over-cons spec job jobs in
    let after = changes_over-cons spec job (job_changed place change jobs) in
    let rest = counted-over spec place change jobs none in
    omega (arith, before, after, rest)

module _ (files : Named FileState) (members : NumberedMembers) (jobs : List JobState) (orders : List (Named OpenOrder)) (moves : List (List (List PathMove))) (kept : KeptPaths)
    (number : ℕ) (running : IsTrue (is_running (job_at number jobs))) (steps : List (List PathMove)) where
  counted : (spec : PathSpec) (change : JobState → JobState) → ((job : JobState) → changes_in (change job).cycle ≡ [])
      → changes_over spec jobs ≡ count_over spec (changes_in (job_of_number number jobs).cycle) + changes_over spec (job_changed (number - 1) change jobs)
  counted spec change none =
      elim (number == 0) as (λ b. IsTrue (is_running (if b then None else slice_get jobs (number - 1)))
      → changes_over spec jobs ≡ count_over spec (changes_in (or_new (if b then None else slice_get jobs (number - 1))).cycle) + changes_over spec (job_changed (number - 1) change jobs)) [
        | true ↦ λ h. absurd cc
        | false ↦ λ h. counted-over spec (number - 1) change jobs none
      ] running

  taking-first : (change : JobState → JobState) (others : List (Named OpenOrder)) (later : List (List (List PathMove))) → ((job : JobState) → changes_in (change job).cycle ≡ [])
      → IsIndexed files members (job_changed (number - 1) change jobs) others later kept → IsIndexed files members jobs orders moves kept
      → steps ≡ map (moves_back kept.paths) (changes_in (job_of_number number jobs).cycle) → AllByRecursion (FitsPlace members) (changes_in (job_of_number number jobs).cycle)
      → StandAsMade (changes_in (job_of_number number jobs).cycle) members
      → IsTakingBack files (job_changed (number - 1) change jobs) others later members kept (changes_in (job_of_number number jobs).cycle) steps
  taking-first change others later none over indexed same fit stand = record {
    indexed = over;
    same = same;
    spares = spares-fewer (λ spec. count_over spec (changes_in (job_of_number number jobs).cycle) + changes_over spec (job_changed (number - 1) change jobs)) (λ spec. changes_over spec jobs) kept
        (λ spec. let e = counted spec change none in omega (arith, e)) indexed.room;
    fit = fit;
    stand = stand;
  }

  -- ROLLBACK
  pub taking-rolled_back : IsIndexed files members jobs orders moves kept → steps ≡ map (moves_back kept.paths) (changes_in (job_of_number number jobs).cycle)
      → AllByRecursion (FitsPlace members) (changes_in (job_of_number number jobs).cycle) → StandAsMade (changes_in (job_of_number number jobs).cycle) members
      → IsTakingBack files (job_changed (number - 1) (λ j. with_opens rolled_back_open (without_cycle j)) jobs) orders (changed_at (number - 1) (λ ms. []) moves) members kept
      (changes_in (job_of_number number jobs).cycle) steps
  taking-rolled_back indexed same fit stand =
      taking-first (λ j. with_opens rolled_back_open (without_cycle j)) orders (changed_at (number - 1) (λ (ms : List (List PathMove)). []) moves) (λ job. refl)
      (IsIndexed-rolled_back files members jobs orders moves kept (number - 1) indexed) indexed same fit stand

  -- ENDJOB
  pub taking-ended : IsIndexed files members jobs orders moves kept → steps ≡ map (moves_back kept.paths) (changes_in (job_of_number number jobs).cycle)
      → AllByRecursion (FitsPlace members) (changes_in (job_of_number number jobs).cycle) → StandAsMade (changes_in (job_of_number number jobs).cycle) members
      → IsTakingBack files (job_changed (number - 1) ended_job jobs) (changed_at (number - 1) (λ its. []) orders) (changed_at (number - 1) (λ ms. []) moves) members kept
      (changes_in (job_of_number number jobs).cycle) steps
  taking-ended indexed same fit stand =
      taking-first ended_job (changed_at (number - 1) (λ (its : Named OpenOrder). []) orders) (changed_at (number - 1) (λ (ms : List (List PathMove)). []) moves) (λ job. refl)
      (IsIndexed-ended files members jobs orders moves kept (number - 1) indexed) indexed same fit stand

-- ---- one change more

head-same : {A : Type 0} {x y : A} {xs ys : List A} → x ∷ xs ≡ y ∷ ys → x ≡ y
head-same e = cc

tail-same : {A : Type 0} {x y : A} {xs ys : List A} → x ∷ xs ≡ y ∷ ys → xs ≡ ys
tail-same e = cc

-- the slot at a place that a member has
slot-here : (member : MemberState) (place : ℕ) (slot : Slot) → place < length member.slots → slot_of member.slots place ≡ slot → slot_at member (place + 1) ≡ Some slot
slot-here member place slot low is =
    cond-false (place + 1 == 0) None (slice_get member.slots (place + 1 - 1)) (ne_eqb (place + 1) 0 (λ e. absurd (omega (arith, e))))
    ∙ ap (slice_get member.slots) (let e : place + 1 - 1 ≡ place = omega arith in e)
    ∙ got member.slots place low
    ∙ ap (λ (s : Slot). Some s) is
  where
    got : (slots : List Slot) (at : ℕ) → at < length slots → slice_get slots at ≡ Some (slot_of slots at)
    got [] at within = absurd (omega (arith, within))
    got (s ∷ slots) zero within = refl
    got (s ∷ slots) (suc at) within = got slots at (omega (arith, within))

count-next : (spec : PathSpec) (undo : MemberChange) (rest : List MemberChange) → count_over spec (undo ∷ rest) ≡ count_over spec rest + so_many (is_over undo.member spec) 1
count-next spec undo rest = by (is_over undo.member spec)
  where
    by : (b : Bool) → length (cond b (undo ∷ filter (λ (u : MemberChange). is_over u.member spec) rest) (filter (λ (u : MemberChange). is_over u.member spec) rest)) ≡ count_over spec rest + so_many b 1
    by true = omega arith
    by false = omega arith

-- where the path is over its member, it is one of them
count-some : (spec : PathSpec) (undo : MemberChange) (rest : List MemberChange) (more : ℕ) → is_over undo.member spec ≡ true → 1 ≤ count_over spec (undo ∷ rest) + more
count-some spec undo rest more over =
    let next = count-next spec undo rest in
    let one : so_many (is_over undo.member spec) 1 ≡ 1 = ap (λ (b : Bool). so_many b 1) over in
    omega (arith, next, one)

-- the places of the others stay
fits-back : (members : NumberedMembers) (undo : MemberChange) (rest : List MemberChange) → AllByRecursion (FitsPlace members) rest → AllByRecursion (FitsPlace (member_back undo members)) rest
fits-back members undo [] all = tt
fits-back members undo (other ∷ rest) all = (
  FitsPlace-with members undo.member (changed (member_of undo.member members) (undo.change.place + 1) (before_of undo.change)) other
      (record_length-changed (member_of undo.member members) (undo.change.place + 1) (before_of undo.change))
      (let same = length-changed (member_of undo.member members) (undo.change.place + 1) (before_of undo.change) in omega (arith, same)) all.0,
  fits-back members undo rest all.1,
)

-- taking a change back is a change of one record
back-changes : (members : NumberedMembers) (undo : MemberChange) → FitsPlace members undo → slot_of (member_of undo.member members).slots undo.change.place ≡ undo.change.after
    → IsRecordChange (reversed (record_change undo)) members (member_back undo members)
back-changes members undo fits stands =
    replaced-changes undo.member (undo.change.place + 1) undo.change.after (before_of undo.change) members
    (slot-here (member_of undo.member members) undo.change.place undo.change.after fits.place stands)

module _ (files : Named FileState) (jobs : List JobState) (orders : List (Named OpenOrder)) (moves : List (List (List PathMove))) (left rest : List MemberChange) (steps more : List (List PathMove))
    (undo : MemberChange) (back : List PathMove) (next : left ≡ undo ∷ rest) (first : steps ≡ back ∷ more) (members : NumberedMembers) (kept : KeptPaths) where
  here : IsTakingBack files jobs orders moves members kept left steps → IsTakingBack files jobs orders moves members kept (undo ∷ rest) (back ∷ more)
  here taking =
      subst (λ (l : List MemberChange). IsTakingBack files jobs orders moves members kept l (back ∷ more)) next
      (subst (λ (w : List (List PathMove)). IsTakingBack files jobs orders moves members kept left w) first taking)

  -- the moves of the change that is next can be made
  pub taking-can : IsTakingBack files jobs orders moves members kept left steps → AreShared kept.paths → CanBeMade back kept
  taking-can taking shared =
      let its = here taking in
      let own : back ≡ moves_back kept.paths undo = head-same its.same in
      subst (λ (w : List PathMove). CanBeMade w kept) (sym own)
      (paths-made (reversed (record_change undo)) members (member_back undo members) kept (record {
        changes = back-changes members undo its.fit.0 its.stand.0;
        shared = shared;
        over = its.indexed.paths.over;
        room = room-of_spares undo.member 1 (λ spec. count_over spec (undo ∷ rest) + changes_over spec jobs) kept
            (λ spec over. count-some spec undo rest (changes_over spec jobs) over) its.spares;
      }))

  -- they were made, and the slot before the change is put back
  pub taking-next : (later : KeptPaths) → IsTakingBack files jobs orders moves members kept left steps → AreShared kept.paths → HasBytes (before_of undo.change)
      → later.paths ≡ paths_after back kept.paths → ((id : ℕ) → spare_of id kept ≤ spare_of id later + count_in id back)
      → IsTakingBack files jobs orders moves (member_back undo members) later rest more
  taking-next later taking shared bytes is spare =
      let its = here taking in
      let own : back ≡ moves_back kept.paths undo = head-same its.same in
      let paths : later.paths ≡ paths_after (moves_back kept.paths undo) kept.paths = is ∙ ap (λ (w : List PathMove). paths_after w kept.paths) own in
      let spares : ((id : ℕ) → spare_of id kept ≤ spare_of id later + count_in id (moves_back kept.paths undo)) =
      λ id. subst (λ (w : List PathMove). spare_of id kept ≤ spare_of id later + count_in id w) own (spare id) in
      record {
        indexed = IsIndexed-made files members (member_back undo members) jobs orders moves kept later (reversed (record_change undo)) back shared (back-changes members undo its.fit.0 its.stand.0)
            (record { same = own; paths = is; spares = spare })
            (spares-fewer (λ spec. changes_over spec jobs + so_many (is_over undo.member spec) 1) (λ spec. count_over spec (undo ∷ rest) + changes_over spec jobs) kept
            (λ spec. let next = count-next spec undo rest in omega (arith, next)) its.spares)
            (bytes-with undo.member (changed (member_of undo.member members) (undo.change.place + 1) (before_of undo.change)) members
            (bytes-changed (member_of undo.member members) (undo.change.place + 1) (before_of undo.change) (bytes-member undo.member members its.indexed.bytes) bytes) its.indexed.bytes) its.indexed;
        same = tail-same its.same
            ∙ (λ i. map (λ (u : MemberChange). (sym (ap (moves_in (reversed (record_change u))) is ∙ moves-later (reversed (record_change u)) back kept.paths)) i) rest);
        spares = spares-fall (reversed (record_change undo)) (λ spec. count_over spec rest + changes_over spec jobs) kept later shared paths spares
            (spares-fewer (λ spec. count_over spec rest + changes_over spec jobs + so_many (is_over undo.member spec) 1) (λ spec. count_over spec (undo ∷ rest) + changes_over spec jobs) kept
            (λ spec. let next = count-next spec undo rest in omega (arith, next)) its.spares);
        fit = fits-back members undo rest its.fit.1;
        stand = its.stand.1;
      }

-- ---- of some library

module _ (left rest : List MemberChange) (steps more : List (List PathMove)) (undo : MemberChange) (back : List PathMove) (next : left ≡ undo ∷ rest) (first : steps ≡ back ∷ more)
    (members : NumberedMembers) (kept : KeptPaths) where
  pub back-can : CanTakeBack members kept left steps → AreShared kept.paths → CanBeMade back kept
  back-can can shared = taking-can can.files can.jobs can.orders can.moves left rest steps more undo back next first members kept can.is shared

  -- the change that is next is of a slot that fits
  pub back-fits : CanTakeBack members kept left steps → FitsPlace members undo
  back-fits can = (here can.files can.jobs can.orders can.moves left rest steps more undo back next first members kept can.is).fit.0

  pub back-next : (later : KeptPaths) → CanTakeBack members kept left steps → AreShared kept.paths → HasBytes (before_of undo.change) → later.paths ≡ paths_after back kept.paths
      → ((id : ℕ) → spare_of id kept ≤ spare_of id later + count_in id back) → CanTakeBack (member_back undo members) later rest more
  back-next later can shared bytes is spare = record {
    files = can.files;
    jobs = can.jobs;
    orders = can.orders;
    moves = can.moves;
    is = taking-next can.files can.jobs can.orders can.moves left rest steps more undo back next first members kept later can.is shared bytes is spare;
  }
