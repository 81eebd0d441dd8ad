-- What the boundaries of jobs take back fits its places, and leaves a library lawful.
use Rattle.std.proofs.Common.{◌≡◌, ℕ, ◌+◌, if◌then◌else◌, true, false, List, [], ◌∷◌, Option, Some, None, is_some, IsSome, refl, ◌∙◌, ap, arith, rules}
use Rattle.std.specs.List.{AllByRecursion}
use Rattle.member_slots.specs.Member.{MemberState, changed}
use Rattle.member_slots.specs.Members.{NumberedMembers, member_of, with_member}
use Rattle.library_steps.specs.Replay.{before_of}
use Rattle.library_steps.specs.Rollback.{MemberChange}
use Rattle.library_steps.below.lock_table.specs.declared.lock.Lock.{Lock}
use Rattle.library_steps.specs.Named.{Named}
use Rattle.library_steps.specs.State.{State, Memory, FileState, CycleState, job_changed, with_opens}
use Rattle.library_steps.specs.Commitment.{changes_of, rolled_back_open, taken_back, without_cycle}
use Rattle.library_steps.specs.EndJob.{ended_job}
use Rattle.library_steps.specs.SlotChange.{slot_put}
use Rattle.library_steps.specs.Uses.{changes_in}
use Rattle.lawful_states.specs.Jobs.{AreOfJobs}
use Rattle.lawful_states.specs.Back.{member_back, members_back}
use Rattle.lawful_states.specs.Lawful.{OpenHolds, FitsPlace, GoesBack, CycleGoesBack, AreOne}
use Rattle.lawful_states.proofs.BaseLemmas.{OpenHolds-alike}
use Rattle.lawful_states.proofs.BackLemmas.{FitsPlace-with, GoesBack-place, undos-each}
use Rattle.lawful_states.proofs.LawfulLemmas.{AreOne-changed, AreOne-ended, AreOne-job_changed, AreOne-locks, opens-map}
use Rattle.lawful_states.proofs.MemberLemmas.{length-changed, record_length-changed, slot_put-changed}

-- ---- places

pub is_some-there : {A : Type 0} (o : Option A) → is_some o ≡ true → IsSome o
is_some-there None there = absurd cc
is_some-there (Some a) there = search rules

FitsPlace-back : (members : NumberedMembers) (undo other : MemberChange) → FitsPlace members other → FitsPlace (member_back undo members) other
FitsPlace-back members undo other fits =
    let member = member_of undo.member members in
    let same = length-changed member (undo.change.place + 1) (before_of undo.change) in
    FitsPlace-with members undo.member (changed member (undo.change.place + 1) (before_of undo.change)) other (record_length-changed member (undo.change.place + 1) (before_of undo.change))
    (omega (arith, same)) fits

pub places-back : (members : NumberedMembers) (undo : MemberChange) (undos : List MemberChange) → AllByRecursion (FitsPlace members) undos → AllByRecursion (FitsPlace (member_back undo members)) undos
places-back members undo [] all = tt
places-back members undo (other ∷ undos) all = (FitsPlace-back members undo other all.0, places-back members undo undos all.1)

places-of : (files : Named FileState) (members : NumberedMembers) (n : ℕ) (undos : List MemberChange) → AllByRecursion (GoesBack files members n) undos → AllByRecursion (FitsPlace members) undos
places-of files members n [] all = tt
places-of files members n (undo ∷ undos) all = (all.0.place, places-of files members n undos all.1)

pub cycle-places : (files : Named FileState) (members : NumberedMembers) (cycle : Option CycleState) → CycleGoesBack files members cycle → AllByRecursion (FitsPlace members) (changes_in cycle)
cycle-places files members None back = tt
cycle-places files members (Some cycle) back = places-of files members cycle.sequence cycle.undos back

-- ---- the members with changes taken back

taken_back-is : (undos : List MemberChange) (m : Memory) → AllByRecursion (FitsPlace m.members) undos → taken_back undos m ≡ record m { members = members_back undos m.members }
taken_back-is [] m all = refl
taken_back-is (undo ∷ undos) m all =
    let member = member_of undo.member m.members in
    let place = all.0.place in
    let put : slot_put (undo.change.place + 1) (before_of undo.change) member ≡ changed member (undo.change.place + 1) (before_of undo.change) =
    slot_put-changed member (undo.change.place + 1) (before_of undo.change) (omega (arith, place)) in
    ap (λ (other : MemberState). taken_back undos (record m { members = with_member undo.member other m.members })) put
    ∙ taken_back-is undos (record m { members = member_back undo m.members }) (places-back m.members undo undos all.1)

pub cycle_back-is : (files : Named FileState) (m : Memory) (cycle : Option CycleState) → CycleGoesBack files m.members cycle
    → taken_back (changes_of cycle) m ≡ record m { members = members_back (changes_in cycle) m.members }
cycle_back-is files m None back = refl
cycle_back-is files m (Some cycle) back = taken_back-is cycle.undos m (places-of files m.members cycle.sequence cycle.undos back)

AreOne-members_back : (n : ℕ) (undos : List MemberChange) (s : State) (bytes : ℕ) → AreOne s bytes → AllByRecursion (GoesBack s.files s.members n) undos
    → AreOne (record s { members = members_back undos s.members }) bytes
AreOne-members_back n [] s bytes one all = one
AreOne-members_back n (undo ∷ undos) s bytes one all =
    let there = is_some-there _ all.0.place.there in
    AreOne-members_back n undos (record s { members = member_back undo s.members }) bytes
    (AreOne-changed s bytes undo.member (undo.change.place + 1) (before_of undo.change) one there all.0.values)
    (undos-each s.files s.files s.members (member_back undo s.members) (λ sequence other back. GoesBack-place s.files s.members (member_back undo s.members) sequence other
    (FitsPlace-back s.members undo other) back) n undos all.1)

pub AreOne-cycle_back : (s : State) (bytes : ℕ) (cycle : Option CycleState) → AreOne s bytes → CycleGoesBack s.files s.members cycle
    → AreOne (record s { members = members_back (changes_in cycle) s.members }) bytes
AreOne-cycle_back s bytes None one back = one
AreOne-cycle_back s bytes (Some cycle) one back = AreOne-members_back cycle.sequence cycle.undos s bytes one back

-- the members, jobs and locks after a ROLLBACK
pub AreOne-rolled_back : (s : State) (bytes place : ℕ) (locks : List Lock) (cycle : Option CycleState) → AreOne s bytes → CycleGoesBack s.files s.members cycle → AreOfJobs s.jobs locks
    → AreOne (record s {
      members = members_back (changes_in cycle) s.members;
      jobs = job_changed place (λ j. with_opens rolled_back_open (without_cycle j)) s.jobs;
      locks = locks;
    }) bytes
AreOne-rolled_back s bytes place locks cycle one back begun =
    AreOne-job_changed (record s { members = members_back (changes_in cycle) s.members; locks = locks }) bytes place (λ j. with_opens rolled_back_open (without_cycle j))
    (AreOne-locks (record s { members = members_back (changes_in cycle) s.members }) bytes locks (AreOne-cycle_back s bytes cycle one back) begun)
    (λ job all. opens-map s.files rolled_back_open
    (λ opened holds. elim opened.commit as
    (λ b. OpenHolds s.files (if b then record opened { position = opened.boundary; current = None; last_read = None } else record opened { current = None; last_read = None })) [
      | true ↦ OpenHolds-alike s.files opened (record opened { position = opened.boundary; current = None; last_read = None }) refl refl refl refl holds
      | false ↦ OpenHolds-alike s.files opened (record opened { current = None; last_read = None }) refl refl refl refl holds
    ]) job.opens all)
    (λ job kept. tt)

-- after the end of a job
pub AreOne-finished : (s : State) (bytes place : ℕ) (locks : List Lock) (cycle : Option CycleState) → AreOne s bytes → CycleGoesBack s.files s.members cycle → AreOfJobs s.jobs locks
    → AreOne (record s { members = members_back (changes_in cycle) s.members; jobs = job_changed place ended_job s.jobs; locks = locks }) bytes
AreOne-finished s bytes place locks cycle one back begun =
    AreOne-ended (record s { members = members_back (changes_in cycle) s.members }) bytes place locks (AreOne-cycle_back s bytes cycle one back) begun
