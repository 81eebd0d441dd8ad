-- WRITE, UPDATE and DELETE: a record is added, changed or deleted, in the job's commit cycle or outside one.
use Rattle.std.proofs.Common.{◌≡◌, ◌⊎◌, inl, inr, ℕ, ◌+◌, ◌-◌, ◌<◌, ◌≤◌, ◌==◌, ◌||◌, nat_lt, not, zero, suc, slice_get, slice_set, Bool, true, false, cond, IsSome, Option, Some, None, unwrap_or, List, [], ◌∷◌, ◌++◌, map, length, refl, sym, ap, ◌∙◌, subst, arith}
use Rattle.std.specs.List.{AllByRecursion}
use Rattle.std.specs.Option.{is_some, option_and_then}
use Rattle.std.proofs.lemmas.Bool.{ne_eqb}
use Rattle.std.proofs.lemmas.Bool.Decides.{nat_tests}
use Rattle.entry_codec.specs.declared.kinds.Images.{Images}
use Rattle.entry_codec.specs.Placing.{is_counted}
use Rattle.lawful_states.specs.Owners.{Owns}
use Rattle.lawful_states.specs.declared.changes.StatusChange.TheVariants.{Touched}
use Rattle.lawful_states.proofs.OwnerLemmas.{owner-status}
use Rattle.member_slots.specs.declared.slot.Slot.{Slot}
use Rattle.member_slots.specs.declared.slot.Slot.TheVariants.{Deleted, Live}
use Rattle.member_slots.specs.Member.{MemberState}
use Rattle.member_slots.specs.Members.{NumberedMembers, member_of, with_member}
use Rattle.journal_model.specs.Acts.{Change as SlotChanged, Changed, Nothing}
use Rattle.journal_model.specs.Images.{AreRecordsOf}
use Rattle.journal_model.specs.Places.{put_slot, slot_of}
use Rattle.journal_model.specs.Replayable.{IsOpen, is_one_of}
use Rattle.journal_model.specs.Rollback.{MemberChange, noted_of}
use Rattle.journal_replay.specs.Standing.{HeldMember, Standing, catalog_member, catalogue_in, member_by, slots_at}
use Rattle.library_model.specs.Named.{Named}
use Rattle.library_model.specs.declared.replies.Reply.{Reply}
use Rattle.library_steps.specs.State.{CycleState, FileState, JobState, Memory, MemberStatus, OpenState, State, fields_of, job_changed, job_of, memory_of, status_changed, with_status}
use Rattle.library_steps.specs.Change.{journaled}
use Rattle.library_steps.specs.Drafts.{Author, author_of, slot_drafts}
use Rattle.library_steps.specs.Records.{slot_there}
use Rattle.library_steps.specs.SlotChange.{NewSlot, are_both, begins_cycle, change_made, cycle_for, cycle_number, drafts_of, images_of, is_behind_last, noted, slot_put, status_among, status_in, touched, with_cycle, with_slot}
use Rattle.lawful_states.specs.Lawful.{HoldsValues}
use Rattle.lawful_states.proofs.MemberLemmas.{slot_put-appended, slot_put-changed}
use Rattle.joint_state.specs.Sound.{IsSound, after}
use Rattle.joint_state.proofs.OpenLemmas.{each-among}
use Rattle.restart_laws.proofs.ChangeLemmas.{MayChange}
use Rattle.restart_laws.proofs.PlanLemmas.{named-each, same-number}
use Rattle.restart_laws.proofs.SlotLemmas.{Stands-slot, there-stands}
use Rattle.restart_laws.proofs.LibraryKeptStandLemmas.{Stands, Stands-memory_of, Stands-status}
use Rattle.sound_histories.proofs.JobLemmas.{IsAsking, job_changed-none, job_changed-twice}
use Rattle.sound_histories.proofs.PlaceLemmas.{IsPlaceFor, slot_of-get}
use Rattle.sound_histories.proofs.PutLemmas.{MayPut, put_cycle}
use Rattle.named_bases.specs.Sources.{descriptions}
use Rattle.replayed_histories.specs.Replayed.{BeganBefore, CyclesStand, IsHeldWithin, IsReplayed, MemberStands, StandsAs}
use Rattle.replayed_histories.specs.Deposits.{DraftsLeave}
use Rattle.replayed_histories.proofs.AloneLemmas.{alone-there}
use Rattle.replayed_histories.proofs.CycleLemmas.{holds-one, is-one}
use Rattle.replayed_histories.proofs.DepositLemmas.{next-is, replays-kept}
use Rattle.replayed_histories.proofs.HomeLemmas.{IsHeldAs, IsHomed, all-homed, are-records, both-each, held-as, within-moved}
use Rattle.replayed_histories.proofs.MemberLemmas.{statuses_changed}
use Rattle.replayed_histories.proofs.MovedLemmas.{change-shown, map-none, member-shown, moved-stands, told-kept, told-stands}
use Rattle.replayed_histories.proofs.NotedLemmas.{begun_job, cycle-begins, cycle-noted, cycles-more, one_of-append}
use Rattle.replayed_histories.proofs.OneLemmas.{moved_by}
use Rattle.replayed_histories.proofs.RecordLemmas.{IsPutBy, IsReady, IsReal, change_of, leave-append, put-slot, start-after, start-may}
use Rattle.replayed_histories.proofs.StandsLemmas.{jobs-stay}
use Rattle.replayed_histories.proofs.StatusLemmas.{among-number}
use Rattle.replayed_histories.proofs.UntoldRequests.{numbers-same, untold-stands}

-- ---- the slot of the library and that of the journal

put-set : (slots : List Slot) (place : ℕ) (new : Slot) → place < length slots → put_slot slots place new ≡ slice_set slots place new
put-set [] place new within = absurd (omega (arith, within))
put-set (slot ∷ slots) zero new within = refl
put-set (slot ∷ slots) (suc place) new within = ap (λ (t : List Slot). slot ∷ t) (put-set slots place new (omega (arith, within)))

put-end : (slots : List Slot) (new : Slot) → put_slot slots (length slots) new ≡ slots ++ new ∷ []
put-end [] new = refl
put-end (slot ∷ slots) new = ap (λ (t : List Slot). slot ∷ t) (put-end slots new)

slot-moves : (member : MemberState) (rrn : ℕ) (new : Slot) → 1 ≤ rrn → IsPlaceFor member rrn new → put_slot member.slots (rrn - 1) new ≡ (slot_put rrn new member).slots
slot-moves member rrn new first (inl within) =
    put-set member.slots (rrn - 1) new (omega (arith, first, within))
    ∙ sym (ap (λ (b : Bool). (cond b member (record member { slots = slice_set member.slots (rrn - 1) new })).slots) (ne_eqb rrn 0 (λ e. absurd (omega (arith, first, e)))))
    ∙ sym (ap (λ (m : MemberState). m.slots) (slot_put-changed member rrn new within))
slot-moves member rrn Deleted first (inr behind) = absurd (let live = behind.1 in cc)
slot-moves member rrn (Live image) first (inr behind) =
    let same = behind.0 in
    let at : rrn - 1 ≡ length member.slots = omega (arith, same) in
    ap (λ (k : ℕ). put_slot member.slots k (Live image)) at ∙ put-end member.slots (Live image)
    ∙ sym (ap (λ (m : MemberState). m.slots) (ap (λ (k : ℕ). slot_put k (Live image) member) same ∙ slot_put-appended member image))

slot-is : (member rrn : ℕ) (m : Memory) → 1 ≤ rrn → slot_of (member_of member m.members).slots (rrn - 1) ≡ slot_there member rrn m
slot-is member rrn m first =
    slot_of-get (member_of member m.members).slots (rrn - 1)
    ∙ sym (ap (λ (b : Bool). unwrap_or (cond b None (slice_get (member_of member m.members).slots (rrn - 1))) Deleted) (ne_eqb rrn 0 (λ e. absurd (omega (arith, first, e)))))

place-near : (member : MemberState) (rrn : ℕ) (new : Slot) → 1 ≤ rrn → IsPlaceFor member rrn new → rrn - 1 ≤ length member.slots
place-near member rrn new first (inl within) = omega (arith, first, within)
place-near member rrn new first (inr behind) = let same = behind.0 in omega (arith, first, same)

counted-some : (n : ℕ) → 1 ≤ n → nat_lt 0 n ≡ true
counted-some n first = grind (arith, nat_tests, first)

there-changed : (f : JobState → JobState) (job : JobState) (place : ℕ) (jobs : List JobState) → slice_get jobs place ≡ Some job → slice_get (job_changed place f jobs) place ≡ Some (f job)
there-changed f job place [] there = absurd cc
there-changed f job zero (j ∷ jobs) there = let e : j ≡ job = cc in ap (λ (x : JobState). Some (f x)) e
there-changed f job (suc place) (j ∷ jobs) there = there-changed f job place jobs there

-- ---- the commit cycle of the change

module _ (s : State) (r : IsReplayed s) (job timestamp : ℕ) (asks : IsAsking s job) where
  abbrev pub mine : JobState
  mine = job_of job (memory_of s)

  abbrev pub with_open : Option CycleState → JobState
  with_open o = record mine { cycle = o }

  abbrev k : ℕ
  k = (memory_of s).last_entry + 1

  abbrev new_cycle : CycleState
  new_cycle = record { sequence = k; undos = [] }

  -- its beginning, where it begins with the change, and the change in it
  pub record IsBegun (commit : Bool) (o : Option CycleState) : Type 0 where
    pub next : ℕ
    pub cycles : List ℕ
    pub leave : DraftsLeave r.left (cond commit (begins_cycle (author_of (memory_of s) job timestamp) (memory_of s) (with_open o)) [])
        (record r.left { next = next; begun = None; cycles = cycles })
    pub opens : IsOpen cycles (cycle_number commit (memory_of s) (with_open o))
    pub group : is_counted (cycle_number commit (memory_of s) (with_open o)) ≡ true
    pub noted : (undo : MemberChange) → (commit ≡ true → undo.change.cycle ≡ cycle_number commit (memory_of s) (with_open o))
        → CyclesStand next cycles (noted_of (cycle_number commit (memory_of s) (with_open o)) undo r.left.undos)
        (job_changed (job - 1) (λ j. put_cycle commit undo (cycle_for (memory_of s) (with_open o)) j) s.jobs)

  stays : (record r.left { begun = None }) ≡ r.left
  stays = sym (ap (λ o. record r.left { begun = o }) r.whole)

  pub begun-by : (commit : Bool) (o : Option CycleState) → mine.cycle ≡ o → IsBegun commit o
  begun-by false o has = record {
    next = r.left.next;
    cycles = r.left.cycles;
    leave = stays;
    opens = tt;
    group = refl;
    noted = λ undo of. subst (CyclesStand r.left.next r.left.cycles r.left.undos) (sym (job_changed-none (job - 1) s.jobs)) r.stands.cycles_are;
  }
  begun-by true (Some cycle) has =
      let one : is_one_of r.left.cycles cycle.sequence ≡ true =
      is-one (λ (x : JobState). record x { cycle = None }) mine refl r.left.next (job - 1) r.left.cycles r.left.undos s.jobs asks.there r.stands.cycles_are cycle has
      in
      record {
        next = r.left.next;
        cycles = r.left.cycles;
        leave = stays;
        opens = one;
        group = counted-some cycle.sequence (holds-one (BeganBefore r.left.next) cycle.sequence r.left.cycles one r.stands.cycles_are.begun).0;
        noted = λ undo of. cycle-noted mine cycle has undo (of refl) r.left.undos r.left.next (job - 1) r.left.cycles s.jobs r.stands.cycles_are asks.there;
      }
  begun-by true None has =
      let same : (memory_of s).last_entry + 1 ≡ r.left.next = next-is s r in
      let first : 1 ≤ r.left.next = omega (arith, same) in
      let author = author_of (memory_of s) job timestamp in
      record {
        next = r.left.next + 1;
        cycles = r.left.cycles ++ r.left.next ∷ [];
        leave = (start-may author ((memory_of s).last_entry + 1) r.left r.whole r.journal.within first, sym (start-after author ((memory_of s).last_entry + 1) r.left));
        opens = is-open same;
        group = counted-some ((memory_of s).last_entry + 1) (omega arith);
        noted = λ undo of. noted-first same first undo (of refl);
      }
    where
      right : (a b : Bool) → b ≡ true → (a || b) ≡ true
      right true b h = refl
      right false b h = h

      is-open : k ≡ r.left.next → is_one_of (r.left.cycles ++ r.left.next ∷ []) k ≡ true
      is-open same =
          let test : (r.left.next == k) ≡ true = grind (arith, nat_tests, same) in
          one_of-append r.left.next k r.left.cycles ∙ right (is_one_of r.left.cycles k) (r.left.next == k) test

      noted-first : k ≡ r.left.next → 1 ≤ r.left.next → (undo : MemberChange) → undo.change.cycle ≡ Some k
          → CyclesStand (r.left.next + 1) (r.left.cycles ++ r.left.next ∷ []) (undo ∷ r.left.undos) (job_changed (job - 1) (λ j. with_cycle (noted undo new_cycle) j) s.jobs)
      noted-first same first undo of =
          let started : CyclesStand (r.left.next + 1) (r.left.cycles ++ r.left.next ∷ []) r.left.undos (job_changed (job - 1) (begun_job k) s.jobs) =
          subst (λ (n : ℕ). CyclesStand (r.left.next + 1) (r.left.cycles ++ r.left.next ∷ []) r.left.undos (job_changed (job - 1) (begun_job n) s.jobs)) (sym same)
          (cycle-begins r.left.next (job - 1) r.left.cycles r.left.undos s.jobs mine r.stands.cycles_are asks.there has first)
          in
          subst (CyclesStand (r.left.next + 1) (r.left.cycles ++ r.left.next ∷ []) (undo ∷ r.left.undos))
          (job_changed-twice (job - 1) (begun_job k) (with_cycle (noted undo new_cycle)) s.jobs)
          (cycle-noted (begun_job k mine) new_cycle refl undo of r.left.undos (r.left.next + 1) (job - 1) (r.left.cycles ++ r.left.next ∷ []) (job_changed (job - 1) (begun_job k) s.jobs) started
          (there-changed (begun_job k) mine (job - 1) s.jobs asks.there))

-- ---- the record

module _ (s : State) (sound : IsSound s) (r : IsReplayed s) (job timestamp : ℕ) (asks : IsAsking s job) (new : NewSlot) (may : MayPut s job new) (change : MayChange s new)
    (real : IsReal (slot_there new.opened.member new.rrn (memory_of s)) new.slot) where
  abbrev n : ℕ
  n = new.opened.member

  abbrev old : Slot
  old = slot_there n new.rrn (memory_of s)

  abbrev its : JobState
  its = job_of job (memory_of s)

  abbrev own : Option ℕ
  own = cycle_number new.opened.commit (memory_of s) its

  abbrev full : SlotChanged
  full = change_of own new.rrn (Some old) new.slot

  abbrev undo : MemberChange
  undo = change_made (memory_of s) its new

  abbrev item : MemberState
  item = slot_put new.rrn new.slot (member_of n s.members)

  abbrev members : NumberedMembers
  members = with_member n item s.members

  abbrev files : Named FileState
  files = map (λ entry. (entry.0, status_changed n touched entry.1)) s.files

  abbrev g : MemberStatus → MemberStatus
  g st = cond (st.number == n) (touched st) st

  abbrev f : HeldMember → HeldMember
  f = moved_by n (Changed full) 0

  abbrev author : Author
  author = author_of (memory_of s) job timestamp

  -- ---- its member

  some-status : (o : Option MemberStatus) → is_some o ≡ true → (status : MemberStatus) × (o ≡ Some status)
  some-status None some = absurd cc
  some-status (Some status) some = (status, refl)

  found : (status : MemberStatus) × (status_among n s.files ≡ Some status)
  found =
      let it = some-status (status_in n change.file.members) change.owns.has in
      let among = owner-status n change.name change.file s.files sound.names change.owns (λ other another o. sound.apart.apart change.name other change.file another n change.owns o) in
      (it.0, among.0 ∙ it.1)

  abbrev status : MemberStatus
  status = found.0

  stands-put : Stands (with_status n touched (with_slot n new.rrn new.slot (memory_of s)))
  stands-put =
      Stands-status (with_slot n new.rrn new.slot (memory_of s)) n Touched (Stands-slot (memory_of s) n new.rrn (Stands-memory_of s sound) new.slot change.may)

  images-are : images_of n (memory_of s) ≡ status.images
  images-are = ap (λ (o : Option MemberStatus). option_and_then (λ (st : MemberStatus). st.images) o) found.1

  abbrev jobs_then : (JobState → JobState) → List JobState
  jobs_then besides = job_changed (job - 1) (λ j. besides (put_cycle new.opened.commit undo (cycle_for (memory_of s) its) j)) s.jobs

  -- ---- where the journal keeps no images

  abbrev Untold : ℕ → Type 0
  Untold k =
      (m : HeldMember) → MemberStands s.files s.members m
      → MemberStands (map (statuses_changed (λ (st : MemberStatus). cond (st.number == k) (touched st) st)) s.files) (with_member k item s.members) m

  module _ (off : status.images ≡ None) where
    -- members of opens under commitment are journaled
    outside : new.opened.commit ≡ true → ⊥
    outside on =
        let all : may.opened.commit ≡ true → AllByRecursion (λ member. IsSome (images_of member (memory_of s))) may.opened.members =
        named-each (λ (o : OpenState). o.commit ≡ true → AllByRecursion (λ member. IsSome (images_of member (memory_of s))) o.members) may.name its.opens may.opened asks.stands.journaled may.found
        in
        let some : IsSome (images_of n (memory_of s)) = each-among (λ (member : ℕ). IsSome (images_of member (memory_of s))) may.opened.members n (all (sym may.commit ∙ on)) may.among in
        let none : images_of n (memory_of s) ≡ None = images-are ∙ off in
        let bad : ◌≡◌ {A = Bool} false true = subst (λ (o : Option Images). is_some o ≡ true) none some in
        absurd cc

    uncommitted : (b : Bool) → (b ≡ true → ⊥) → b ≡ false
    uncommitted true never = absurd (never refl)
    uncommitted false never = refl

    or-true : (b : Bool) → (b || true) ≡ true
    or-true true = refl
    or-true false = refl

    untold-members : (m : HeldMember) → MemberStands s.files s.members m → MemberStands (map (statuses_changed g) s.files) members m
    untold-members =
        subst Untold same
        (untold-stands s.files s.members status item touched (subst (λ (k : ℕ). status_among k s.files ≡ Some status) (sym same) found.1) off (λ st. refl) (λ st. refl) (λ st. refl) moved)
      where
        same : status.number ≡ n
        same = among-number n s.files status found.1

        moved : (touched status).changed ≡ true
        moved = ap (λ (o : Option Images). status.changed || not (is_some o)) off ∙ or-true status.changed

    untold : (besides : JobState → JobState) → ((j : JobState) → (besides j).cycle ≡ j.cycle) → StandsAs r.left files members s.next_member (jobs_then besides)
    untold besides same =
        moved-stands r.left r.left s.files s.members members s.next_member s.jobs (jobs_then besides) r.stands (λ m. m) g refl (map-none r.left.members) refl (λ m. refl) (λ m. refl)
        (change-shown n touched (λ st. refl) (λ st. refl)) untold-members (numbers-same n item s.members)
        (subst (λ (b : Bool). CyclesStand r.left.next r.left.cycles r.left.undos (job_changed (job - 1) (λ j. besides (put_cycle b undo (cycle_for (memory_of s) its) j)) s.jobs))
        (sym (uncommitted new.opened.commit outside)) (jobs-stay r.left.next (job - 1) r.left.cycles r.left.undos besides s.jobs same r.stands.cycles_are))

  -- ---- where it keeps some

  module _ (images : Images) (on : status.images ≡ Some images) where
    kept : is_some status.images ≡ true
    kept = ap is_some on

    abbrev Known : HeldMember → Type 0
    Known m = MemberStands s.files s.members m × IsHomed r.left.files s.files m

    all-known : AllByRecursion Known r.left.members
    all-known =
        both-each (MemberStands s.files s.members) (IsHomed r.left.files s.files) Known r.left.members (λ m stands home. (stands, home)) r.stands.slots
        (all-homed r.left s.files s.members s.next_member s.jobs r.stands sound.library.bases)

    at : IsHeldAs Known r.left.members n
    at = held-as Known n r.left.members s.members r.stands.numbers may.there all-known

    at-kept : is_some at.member.images ≡ true
    at-kept =
        told-kept n touched (λ st. refl) (λ st. refl) (Changed full) 0 (λ o. refl) s.files s.members status item found.1 kept may.there at.member at.holds.0 (same-number n at.member.number at.number)

    at-slots : slots_at n r.left.members ≡ (member_of n s.members).slots
    at-slots = at.slots ∙ at.holds.0.journaled at-kept ∙ ap (λ (k : ℕ). (member_of k s.members).slots) (sym at.number)

    abbrev moved_as : Bool → HeldMember → HeldMember
    moved_as b m = member_by (cond b (Changed full) Nothing) 0 m

    -- the members as they are then
    abbrev moved : Standing
    moved = record r.left { members = map f r.left.members }

    told-each : (m : HeldMember) → MemberStands s.files s.members m → MemberStands (map (statuses_changed g) s.files) members (f m)
    told-each =
        told-stands n touched (λ st. refl) (λ st. refl) (Changed full) 0 (λ o. refl) s.files s.members status item found.1 kept may.there
        (slot-moves (member_of n s.members) new.rrn new.slot may.counted may.place)

    moved-is : StandsAs moved files members s.next_member s.jobs
    moved-is =
        moved-stands r.left moved s.files s.members members s.next_member s.jobs s.jobs r.stands f g refl refl refl (λ m. refl)
        (member-shown n touched (λ st. refl) (λ st. refl) (Changed full) 0 (λ o. refl)) (change-shown n touched (λ st. refl) (λ st. refl)) told-each (numbers-same n item s.members)
        r.stands.cycles_are

    within : AllByRecursion (IsHeldWithin moved) moved.members
    within =
        within-moved r.left moved f s.files files s.members members s.next_member s.jobs moved-is refl stands-put.library.bases stands-put.library.members stands-put.within
        (λ m stand fits so. by m stand fits (n == m.number) refl so) r.stands.slots r.journal.within
      where
        by : (m : HeldMember) → MemberStands s.files s.members m → IsHeldWithin r.left m → (b : Bool) → (n == m.number) ≡ b
            → (is_some (moved_as b m).images ≡ true → IsHeldWithin moved (moved_as b m)) → IsHeldWithin moved (moved_as b m)
        by m stand fits true same so =
            so (told-kept n touched (λ st. refl) (λ st. refl) (Changed full) 0 (λ o. refl) s.files s.members status item found.1 kept may.there m stand same)
        by m stand fits false other so = fits

    records : (image : List ℕ) → (old ≡ Live image) ⊎ (new.slot ≡ Live image) → AreRecordsOf descriptions (catalogue_in r.left) (Some (catalog_member at.member)) (image ∷ [])
    records image either =
        are-records r.left s.files at.member (image ∷ []) at.holds.1
        (λ file owns. (holds file (subst (Owns s.files at.member.file file) (sym at.number) owns) either, tt))
      where
        holds : (file : FileState) → Owns s.files at.member.file file n → (old ≡ Live image) ⊎ (new.slot ≡ Live image) → HoldsValues (fields_of file) (Live image)
        holds file owns (inl is) = subst (HoldsValues (fields_of file)) is (there-stands (memory_of s) n new.rrn (Stands-memory_of s sound) at.member.file file owns)
        holds file owns (inr is) = subst (HoldsValues (fields_of file)) is (change.may.values at.member.file file owns)

    begun : IsBegun s r job timestamp asks new.opened.commit its.cycle
    begun = begun-by s r job timestamp asks new.opened.commit its.cycle refl

    abbrev mid : Standing
    mid = record r.left { next = begun.next; begun = None; cycles = begun.cycles }

    first-number : 1 ≤ n
    first-number = subst (λ (k : ℕ). 1 ≤ k) (sym at.number) at.holds.0.counted

    ready : IsReady own n new.rrn old new.slot mid
    ready = record {
      member = at.member;
      found = at.found;
      kept = at-kept;
      counted = counted-some n first-number;
      placed = counted-some new.rrn may.counted;
      group = begun.group;
      place = subst (λ (slots : List Slot). new.rrn - 1 ≤ length slots) (sym at-slots) (place-near (member_of n s.members) new.rrn new.slot may.counted may.place);
      stands = ap (λ (slots : List Slot). slot_of slots (new.rrn - 1)) at-slots ∙ slot-is n new.rrn (memory_of s) may.counted;
      opens = begun.opens;
      alone = alone-there s sound job asks new may r.left.next r.left.cycles r.left.undos r.stands.cycles_are;
      records = records;
      before = r.journal.within;
      within = within;
    }

    abbrev both : Bool
    both = new.opened.commit || are_both images

    outside-cycle : (commit : Bool) → (commit || are_both images) ≡ false → cycle_number commit (memory_of s) its ≡ None
    outside-cycle true off = absurd cc
    outside-cycle false off = refl

    put : IsPutBy mid (slot_drafts author own both (is_behind_last n new.rrn (memory_of s)) n new.rrn old new.slot) n full
    put = put-slot author own n new.rrn mid refl both (is_behind_last n new.rrn (memory_of s)) old new.slot (outside-cycle new.opened.commit) ready real

    leave : DraftsLeave r.left (drafts_of author its new (Some images) (memory_of s)) put.to
    leave =
        leave-append (cond new.opened.commit (begins_cycle author (memory_of s) its) []) (slot_drafts author own both (is_behind_last n new.rrn (memory_of s)) n new.rrn old new.slot) r.left mid
        put.to begun.leave put.leave

    undo-is : (commit : Bool) (undos : List MemberChange)
        → noted_of (cycle_number commit (memory_of s) its) (record { member = n; change = change_of (cycle_number commit (memory_of s) its) new.rrn (Some old) new.slot }) undos
        ≡ noted_of (cycle_number commit (memory_of s) its) undo undos
    undo-is true undos = refl
    undo-is false undos = refl

    cycles : (besides : JobState → JobState) → ((j : JobState) → (besides j).cycle ≡ j.cycle) → CyclesStand put.to.next put.to.cycles put.to.undos (jobs_then besides)
    cycles besides same =
        let noted_jobs = job_changed (job - 1) (λ j. put_cycle new.opened.commit undo (cycle_for (memory_of s) its) j) s.jobs in
        let stand : CyclesStand begun.next begun.cycles (noted_of own undo r.left.undos) noted_jobs =
        begun.noted undo (λ so. ap (λ (b : Bool). cycle_number b (memory_of s) its) (sym so))
        in
        let besides_too : CyclesStand put.to.next begun.cycles (noted_of own undo r.left.undos) (jobs_then besides) =
        subst (CyclesStand put.to.next begun.cycles (noted_of own undo r.left.undos))
        (job_changed-twice (job - 1) (λ j. put_cycle new.opened.commit undo (cycle_for (memory_of s) its) j) besides s.jobs)
        (jobs-stay put.to.next (job - 1) begun.cycles (noted_of own undo r.left.undos) besides noted_jobs same
        (cycles-more begun.next put.to.next begun.cycles (noted_of own undo r.left.undos) noted_jobs put.later stand))
        in
        subst (λ (cs : List ℕ). CyclesStand put.to.next cs put.to.undos (jobs_then besides)) (sym put.cycles)
        (subst (λ (us : List MemberChange). CyclesStand put.to.next begun.cycles us (jobs_then besides)) (sym (put.undos ∙ undo-is new.opened.commit r.left.undos)) besides_too)

    told : (besides : JobState → JobState) → ((j : JobState) → (besides j).cycle ≡ j.cycle) → StandsAs put.to files members s.next_member (jobs_then besides)
    told besides same =
        moved-stands r.left put.to s.files s.members members s.next_member s.jobs (jobs_then besides) r.stands f g put.files put.members put.next_member (λ m. refl)
        (member-shown n touched (λ st. refl) (λ st. refl) (Changed full) 0 (λ o. refl)) (change-shown n touched (λ st. refl) (λ st. refl)) told-each (numbers-same n item s.members)
        (cycles besides same)

  -- ---- whatever else is done to jobs and locks

  as-they-are : (to : Standing) (m : Memory) (besides : JobState → JobState) → m.files ≡ files → m.members ≡ members → m.next_member ≡ s.next_member → m.jobs ≡ jobs_then besides
      → StandsAs to files members s.next_member (jobs_then besides) → StandsAs to m.files m.members m.next_member m.jobs
  as-they-are to m besides fs ms next js stands =
      subst (λ (x : Named FileState). StandsAs to x m.members m.next_member m.jobs) (sym fs)
      (subst (λ (x : NumberedMembers). StandsAs to files x m.next_member m.jobs) (sym ms)
      (subst (λ (x : ℕ). StandsAs to files members x m.jobs) (sym next) (subst (StandsAs to files members s.next_member) (sym js) stands)))

  pub put-replayed : (forced : Bool) (reply : Reply) (m : Memory) (besides : JobState → JobState) → ((j : JobState) → (besides j).cycle ≡ j.cycle) → m.gone ≡ s.gone
      → m.checkpoint ≡ s.checkpoint → m.last_entry ≡ s.gone + length s.entries → m.files ≡ files → m.members ≡ members → m.next_member ≡ s.next_member
      → m.jobs ≡ job_changed (job - 1) (λ j. besides (put_cycle new.opened.commit undo (cycle_for (memory_of s) its) j)) s.jobs
      → IsReplayed (after s (journaled (drafts_of author its new (images_of n (memory_of s)) (memory_of s)) forced reply m))
  put-replayed forced reply m besides same gone checkpoint last fs ms next js =
      subst (λ (o : Option Images). IsReplayed (after s (journaled (drafts_of author its new o (memory_of s)) forced reply m))) (sym images-are) (by status.images refl)
    where
      by : (o : Option Images) → status.images ≡ o → IsReplayed (after s (journaled (drafts_of author its new o (memory_of s)) forced reply m))
      by None off =
          replays-kept s r [] forced reply m r.left gone (checkpoint ∙ r.checkpoint) last refl r.whole (as-they-are r.left m besides fs ms next js (untold off besides same))
      by (Some images) on =
          replays-kept s r (drafts_of author its new (Some images) (memory_of s)) forced reply m (put images on).to gone (checkpoint ∙ r.checkpoint) last (leave images on) (put images on).whole
          (as-they-are (put images on).to m besides fs ms next js (told images on besides same))
