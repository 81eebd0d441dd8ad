-- The members with changes of an open commit cycle taken back, place by place, and what is so known of keys in a library.
use Rattle.std.proofs.Common.{◌≡◌, ◌≢◌, inl, inr, ◌∙◌, ℕ, zero, suc, ◌+◌, ◌≤◌, ◌==◌, if◌then◌else◌, true, false, List, [], ◌∷◌, length, slice_get, take, Option, Some, None, is_some, unwrap_or, subst, refl, sym, ap, arith}
use Rattle.std.specs.List.{AllByRecursion, list_any}
use Rattle.std.specs.Option.{option_map}
use Rattle.std.proofs.lemmas.Bool.{true≢false, cases_eq, and_left, and_right, ne_eqb, or_cases}
use Rattle.std.proofs.lemmas.Option.{slice_get_within}
use Rattle.lock_table.specs.declared.lock.RecordId.{RecordId}
use Rattle.lock_table.specs.Table.{HoldsChange}
use Rattle.member_slots.specs.declared.slot.Slot.{Slot}
use Rattle.member_slots.specs.declared.slot.Slot.TheVariants.{Deleted}
use Rattle.member_slots.specs.Member.{MemberState}
use Rattle.member_slots.specs.Members.{NumberedMembers, member_of, with_member}
use Rattle.file_model.specs.declared.paths.PathFormat.{PathFormat}
use Rattle.file_model.specs.KeyOrder.{KeyValue}
use Rattle.journal_model.specs.Places.{slot_of}
use Rattle.journal_model.specs.Replay.{before_of}
use Rattle.journal_model.specs.Rollback.{MemberChange}
use Rattle.library_steps.specs.State.{State, Memory, CycleState, memory_of}
use Rattle.library_steps.specs.Commitment.{taken_back}
use Rattle.library_steps.specs.SlotChange.{with_slot}
use Rattle.library_steps.specs.UniqueKeys.{takes_key}
use Rattle.library_steps.specs.Uses.{changes_in}
use Rattle.lawful_states.specs.Lawful.{AllGoBack, CycleGoesBack, GoesBack}
use Rattle.lawful_states.proofs.MemberLemmas.{slot_put-changed}
use Rattle.joint_state.specs.Joint.{IsJoint}
use Rattle.key_state.specs.Keys.{HasOwnKeys, IsReservedOnce, KeysStand, changes_by, members_back, taken_from}
use Rattle.cycles_kept.proofs.LockLemmas.{two_holders}
use Rattle.cycles_kept.proofs.PlaceLemmas.{get-within, record_at, record-changed_other, slot_of-get}
use Rattle.cycles_kept.proofs.StandLemmas.{back, back-other, back-same, one_or_two}
use Rattle.cycles_kept.proofs.CycleLemmas.{changed_record, id_of}
use Rattle.cycles_kept.proofs.FileSteps.{goes-back}
use Rattle.key_state.proofs.FormatLemmas.{IsOver, each-over, over-each}
use Rattle.keys_kept.proofs.FreeLemmas.{job-each}
use Rattle.key_state.proofs.RestoredLemmas.{is_here, touches, restored, here-from, here-parts}
use Rattle.key_state.proofs.UniqueLemmas.{StaysUnique, back_slots, unique-same}

-- the slot at a place of a member; past the last it is a deleted one
abbrev pub slot_in : NumberedMembers → (member place : ℕ) → Slot
slot_in members member place = slot_of (member_of member members).slots place

-- ---- changes whose places are there

abbrev pub IsPlaced : NumberedMembers → MemberChange → Type 0
IsPlaced members undo = is_some (record_at undo.member undo.change.place members) ≡ true

abbrev pub ArePlaced : NumberedMembers → List MemberChange → Type 0
ArePlaced members undos = AllByRecursion (IsPlaced members) undos

-- so they are once a change is taken back
placed-back : (undo other : MemberChange) (members : NumberedMembers) → IsPlaced members other → IsPlaced (back undo members) other
placed-back undo other members placed =
    elim (one_or_two undo other) [
      | inl one ↦
          let moved : record_at other.member other.change.place (back undo members) ≡ record_at undo.member undo.change.place (back undo members) =
          λ i. record_at (one.0 i) (one.1 i) (back undo members) in
          let was : record_at other.member other.change.place members ≡ record_at undo.member undo.change.place members = λ i. record_at (one.0 i) (one.1 i) members in
          ap is_some (moved ∙ back-same undo members) ∙ as_some (record_at undo.member undo.change.place members) ∙ ap is_some (sym was) ∙ placed
      | inr two ↦ ap is_some (back-other undo other members two) ∙ placed
    ]
  where
    as_some : (o : Option Slot) → is_some (option_map (λ old. before_of undo.change) o) ≡ is_some o
    as_some None = refl
    as_some (Some slot) = refl

all-placed-back : (undo : MemberChange) (undos : List MemberChange) (members : NumberedMembers) → ArePlaced members undos → ArePlaced (back undo members) undos
all-placed-back undo [] members all = tt
all-placed-back undo (other ∷ undos) members all = (placed-back undo other members all.0, all-placed-back undo undos members all.1)

pub placed-take : (count : ℕ) (undos : List MemberChange) (members : NumberedMembers) → ArePlaced members undos → ArePlaced members (take count undos)
placed-take zero undos members all = tt
placed-take (suc count) [] members all = tt
placed-take (suc count) (undo ∷ undos) members all = (all.0, placed-take count undos members all.1)

pub placed-taken : (undos others : List MemberChange) (members : NumberedMembers) → ArePlaced members others → ArePlaced (taken_from undos members) others
placed-taken [] others members all = all
placed-taken (undo ∷ undos) others members all = placed-taken undos others (back undo members) (all-placed-back undo others members all)

-- ---- the slots once they are taken back

slot-back : (undo : MemberChange) (members : NumberedMembers) (member place : ℕ) → IsPlaced members undo
    → slot_in (back undo members) member place ≡ (if is_here member place undo then before_of undo.change else slot_in members member place)
slot-back undo members member place placed =
    elim (cases_eq undo.member member) [
      | inl of ↦ elim (cases_eq undo.change.place place) [
        | inl at ↦
            let moved : slot_in (back undo members) undo.member undo.change.place ≡ slot_in (back undo members) member place = λ i. slot_in (back undo members) (of i) (at i) in
            sym moved ∙ slot_of-get (member_of undo.member (back undo members)).slots undo.change.place
            ∙ ap (λ (o : Option Slot). unwrap_or o Deleted) (back-same undo members) ∙ as_slot (record_at undo.member undo.change.place members) placed
            ∙ sym (ap (λ b. if b then before_of undo.change else slot_in members member place) (here-from member place undo of at))
        | inr differ ↦ apart (λ m p. differ (sym p)) (and_right (undo.member == member) (undo.change.place == place) (ne_eqb undo.change.place place differ))
      ]
      | inr differ ↦ apart (λ m p. differ (sym m)) (and_left (undo.member == member) (undo.change.place == place) (ne_eqb undo.member member differ))
    ]
  where
    as_slot : (o : Option Slot) → is_some o ≡ true → unwrap_or (option_map (λ old. before_of undo.change) o) Deleted ≡ before_of undo.change
    as_slot None there = absurd (true≢false (sym there))
    as_slot (Some slot) there = refl

    apart : (member ≡ undo.member → place ≡ undo.change.place → ⊥) → is_here member place undo ≡ false
        → slot_in (back undo members) member place ≡ (if is_here member place undo then before_of undo.change else slot_in members member place)
    apart differ none =
        slot_of-get (member_of member (back undo members)).slots place
        ∙ ap (λ (o : Option Slot). unwrap_or o Deleted)
        (record-changed_other member undo.member place (undo.change.place + 1) (before_of undo.change) members (λ m p. differ m (omega (arith, p))))
        ∙ sym (slot_of-get (member_of member members).slots place)
        ∙ sym (ap (λ b. if b then before_of undo.change else slot_in members member place) none)

pub slot-taken : (undos : List MemberChange) (members : NumberedMembers) (member place : ℕ) → ArePlaced members undos
    → slot_in (taken_from undos members) member place ≡ restored undos member place (slot_in members member place)
slot-taken [] members member place all = refl
slot-taken (undo ∷ undos) members member place all =
    slot-taken undos (back undo members) member place (all-placed-back undo undos members all.1)
    ∙ ap (restored undos member place) (slot-back undo members member place all.0)

-- ROLLBACK takes them back so
member-there : (member place : ℕ) (members : NumberedMembers) → is_some (record_at member place members) ≡ true → place + 1 ≤ length (member_of member members).slots
member-there member place members there =
    elim (slice_get (member_of member members).slots place) as
    (λ o. slice_get (member_of member members).slots place ≡ o → is_some o ≡ true → place + 1 ≤ length (member_of member members).slots) [
      | None ↦ λ e h. absurd (true≢false (sym h))
      | Some slot ↦ λ e h. let within = slice_get_within (member_of member members).slots place slot e in omega (arith, within)
    ] refl there

pub taken_back-from : (undos : List MemberChange) (m : Memory) → ArePlaced m.members undos → (taken_back undos m).members ≡ taken_from undos m.members
taken_back-from [] m all = refl
taken_back-from (undo ∷ undos) m all =
    let same : (with_slot undo.member (undo.change.place + 1) (before_of undo.change) m).members ≡ back undo m.members =
    ap (λ (member : MemberState). with_member undo.member member m.members)
    (slot_put-changed (member_of undo.member m.members) (undo.change.place + 1) (before_of undo.change) (member-there undo.member undo.change.place m.members all.0)) in
    taken_back-from undos (with_slot undo.member (undo.change.place + 1) (before_of undo.change) m)
    (subst (λ (ms : NumberedMembers). ArePlaced ms undos) (sym same) (all-placed-back undo undos m.members all.1))
    ∙ ap (taken_from undos) same

-- ---- the open commit cycles of a library

-- the places that they changed are there
pub record HasPlaces (m : Memory) : Type 0 where
  pub places : (job : ℕ) → ArePlaced m.members (changes_by job m)

undos-placed : (s : State) (sequence : ℕ) (undos : List MemberChange) → AllByRecursion (GoesBack s.files s.members sequence) undos → ArePlaced s.members undos
undos-placed s sequence [] all = tt
undos-placed s sequence (undo ∷ undos) all =
    let its = all.0.place.place in
    let within = get-within (member_of undo.member s.members).slots undo.change.place its in
    (ap is_some within.1, undos-placed s sequence undos all.1)

cycle-placed : (s : State) (cycle : Option CycleState) → CycleGoesBack s.files s.members cycle → ArePlaced s.members (changes_in cycle)
cycle-placed s None back = tt
cycle-placed s (Some cycle) back = undos-placed s cycle.sequence cycle.undos back

pub places-of : (s : State) → AllGoBack s.files s.members s.jobs → HasPlaces (memory_of s)
places-of s all = record {
  places = job-each (λ number job. ArePlaced s.members (changes_in job.cycle)) s.jobs (λ number. tt) (λ place job here. cycle-placed s job.cycle (goes-back s s.jobs place job all here));
}

-- a job has the lock of each record that it changed
touched-locked : (s : State) (job member place : ℕ) (undos : List MemberChange) → AllByRecursion (λ undo. HoldsChange job (changed_record undo) s.locks) undos → touches member place undos ≡ true
    → HoldsChange job (id_of member (place + 1)) s.locks
touched-locked s job member place [] all touched = absurd (true≢false (sym touched))
touched-locked s job member place (undo ∷ undos) all touched =
    elim (or_cases (is_here member place undo) (touches member place undos) touched) [
      | inl here ↦
          let its = here-parts member place undo here in
          subst (λ (at : RecordId). HoldsChange job at s.locks) (λ i. id_of (its.0 i) (its.1 i + 1)) all.0
      | inr later ↦ touched-locked s job member place undos all.1 later
    ]

pub changes-locked : (s : State) → IsJoint s → (job member place : ℕ) → touches member place (changes_by job (memory_of s)) ≡ true → HoldsChange job (id_of member (place + 1)) s.locks
changes-locked s joint job member place touched =
    job-each (λ number j. touches member place (changes_in j.cycle) ≡ true → HoldsChange number (id_of member (place + 1)) s.locks) s.jobs (λ number t. absurd (true≢false (sym t)))
    (λ at j here t. touched-locked s (at + 1) member place (changes_in j.cycle) (joint.jobs at j here).locked t) job touched

-- two jobs have changed no place both
pub changed-apart : (s : State) → IsJoint s → (job other member place : ℕ) → other ≢ job → touches member place (changes_by job (memory_of s)) ≡ true
    → touches member place (changes_by other (memory_of s)) ≡ true → ⊥
changed-apart s joint job other member place differ first second =
    two_holders s.locks job other (id_of member (place + 1)) joint.compatible differ (changes-locked s joint job member place first) (changes-locked s joint other member place second)

-- ---- the keys, format by format

pub keys-back : (m : Memory) → HasPlaces m → KeysStand m → (format : PathFormat) → IsOver m.files format → (job : ℕ)
    → StaysUnique format (changes_by job m) (λ place. slot_in m.members format.member place)
keys-back m has stand format over job count =
    unique-same format (λ place. slot_in (members_back job count m) format.member place)
    (back_slots format (take count (changes_by job m)) (λ place. slot_in m.members format.member place))
    (λ place. sym (slot-taken (take count (changes_by job m)) m.members format.member place (placed-take count (changes_by job m) m.members (has.places job))))
    (each-over m (HasOwnKeys (members_back job count m)) (stand.back job count) format over)

pub keys-once : (m : Memory) → KeysStand m → (format : PathFormat) → IsOver m.files format → (key : List KeyValue) (job other : ℕ) → other ≢ job
    → list_any (takes_key format key) (changes_by job m) ≡ true → list_any (takes_key format key) (changes_by other m) ≡ true → ⊥
keys-once m stand format over key job other differ first second =
    differ (sym (each-over m (IsReservedOnce m) stand.once format over key job other first second))

pub keys-stand : (m : Memory) → HasPlaces m
    → ((format : PathFormat) → IsOver m.files format → (job : ℕ) → StaysUnique format (changes_by job m) (λ place. slot_in m.members format.member place))
    → ((format : PathFormat) → IsOver m.files format → (key : List KeyValue) (job other : ℕ) → other ≢ job → list_any (takes_key format key) (changes_by job m) ≡ true
    → list_any (takes_key format key) (changes_by other m) ≡ true → ⊥)
    → KeysStand m
keys-stand m has back once = record {
  back = λ job count. over-each m (HasOwnKeys (members_back job count m)) (λ format over.
      unique-same format (back_slots format (take count (changes_by job m)) (λ place. slot_in m.members format.member place))
      (λ place. slot_in (members_back job count m) format.member place)
      (λ place. slot-taken (take count (changes_by job m)) m.members format.member place (placed-take count (changes_by job m) m.members (has.places job)))
      (back format over job count));
  once = over-each m (IsReservedOnce m) (λ format over key job other first second.
      elim (cases_eq job other) [
        | inl same ↦ same
        | inr differ ↦ absurd (once format over key job other (λ same. differ (sym same)) first second)
      ]);
}
