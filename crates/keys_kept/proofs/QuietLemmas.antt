-- The ways of requests to leave the keys as they are: jobs alone change, files do, or a member that no open commit cycle has changed.
use Rattle.std.proofs.Common.{◌≡◌, ◌≢◌, ◌⊎◌, inl, inr, ◌∙◌, ℕ, ◌-◌, ◌==◌, true, false, List, [], ◌∷◌, Option, Some, None, is_some, unwrap_or, subst, refl, sym, ap}
use Rattle.std.specs.List.{list_any}
use Rattle.std.specs.Option.{option_map}
use Rattle.std.proofs.lemmas.Bool.{true≢false, cases_eq, and_left, false_from_ne_true, or_cases, or_from, or_parts}
use Rattle.member_slots.specs.declared.slot.Slot.{Slot}
use Rattle.member_slots.specs.declared.slot.Slot.TheVariants.{Deleted}
use Rattle.member_slots.specs.Member.{MemberState, empty_member}
use Rattle.member_slots.specs.Members.{NumberedMembers, member_at, member_of, with_member}
use Rattle.file_model.specs.declared.paths.PathFormat.{PathFormat}
use Rattle.journal_model.specs.Places.{slot_of}
use Rattle.journal_model.specs.Rollback.{MemberChange}
use Rattle.library_model.specs.Named.{Named}
use Rattle.library_steps.specs.State.{State, Memory, FileState, JobState, memory_of, job_at, job_changed, job_of, or_new}
use Rattle.library_steps.specs.Change.{Change}
use Rattle.library_steps.specs.Uses.{changer_of_any, changes_in, has_changed, user_of, uses}
use Rattle.lawful_states.proofs.BackLemmas.{unused-unchanged}
use Rattle.key_state.specs.Keys.{KeysStand, changes_by}
use Rattle.key_state.proofs.FormatLemmas.{IsOver}
use Rattle.key_state.proofs.ListLemmas.{IsIn, any-in}
use Rattle.key_state.proofs.RestoredLemmas.{is_here, touches, here-parts}
use Rattle.key_state.proofs.UniqueLemmas.{IsUnique, Shows}
use Rattle.cycles_kept.proofs.FileSteps.{first_job-none}
use Rattle.cycles_kept.proofs.JobLemmas.{IsAsking}
use Rattle.cycles_kept.proofs.PlaceLemmas.{item-with_item, record_at, record-with_other, slot_of-get}
use Rattle.keys_kept.proofs.EffectLemmas.{FormatStays, quiet-stands, slots_for}
use Rattle.keys_kept.proofs.FreeLemmas.{job-each}
use Rattle.keys_kept.proofs.JobLemmas.{changes-stay}
use Rattle.keys_kept.proofs.StateLemmas.{ArePlaced, HasPlaces, slot_in}

-- the keys stand in the new memory, where they stood and the places of open commit cycles are there
abbrev pub KeysStayIn : State → Memory → Type 0
KeysStayIn s new = HasPlaces (memory_of s) → HasPlaces new → KeysStand (memory_of s) → KeysStand new

abbrev pub KeysStay : State → Change → Type 0
KeysStay s c = KeysStayIn s c.memory

-- ---- jobs alone

-- one job is changed, and its open commit cycle stands or has ended
pub job-stays : (s : State) (new : Memory) (job : ℕ) (change : JobState → JobState) → IsAsking s job → new.jobs ≡ job_changed (job - 1) change s.jobs
    → ((changes_in (change (job_of job (memory_of s))).cycle ≡ changes_by job (memory_of s)) ⊎ (changes_in (change (job_of job (memory_of s))).cycle ≡ []))
    → new.files ≡ s.files → new.members ≡ s.members → KeysStayIn s new
job-stays s new job change asks jobs own files members has places stand =
    quiet-stands (memory_of s) new has places stand (record {
      changes = changes-stay s new job change asks jobs own;
      formats = λ format over. inl (subst (λ (fs : Named FileState). IsOver fs format) files over, λ place. ap (λ (ms : NumberedMembers). slot_in ms format.member place) members);
    })

pub changes-same : (s : State) (new : Memory) → new.jobs ≡ s.jobs → (job : ℕ) → (changes_by job new ≡ changes_by job (memory_of s)) ⊎ (changes_by job new ≡ [])
changes-same s new jobs job = inl (ap (λ (js : List JobState). changes_in (or_new (job_at job js)).cycle) jobs)

-- no job and no member is changed
pub files-stay : (s : State) (new : Memory) → new.jobs ≡ s.jobs → ((format : PathFormat) → IsOver new.files format → IsOver s.files format) → new.members ≡ s.members
    → KeysStayIn s new
files-stay s new jobs files members has places stand =
    quiet-stands (memory_of s) new has places stand (record {
      changes = changes-same s new jobs;
      formats = λ format over. inl (files format over, λ place. ap (λ (ms : NumberedMembers). slot_in ms format.member place) members);
    })

-- ---- members without slots

placed-touched : (members : NumberedMembers) (undos : List MemberChange) (member place : ℕ) → ArePlaced members undos → touches member place undos ≡ true
    → is_some (record_at member place members) ≡ true
placed-touched members [] member place all touched = absurd (true≢false (sym touched))
placed-touched members (undo ∷ undos) member place all touched =
    elim (or_cases (is_here member place undo) (touches member place undos) touched) [
      | inl here ↦
          let its = here-parts member place undo here in
          let same : record_at undo.member undo.change.place members ≡ record_at member place members = λ i. record_at (its.0 i) (its.1 i) members in
          sym (ap is_some same) ∙ all.0
      | inr later ↦ placed-touched members undos member place all.1 later
    ]

-- a format over a member without slots
pub empty-stays : (m new : Memory) (format : PathFormat) → HasPlaces new → ((place : ℕ) → record_at format.member place new.members ≡ None) → FormatStays m new format
empty-stays m new format places none =
    inr (
      λ job place. false_from_ne_true (touches format.member place (changes_by job new))
          (λ touched. true≢false (sym (placed-touched new.members (changes_by job new) format.member place (places.places job) touched) ∙ ap is_some (none place))),
      λ key place other first second. absurd (true≢false (sym (subst (Shows format key) (deleted place) first))),
    )
  where
    deleted : (place : ℕ) → slots_for new format place ≡ Deleted
    deleted place = slot_of-get (member_of format.member new.members).slots place ∙ ap (λ (o : Option Slot). unwrap_or o Deleted) (none place)

-- ---- a member that no job uses

unmoved : (member place : ℕ) (undos : List MemberChange) → list_any (λ undo. undo.member == member) undos ≡ false → touches member place undos ≡ false
unmoved member place [] none = refl
unmoved member place (undo ∷ undos) none =
    let parts = or_parts (undo.member == member) (list_any (λ (u : MemberChange). u.member == member) undos) none in
    or_from (is_here member place undo) (touches member place undos) (and_left (undo.member == member) (undo.change.place == place) parts.0) (unmoved member place undos parts.1)

unused-untouched : (s : State) (member : ℕ) → user_of member (memory_of s) ≡ None → (job place : ℕ) → touches member place (changes_by job (memory_of s)) ≡ false
unused-untouched s member none job place =
    job-each (λ number j. touches member place (changes_in j.cycle) ≡ false) s.jobs (λ number. refl)
    (λ at j here.
    let free = first_job-none (uses member s.locks) 1 s.jobs at j none here in
    unmoved member place (changes_in j.cycle) (unused-unchanged member free.0 s.locks j free.1)) job

-- nor is one of members that no open commit cycle has changed
pub unchanged-untouched : (s : State) (members : List ℕ) (member : ℕ) → changer_of_any members (memory_of s) ≡ None → IsIn member members → (job place : ℕ)
    → touches member place (changes_by job (memory_of s)) ≡ false
unchanged-untouched s members member none its job place =
    job-each (λ number j. touches member place (changes_in j.cycle) ≡ false) s.jobs (λ number. refl)
    (λ at j here.
    let free = first_job-none (λ number k. list_any (λ base. has_changed base k) members) 1 s.jobs at j none here in
    unmoved member place (changes_in j.cycle)
    (false_from_ne_true (has_changed member j) (λ changed. true≢false (sym (any-in (λ base. has_changed base j) member members its changed) ∙ free.1)))) job

-- a member that gets other slots has these, where it is there
replaced-slot : (number place : ℕ) (member : MemberState) (members : NumberedMembers)
    → (slot_in (with_member number member members) number place ≡ slot_of member.slots place) ⊎ (slot_in (with_member number member members) number place ≡ Deleted)
replaced-slot number place member members =
    subst (λ (o : Option MemberState). (slot_of (unwrap_or o (empty_member 0)).slots place ≡ slot_of member.slots place) ⊎ (slot_of (unwrap_or o (empty_member 0)).slots place ≡ Deleted))
    (sym (item-with_item number member members)) (by (member_at number members))
  where
    by : (o : Option MemberState) → (slot_of (unwrap_or (option_map (λ old. member) o) (empty_member 0)).slots place ≡ slot_of member.slots place)
        ⊎ (slot_of (unwrap_or (option_map (λ old. member) o) (empty_member 0)).slots place ≡ Deleted)
    by None = inr refl
    by (Some old) = inl refl

-- the new slots have no equal keys, where the keys stood
abbrev pub AreUniqueSlots : State → (number : ℕ) → MemberState → Type 0
AreUniqueSlots s number member =
    HasPlaces (memory_of s) → KeysStand (memory_of s) → (format : PathFormat) → IsOver s.files format → format.member ≡ number → IsUnique format (λ place. slot_of member.slots place)

module _ (s : State) (new : Memory) (number : ℕ) (member : MemberState) (none : user_of number (memory_of s) ≡ None) (jobs : new.jobs ≡ s.jobs)
    (files : (format : PathFormat) → IsOver new.files format → IsOver s.files format) (members : new.members ≡ with_member number member s.members) where
  untouched : (job place : ℕ) → touches number place (changes_by job new) ≡ false
  untouched job place = ap (λ (js : List JobState). touches number place (changes_in (or_new (job_at job js)).cycle)) jobs ∙ unused-untouched s number none job place

  unique-there : (format : PathFormat) → format.member ≡ number → IsUnique format (λ place. slot_of member.slots place) → IsUnique format (slots_for new format)
  unique-there format is unique key place other first second =
      elim (replaced-slot number place member s.members) [
        | inl here ↦ elim (replaced-slot number other member s.members) [
          | inl there ↦ unique key place other (subst (Shows format key) (moved place ∙ here) first) (subst (Shows format key) (moved other ∙ there) second)
          | inr deleted ↦ absurd (true≢false (sym (subst (Shows format key) (moved other ∙ deleted) second)))
        ]
        | inr deleted ↦ absurd (true≢false (sym (subst (Shows format key) (moved place ∙ deleted) first)))
      ]
    where
      moved : (p : ℕ) → slots_for new format p ≡ slot_in (with_member number member s.members) number p
      moved p = λ i. slot_in (members i) (is i) p

  kept-there : (format : PathFormat) (place : ℕ) → format.member ≢ number → slots_for new format place ≡ slots_for (memory_of s) format place
  kept-there format place differ =
      slot_of-get (member_of format.member new.members).slots place
      ∙ ap (λ (o : Option Slot). unwrap_or o Deleted) (ap (record_at format.member place) members ∙ record-with_other format.member number place member s.members differ)
      ∙ sym (slot_of-get (member_of format.member s.members).slots place)

  -- where the slots that the member has now have no equal keys
  pub slots-stay : (HasPlaces (memory_of s) → KeysStand (memory_of s) → (format : PathFormat) → IsOver s.files format → format.member ≡ number → IsUnique format (slots_for new format))
      → KeysStayIn s new
  slots-stay unique has places stand =
      quiet-stands (memory_of s) new has places stand (record {
        changes = changes-same s new jobs;
        formats = λ format over. by format (files format over);
      })
    where
      by : (format : PathFormat) → IsOver s.files format → FormatStays (memory_of s) new format
      by format over =
          elim (cases_eq format.member number) [
            | inl is ↦ inr (λ job place. ap (λ (n : ℕ). touches n place (changes_by job new)) is ∙ untouched job place, unique has stand format over is)
            | inr differ ↦ inl (over, λ place. kept-there format place differ)
          ]

  pub member-stays : AreUniqueSlots s number member → KeysStayIn s new
  member-stays unique = slots-stay (λ has stand format over is. unique-there format is (unique has stand format over is))
