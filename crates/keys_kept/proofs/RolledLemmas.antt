-- Whichever jobs roll back, and in whatever order, no unique path has equal keys after it.
use Rattle.std.proofs.Common.{◌≡◌, ◌≢◌, inl, inr, ◌∙◌, ℕ, ◌+◌, ◌-◌, true, List, [], ◌∷◌, slice_get, Option, Some, None, subst, refl, sym, ap, arith}
use Rattle.std.specs.Option.{option_map}
use Rattle.std.proofs.lemmas.Bool.{true≢false, cases_eq}
use Rattle.member_slots.specs.Members.{NumberedMembers}
use Rattle.journal_model.specs.Rollback.{MemberChange}
use Rattle.library_model.specs.Named.{Named}
use Rattle.library_steps.specs.State.{State, Memory, FileState, JobState, memory_of, job_changed, job_of, or_new, with_opens}
use Rattle.library_steps.specs.Commitment.{changes_of, rolled_back, rolled_back_open, taken_back, without_cycle}
use Rattle.library_steps.specs.Uses.{changes_in}
use Rattle.joint_state.specs.Sound.{IsSound}
use Rattle.key_state.specs.Keys.{KeysStand, changes_by, taken_from}
use Rattle.key_state.proofs.FormatLemmas.{IsOver}
use Rattle.key_state.proofs.RestoredLemmas.{touches}
use Rattle.cycles_kept.proofs.BoundarySteps.{changes-alike, taken_back-files, taken_back-jobs}
use Rattle.keys_kept.specs.KeysKept.{HasUniqueKeys, all_rolled_back}
use Rattle.keys_kept.proofs.EffectLemmas.{back-stands}
use Rattle.keys_kept.proofs.JobLemmas.{changes-at, changes-others}
use Rattle.keys_kept.proofs.StateLemmas.{ArePlaced, HasPlaces, changed-apart, placed-taken, places-of, slot-taken, slot_in, taken_back-from}

-- what a rollback needs, and keeps
record GoBackApart (m : Memory) : Type 0 where
  has : HasPlaces m
  stand : KeysStand m
  apart : (job other member place : ℕ) → other ≢ job → touches member place (changes_by job m) ≡ true → touches member place (changes_by other m) ≡ true → ⊥

-- the job as its rollback leaves it
abbrev rolled_job : JobState → JobState
rolled_job j = with_opens rolled_back_open (without_cycle j)

module _ (m : Memory) (number : ℕ) (back : GoBackApart m) where
  abbrev later : Memory
  later = rolled_back (number + 1) m

  members-later : later.members ≡ taken_from (changes_by (number + 1) m) m.members
  members-later =
      ap (λ (us : List MemberChange). (taken_back us m).members) (changes-alike (job_of (number + 1) m).cycle)
      ∙ taken_back-from (changes_by (number + 1) m) m (back.has.places (number + 1))

  jobs-later : later.jobs ≡ job_changed (number + 1 - 1) rolled_job m.jobs
  jobs-later = ap (job_changed (number + 1 - 1) rolled_job) (taken_back-jobs (changes_of (job_of (number + 1) m).cycle) m)

  files-later : later.files ≡ m.files
  files-later = taken_back-files (changes_of (job_of (number + 1) m).cycle) m

  own-later : changes_by (number + 1) later ≡ []
  own-later = changes-at m later (number + 1) rolled_job (omega arith) jobs-later ∙ by (slice_get m.jobs (number + 1 - 1))
    where
      by : (o : Option JobState) → changes_in (or_new (option_map rolled_job o)).cycle ≡ []
      by None = refl
      by (Some job) = refl

  others-later : (other : ℕ) → other ≢ number + 1 → changes_by other later ≡ changes_by other m
  others-later = changes-others m later (number + 1) rolled_job (omega arith) jobs-later

  places-later : HasPlaces later
  places-later = record {
    places = λ job. elim (cases_eq job (number + 1)) [
      | inl same ↦ subst (ArePlaced later.members) (sym (ap (λ (n : ℕ). changes_by n later) same ∙ own-later)) tt
      | inr differ ↦ subst (ArePlaced later.members) (sym (others-later job differ))
          (subst (λ (ms : NumberedMembers). ArePlaced ms (changes_by job m)) (sym members-later)
          (placed-taken (changes_by (number + 1) m) (changes_by job m) m.members (back.has.places job)))
    ];
  }

  was-touched : (job member place : ℕ) → touches member place (changes_by job later) ≡ true → touches member place (changes_by job m) ≡ true
  was-touched job member place touched =
      elim (cases_eq job (number + 1)) [
        | inl same ↦ absurd (true≢false (sym (subst (λ (us : List MemberChange). touches member place us ≡ true) (ap (λ (n : ℕ). changes_by n later) same ∙ own-later) touched)))
        | inr differ ↦ subst (λ (us : List MemberChange). touches member place us ≡ true) (others-later job differ) touched
      ]

  rolled-apart : GoBackApart later
  rolled-apart = record {
    has = places-later;
    stand = back-stands m later (number + 1) back.has places-later back.stand (record {
      files = λ format over. subst (λ (fs : Named FileState). IsOver fs format) files-later over;
      slots = λ member place. ap (λ (ms : NumberedMembers). slot_in ms member place) members-later
          ∙ slot-taken (changes_by (number + 1) m) m.members member place (back.has.places (number + 1));
      own = own-later;
      others = others-later;
      apart = λ other member place differ. back.apart (number + 1) other member place differ;
    });
    apart = λ job other member place differ first second. back.apart job other member place differ (was-touched job member place first) (was-touched other member place second);
  }

all-apart : (places : List ℕ) (m : Memory) → GoBackApart m → HasUniqueKeys (all_rolled_back places m)
all-apart [] m back = back.stand.back 0 0
all-apart (place ∷ places) m back = all-apart places (rolled_back (place + 1) m) (rolled-apart m place back)

pub rolled-unique : (s : State) → IsSound s → KeysStand (memory_of s) → (places : List ℕ) → HasUniqueKeys (all_rolled_back places (memory_of s))
rolled-unique s sound stand places =
    all-apart places (memory_of s) (record {
      has = places-of s sound.library.changes;
      stand = stand;
      apart = λ job other member place differ first second. changed-apart s sound.joint job other member place differ first second;
    })
