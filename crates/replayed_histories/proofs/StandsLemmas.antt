-- What the journal leaves still is the library, where files and members stay and no commit cycle begins, ends or changes anything.
use Rattle.std.proofs.Common.{◌≡◌, ℕ, ◌+◌, ◌<◌, zero, suc, IfSome, Option, List, [], ◌∷◌, refl, sym, ap, ◌∙◌, subst, arith}
use Rattle.std.specs.List.{AllByRecursion}
use Rattle.member_slots.specs.Members.{NumberedMembers}
use Rattle.entry_codec.specs.declared.entries.Entry.{Entry}
use Rattle.entry_codec.specs.declared.kinds.EntryKind.{EntryKind}
use Rattle.journal_model.specs.Replayable.{is_one_of}
use Rattle.journal_model.specs.Rollback.{MemberChange}
use Rattle.journal_replay.specs.Standing.{Standing}
use Rattle.library_model.specs.Named.{Named}
use Rattle.library_steps.specs.State.{CycleState, FileState, JobState, job_changed}
use Rattle.replayed_histories.proofs.ListLemmas.{all-job_changed}
use Rattle.replayed_histories.specs.Shown.{AreDifferent, cycle_numbers, with_number}
use Rattle.replayed_histories.specs.Replayed.{BeganBefore, CyclesStand, HasItsChanges, StandsAs, changes_in}
use Rattle.replayed_histories.specs.Deposits.{moved_on}
use Rattle.replayed_histories.proofs.QuietLemmas.{moved_times}

-- ---- jobs whose commit cycles stay

pub numbers-stay : (place : ℕ) (change : JobState → JobState) (jobs : List JobState) → ((job : JobState) → (change job).cycle ≡ job.cycle)
    → cycle_numbers (job_changed place change jobs) ≡ cycle_numbers jobs
numbers-stay place change [] same = refl
numbers-stay zero change (job ∷ jobs) same = ap (λ (c : Option CycleState). with_number c (cycle_numbers jobs)) (same job)
numbers-stay (suc place) change (job ∷ jobs) same = ap (with_number job.cycle) (numbers-stay place change jobs same)

pub jobs-stay : (next place : ℕ) (cycles : List ℕ) (undos : List MemberChange) (change : JobState → JobState) (jobs : List JobState) → ((job : JobState) → (change job).cycle ≡ job.cycle)
    → CyclesStand next cycles undos jobs → CyclesStand next cycles undos (job_changed place change jobs)
jobs-stay next place cycles undos change jobs same stand = record {
  same = λ n. stand.same n ∙ ap (λ (numbers : List ℕ). is_one_of numbers n) (sym (numbers-stay place change jobs same));
  rising = stand.rising;
  apart = subst AreDifferent (sym (numbers-stay place change jobs same)) stand.apart;
  begun = stand.begun;
  changes = all-job_changed (HasItsChanges undos) place change jobs
      (λ job has. subst (λ (o : Option CycleState). IfSome o (λ (cycle : CycleState). changes_in cycle.sequence undos ≡ cycle.undos)) (sym (same job)) has) stand.changes;
  owned = stand.owned;
}

-- ---- an entry more

pub later : (next : ℕ) (numbers : List ℕ) → AllByRecursion (BeganBefore next) numbers → AllByRecursion (BeganBefore (next + 1)) numbers
later next [] all = tt
later next (n ∷ numbers) all = let less : n < next = all.0.1 in ((all.0.0, omega (arith, less)), later next numbers all.1)

pub stands-on : (left : Standing) (files : Named FileState) (members : NumberedMembers) (next_member : ℕ) (jobs : List JobState) → StandsAs left files members next_member jobs
    → StandsAs (moved_on left) files members next_member jobs
stands-on left files members next_member jobs stands = record {
  files_are = stands.files_are;
  described = stands.described;
  fields_are = stands.fields_are;
  members_are = stands.members_are;
  homes = stands.homes;
  numbers = stands.numbers;
  next_is = stands.next_is;
  slots = stands.slots;
  cycles_are = record {
    same = stands.cycles_are.same;
    rising = stands.cycles_are.rising;
    apart = stands.cycles_are.apart;
    begun = later left.next left.cycles stands.cycles_are.begun;
    changes = stands.cycles_are.changes;
    owned = stands.cycles_are.owned;
  };
}

pub stands-times : (kinds : List EntryKind) (left : Standing) (files : Named FileState) (members : NumberedMembers) (next_member : ℕ) (jobs : List JobState)
    → StandsAs left files members next_member jobs → StandsAs (moved_times kinds left) files members next_member jobs
stands-times [] left files members next_member jobs stands = stands
stands-times (kind ∷ kinds) left files members next_member jobs stands =
    stands-times kinds (moved_on left) files members next_member jobs (stands-on left files members next_member jobs stands)

pub stands-job : (left : Standing) (files : Named FileState) (members : NumberedMembers) (next_member place : ℕ) (change : JobState → JobState) (jobs : List JobState)
    → ((job : JobState) → (change job).cycle ≡ job.cycle) → StandsAs left files members next_member jobs → StandsAs left files members next_member (job_changed place change jobs)
stands-job left files members next_member place change jobs same stands = record {
  files_are = stands.files_are;
  described = stands.described;
  fields_are = stands.fields_are;
  members_are = stands.members_are;
  homes = stands.homes;
  numbers = stands.numbers;
  next_is = stands.next_is;
  slots = stands.slots;
  cycles_are = jobs-stay left.next place left.cycles left.undos change jobs same stands.cycles_are;
}

-- ---- other commit cycles

pub cycles-later : (next : ℕ) (cycles : List ℕ) (undos : List MemberChange) (jobs : List JobState) → CyclesStand next cycles undos jobs → CyclesStand (next + 1) cycles undos jobs
cycles-later next cycles undos jobs stand = record {
  same = stand.same;
  rising = stand.rising;
  apart = stand.apart;
  begun = later next cycles stand.begun;
  changes = stand.changes;
  owned = stand.owned;
}

pub stands-with : (left : Standing) (next : ℕ) (begun : Option Entry) (cycles : List ℕ) (undos : List MemberChange) (files : Named FileState) (members : NumberedMembers) (next_member : ℕ)
    (jobs jobs_then : List JobState) → StandsAs left files members next_member jobs → CyclesStand next cycles undos jobs_then
    → StandsAs (record left { next = next; begun = begun; cycles = cycles; undos = undos }) files members next_member jobs_then
stands-with left next begun cycles undos files members next_member jobs jobs_then stands stand = record {
  files_are = stands.files_are;
  described = stands.described;
  fields_are = stands.fields_are;
  members_are = stands.members_are;
  homes = stands.homes;
  numbers = stands.numbers;
  next_is = stands.next_is;
  slots = stands.slots;
  cycles_are = stand;
}
