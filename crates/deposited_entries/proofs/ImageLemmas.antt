-- The images of entries are records of files, which have at least one byte and at most as many as a record may have; members and commit cycles that
-- entries name are counted from 1.
use Rattle.std.proofs.Common.{◌≡◌, ◌⊎◌, inl, inr, ℕ, ◌-◌, ◌+◌, ◌≤◌, IsTrue, true, Option, Some, None, is_some, List, [], ◌∷◌, ◌++◌, refl, sym, subst, arith}
use Rattle.std.specs.List.{AllByRecursion, filter}
use Rattle.std.proofs.lemmas.Bool.Decides.{nat_tests}
use Rattle.commit_level.specs.declared.Level.{Level}
use Rattle.entry_codec.specs.declared.entries.Draft.{Draft}
use Rattle.entry_codec.specs.declared.kinds.EntryKind.{EntryKind}
use Rattle.entry_codec.specs.Placing.{is_counted}
use Rattle.entry_codec.specs.Spelling.{IsImage}
use Rattle.member_slots.specs.Members.{NumberedMembers, member_at}
use Rattle.record_fmt.specs.declared.formats.Field.{Field}
use Rattle.record_fmt.specs.Layout.{record_length}
use Rattle.library_steps.specs.Bases.{FileSpec, PhysicalFile, LogicalFile}
use Rattle.journal_model.specs.Images.{images_of}
use Rattle.journal_model.specs.Replay.{before_of, is_in}
use Rattle.journal_model.specs.Rollback.{MemberChange, change_drafts, undo_drafts, undo_kinds, numbered_from}
use Rattle.library_model.specs.Named.{Named}
use Rattle.library_steps.specs.Commitment.{undo_entries}
use Rattle.library_steps.specs.Drafts.{Author}
use Rattle.library_steps.specs.EndJob.{definition_entries}
use Rattle.library_steps.specs.History.{is_running}
use Rattle.library_steps.specs.State.{State, FileState, CycleState, JobState, memory_of, format_in, fields_of, job_at, job_of}
use Rattle.library_steps.specs.Uses.{changes_in}
use Rattle.journal_kept.specs.Owners.{Owns, has_number}
use Rattle.journal_kept.specs.Lawful.{CycleGoesBack, GoesBack, IsBased}
use Rattle.journal_kept.proofs.MemberLemmas.{AllByRecursion-get, IsThere-is_some}
use Rattle.cycles_kept.specs.Agreed.{StaysJournaled, is_journaled}
use Rattle.cycles_kept.specs.Sound.{IsSound}
use Rattle.cycles_kept.specs.Told.{IsRecordOf, IsTold}
use Rattle.journal_kept.proofs.StatusLemmas.{journaled-owned}
use Rattle.library_kept.proofs.DraftLemmas.{DraftTold}
use Rattle.library_kept.proofs.ListLemmas.{each-append, each-weaker}
use Rattle.library_kept.proofs.PlanLemmas.{job-there, named-each}
use Rattle.deposited_entries.specs.Counted.{HasBytes, IsCounted}
use Rattle.deposited_entries.proofs.KindLemmas.{ShowsImages, some-number}
use Rattle.deposited_entries.proofs.ShapeLemmas.{IsAllCounted, IsCycleCounted, IsUndoCounted}
use Rattle.deposited_entries.proofs.Lists.{all-filter}

-- ---- a member that a file has

owned-wide : (s : State) (name : List ℕ) (file : FileState) (number : ℕ) → IsSound s → IsCounted s → Owns s.files name file number → 1 ≤ record_length (fields_of file)
owned-wide s name file number sound counted owns =
    by file.spec (named-each (λ (f : FileState). HasBytes f.spec) name s.files file counted.records owns.there) (sound.library.bases name file owns.there)
  where
    by : (spec : FileSpec) → HasBytes spec → IsBased s.files name file.members spec → 1 ≤ record_length (format_in spec).fields
    by (PhysicalFile spec) wide based = wide
    by (LogicalFile spec) wide based = absurd (let has : has_number number [] ≡ true = subst (λ members. has_number number members ≡ true) based.none owns.has in cc)

pub at-counted : (members : NumberedMembers) (number : ℕ) → AllByRecursion (λ entry. 1 ≤ entry.number) members → is_some (member_at number members) ≡ true → 1 ≤ number
at-counted [] number all there = absurd cc
at-counted (entry ∷ members) number all there = grind (arith, nat_tests, all.0, at-counted members number all.1)

pub owned-counted : (s : State) (name : List ℕ) (file : FileState) (number : ℕ) → IsSound s → IsCounted s → Owns s.files name file number → 1 ≤ number
owned-counted s name file number sound counted owns =
    at-counted s.members number counted.members (IsThere-is_some (fields_of file) (member_at number s.members) (sound.library.members name file number owns))

-- ---- its records

record-image : (fields : List Field) (image : List ℕ) → 1 ≤ record_length fields → record_length fields ≤ 32766 → IsRecordOf fields image → IsImage image
record-image fields image wide narrow is = let long = is.long in (omega (arith, long, wide), omega (arith, long, narrow))

owned-images : (s : State) (name : List ℕ) (file : FileState) (number : ℕ) (images : List (List ℕ)) → IsSound s → IsCounted s → Owns s.files name file number
    → AllByRecursion (IsRecordOf (fields_of file)) images → AllByRecursion IsImage images
owned-images s name file number images sound counted owns all =
    each-weaker (IsRecordOf (fields_of file)) IsImage images
    (λ image is. record-image (fields_of file) image (owned-wide s name file number sound counted owns) (sound.formats name file owns.there).narrow is) all

pub owned-show : (s : State) (name : List ℕ) (file : FileState) (number : ℕ) (drafts : List Draft) → IsSound s → IsCounted s → Owns s.files name file number
    → AllByRecursion (DraftTold (fields_of file) number) drafts → AllByRecursion ShowsImages drafts
owned-show s name file number drafts sound counted owns all =
    each-weaker (DraftTold (fields_of file) number) ShowsImages drafts (λ d told. owned-images s name file number (images_of d.kind) sound counted owns told.images) all

-- ---- drafts of members that files have

-- a file has the member that the draft names
record NamesMember (files : Named FileState) (d : Draft) : Type 0 where
  number : ℕ
  named : d.member ≡ Some number
  name : List ℕ
  file : FileState
  owns : Owns files name file number

-- or the draft has no image
abbrev IsOwned : Named FileState → Draft → Type 0
IsOwned files d = (images_of d.kind ≡ []) ⊎ NamesMember files d

told-shows : (s : State) (k : ℕ) (drafts : List Draft) → IsSound s → IsCounted s → AllByRecursion (IsOwned s.files) drafts → AllByRecursion (IsTold s.files) (numbered_from k drafts)
    → AllByRecursion ShowsImages drafts
told-shows s k [] sound counted owned told = tt
told-shows s k (d ∷ drafts) sound counted owned told = (one owned.0, told-shows s (k + 1) drafts sound counted owned.1 told.1)
  where
    one : IsOwned s.files d → ShowsImages d
    one (inl none) = subst (AllByRecursion IsImage) (sym none) tt
    one (inr its) = owned-images s its.name its.file its.number (images_of d.kind) sound counted its.owns (told.0 its.name its.file its.number its.owns its.named).images

-- ---- changes taken back

-- a file has the member that was changed
record IsOwnedUndo (files : Named FileState) (undo : MemberChange) : Type 0 where
  name : List ℕ
  file : FileState
  owns : Owns files name file undo.member

change_drafts-owned : (files : Named FileState) (job : Option (List ℕ)) (moment : ℕ) (c : MemberChange) (kinds : List EntryKind) → IsOwnedUndo files c
    → AllByRecursion (IsOwned files) (change_drafts job moment c kinds)
change_drafts-owned files job moment c [] its = tt
change_drafts-owned files job moment c (kind ∷ kinds) its =
    (inr (record { number = c.member; named = refl; name = its.name; file = its.file; owns = its.owns }), change_drafts-owned files job moment c kinds its)

undo_drafts-owned : (files : Named FileState) (job : Option (List ℕ)) (moment : ℕ) (undos : List MemberChange) → AllByRecursion (IsOwnedUndo files) undos
    → AllByRecursion (IsOwned files) (undo_drafts job moment undos)
undo_drafts-owned files job moment [] all = tt
undo_drafts-owned files job moment (c ∷ undos) all =
    let kinds = undo_kinds (before_of c.change) c.change.after in
    each-append (IsOwned files) (change_drafts job moment c kinds) (undo_drafts job moment undos) (change_drafts-owned files job moment c kinds all.0)
    (undo_drafts-owned files job moment undos all.1)

undo_entries-owned : (files : Named FileState) (author : Author) (cycle : Option CycleState) → AllByRecursion (IsOwnedUndo files) (changes_in cycle)
    → AllByRecursion (IsOwned files) (undo_entries author cycle)
undo_entries-owned files author None all = tt
undo_entries-owned files author (Some cycle) all =
    let undos = filter (λ (c : MemberChange). is_in cycle.sequence c.change) cycle.undos in
    each-append (IsOwned files) (undo_drafts (Some author.job) author.moment undos) _
    (undo_drafts-owned files (Some author.job) author.moment undos (all-filter (IsOwnedUndo files) (λ (c : MemberChange). is_in cycle.sequence c.change) cycle.undos all)) (inl refl, tt)

definition-owned : (files : Named FileState) (author : Author) (level : Option Level) → AllByRecursion (IsOwned files) (definition_entries author level)
definition-owned files author None = tt
definition-owned files author (Some level) = (inl refl, tt)

-- a member that is changed in an open commit cycle is journaled, so that a file has it
journaled-undos : (s : State) (undos : List MemberChange) → IsSound s → AllByRecursion (λ undo. is_journaled undo.member s.files ≡ true) undos → AllByRecursion (IsOwnedUndo s.files) undos
journaled-undos s [] sound all = tt
journaled-undos s (undo ∷ undos) sound all =
    let its = journaled-owned undo.member s.files sound.names all.0 in
    (record { name = its.0; file = its.1; owns = its.2 }, journaled-undos s undos sound all.1)

-- ---- the job that asks

module _ (s : State) (job : ℕ) (sound : IsSound s) (running : IsTrue (is_running (job_at job s.jobs))) where
  abbrev mine : JobState
  mine = job_of job (memory_of s)

  mine-undos : AllByRecursion (IsOwnedUndo s.files) (changes_in mine.cycle)
  mine-undos =
      let stays = AllByRecursion-get (StaysJournaled s.files) s.jobs (job - 1) mine sound.agreed.committed (job-there s.jobs job running) in
      journaled-undos s (changes_in mine.cycle) sound stays.changes

  pub mine-counted : IsCounted s → IsCycleCounted mine.cycle
  mine-counted counted = AllByRecursion-get (λ (j : JobState). IsCycleCounted j.cycle) s.jobs (job - 1) mine counted.cycles (job-there s.jobs job running)

  pub mine-shows : IsCounted s → (author : Author) (k : ℕ) → AllByRecursion (IsTold s.files) (numbered_from k (undo_entries author mine.cycle))
      → AllByRecursion ShowsImages (undo_entries author mine.cycle)
  mine-shows counted author k told = told-shows s k (undo_entries author mine.cycle) sound counted (undo_entries-owned s.files author mine.cycle mine-undos) told

  pub mine-ends : IsCounted s → (author : Author) (k : ℕ) → AllByRecursion (IsTold s.files) (numbered_from k (undo_entries author mine.cycle ++ definition_entries author mine.level))
      → AllByRecursion ShowsImages (undo_entries author mine.cycle ++ definition_entries author mine.level)
  mine-ends counted author k told =
      told-shows s k (undo_entries author mine.cycle ++ definition_entries author mine.level) sound counted
      (each-append (IsOwned s.files) (undo_entries author mine.cycle) (definition_entries author mine.level) (undo_entries-owned s.files author mine.cycle mine-undos)
      (definition-owned s.files author mine.level))
      told

-- the changes of a commit cycle are counted as it is
pub cycle-counted : (s : State) (o : Option CycleState) → IsCounted s → IsCycleCounted o → CycleGoesBack s.files s.members o → IsAllCounted o
cycle-counted s None all counted back = tt
cycle-counted s (Some cycle) all counted back = (
  counted,
  each-weaker (GoesBack s.files s.members cycle.sequence) IsUndoCounted cycle.undos
      (λ undo goes. record {
        cycle = subst (λ (o : Option ℕ). is_counted o ≡ true) (sym goes.cycle) (some-number cycle.sequence counted);
        member = at-counted s.members undo.member all.members goes.place.there;
      }) back,
)
