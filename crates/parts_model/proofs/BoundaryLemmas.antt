-- What the boundaries of jobs deposit and take back is what their definitions say.
use Rattle.std.proofs.Common.{◌≡◌, ℕ, suc, ◌+◌, ◌-◌, ◌*◌, ◌≤◌, ◌==◌, Bool, true, false, List, [], ◌∷◌, ◌++◌, length, map, filter, option_to_list, Option, Some, None, is_some, Ok, append_assoc, length-append, subst, refl, sym, ◌∙◌, ap, arith}
use Rattle.std.specs.List.{AllByRecursion}
use Rattle.std.specs.Option.{option_map}
use Rattle.std.proofs.lemmas.Bool.Decides.{nat_tests}
use Rattle.commit_level.specs.declared.Level.{Level}
use Rattle.entry_codec.specs.declared.entries.Entry.{Entry}
use Rattle.entry_codec.specs.declared.entries.Draft.{Draft}
use Rattle.entry_codec.specs.declared.kinds.EntryKind.{EntryKind}
use Rattle.entry_codec.specs.declared.kinds.EntryKind.TheVariants.{CommitCycleCommitted, CommitCycleRolledBack, CommitmentEnded}
use Rattle.entry_codec.specs.Drafts.{numbered}
use Rattle.member_slots.specs.Member.{changed}
use Rattle.member_slots.specs.Members.{NumberedMembers}
use Rattle.journal_model.specs.Acts.{is_number}
use Rattle.journal_model.specs.Replay.{is_in}
use Rattle.journal_model.specs.Rollback.{MemberChange, change_drafts, undo_drafts, numbered_from}
use Rattle.lock_table.specs.declared.lock.Lock.{Lock}
use Rattle.lock_table.specs.declared.levels.Call.TheVariants.{Rollback, EndJob}
use Rattle.lock_table.specs.Lock.{is_of_group}
use Rattle.lock_table.specs.Table.{freed}
use Rattle.memory_journal.specs.Journal.{Journal, deposited, last_entry}
use Rattle.library_model.specs.declared.replies.Reply.TheVariants.{Done}
use Rattle.library_model.specs.Named.{Named}
use Rattle.library_steps.specs.State.{State, Memory, FileState, CycleState, JobState, memory_of, job_of, job_changed, with_job, with_opens}
use Rattle.library_steps.specs.Change.{journaled, deposited as drafts_deposited}
use Rattle.library_steps.specs.Commitment.{boundary_locks, commit_change, commitment_ended, committed, end_drafts, rollback_change, rolled_back, rolled_back_open, undo_entries, with_level, without_cycle}
use Rattle.library_steps.specs.Drafts.{author_of, library_draft}
use Rattle.library_steps.specs.EndJob.{definition_entries, end_change, ended_job, job_ended}
use Rattle.library_steps.specs.Locking.{with_locks}
use Rattle.library_steps.specs.Uses.{changes_in}
use Rattle.parts_model.specs.declared.boundaries.Origin.{Origin}
use Rattle.parts_model.specs.Answers.{Answers}
use Rattle.parts_model.specs.Boundaries.{cycle_end, definition_end, ended, roll_drafts, told}
use Rattle.lawful_states.specs.Back.{members_back}
use Rattle.parts_model.specs.Due.{cycle_due, level_due}
use Rattle.lawful_states.specs.Lawful.{GoesBack, CycleGoesBack}
use Rattle.parts_model.proofs.AnswerLemmas.{append-nil, changed-state}
use Rattle.lawful_states.proofs.LawfulLemmas.{commitment-memory}
use Rattle.lawful_states.proofs.BoundaryLemmas.{cycle_back-is}

-- ---- drafts that are deposited one after the other

numbered_from-append : (n : ℕ) (former later : List Draft) → numbered_from n (former ++ later) ≡ numbered_from n former ++ numbered_from (n + length former) later
numbered_from-append n [] later = ap (λ (k : ℕ). numbered_from k later) (omega arith)
numbered_from-append n (draft ∷ former) later =
    ap (λ (rest : List Entry). numbered draft n ∷ rest)
    (numbered_from-append (n + 1) former later ∙ ap (λ (k : ℕ). numbered_from (n + 1) former ++ numbered_from k later) (omega arith))

length-numbered_from : (n : ℕ) (drafts : List Draft) → length (numbered_from n drafts) ≡ length drafts
length-numbered_from n [] = refl
length-numbered_from n (draft ∷ drafts) = ap (λ (k : ℕ). suc k) (length-numbered_from (n + 1) drafts)

pub deposited-append : (former later : List Draft) (j : Journal) → deposited later (deposited former j) ≡ deposited (former ++ later) j
deposited-append former later j =
    let entries = numbered_from (last_entry j + 1) former in
    let next : last_entry (deposited former j) + 1 ≡ last_entry j + 1 + length former = omega (arith, length-append j.entries entries, length-numbered_from (last_entry j + 1) former) in
    ap (λ (es : List Entry). record j { entries = es })
    (ap (λ (k : ℕ). (j.entries ++ entries) ++ numbered_from k later) next
    ∙ append_assoc j.entries entries (numbered_from (last_entry j + 1 + length former) later)
    ∙ ap (λ (es : List Entry). j.entries ++ es) (sym (numbered_from-append (last_entry j + 1) former later)))

pub deposited-none : (j : Journal) → deposited [] j ≡ j
deposited-none j = ap (λ (es : List Entry). record j { entries = es }) (append-nil j.entries)

-- the entries that tell of a change that is taken back
pub change_drafts-told : (origin : Origin) (undo : MemberChange) (kinds : List EntryKind) → undo.change.cycle ≡ Some origin.cycle → undo.member ≡ origin.member → undo.change.place + 1 ≡ origin.rrn
    → map (told origin) kinds ≡ change_drafts (Some origin.job) origin.moment undo kinds
change_drafts-told origin undo [] cycle member place = refl
change_drafts-told origin undo (kind ∷ kinds) cycle member place =
    rw (cycle, member, place) (ap (λ (rest : List Draft). told origin kind ∷ rest) (change_drafts-told origin undo kinds cycle member place))

-- ---- the changes of a cycle are its own

in-cycle : (files : Named FileState) (members : NumberedMembers) (n : ℕ) (undos : List MemberChange) → AllByRecursion (GoesBack files members n) undos
    → filter (λ (c : MemberChange). is_in n c.change) undos ≡ undos
in-cycle files members n [] all = refl
in-cycle files members n (undo ∷ undos) all =
    let same : (n == n) ≡ true = grind (arith, nat_tests) in
    let own : is_in n undo.change ≡ true = ap (λ (o : Option ℕ). is_number o n) all.0.cycle ∙ same in
    rw own (ap (λ (rest : List MemberChange). undo ∷ rest) (in-cycle files members n undos all.1))

pub undo_entries-is : (files : Named FileState) (members : NumberedMembers) (job : List ℕ) (moment : ℕ) (cycle : Option CycleState) → CycleGoesBack files members cycle
    → undo_entries (record { job = job; moment = moment }) cycle ≡ roll_drafts job moment (option_map (λ c. c.sequence) cycle) (changes_in cycle)
undo_entries-is files members job moment None back = refl
undo_entries-is files members job moment (Some cycle) back =
    ap (λ (undos : List MemberChange). undo_drafts (Some job) moment undos ++ option_to_list (cycle_end job moment CommitCycleRolledBack (Some cycle.sequence))) (in-cycle files members cycle.sequence cycle.undos back)

pub end_drafts-is : (job : List ℕ) (moment : ℕ) (cycle : Option CycleState)
    → end_drafts (record { job = job; moment = moment }) cycle ≡ option_to_list (cycle_end job moment CommitCycleCommitted (option_map (λ c. c.sequence) cycle))
end_drafts-is job moment None = refl
end_drafts-is job moment (Some cycle) = refl

pub definition_entries-is : (job : List ℕ) (moment : ℕ) (level : Option Level) → definition_entries (record { job = job; moment = moment }) level ≡ option_to_list (definition_end job moment level)
definition_entries-is job moment None = refl
definition_entries-is job moment (Some level) = refl

-- ---- how many they are

pub length-end : (job : List ℕ) (moment : ℕ) (kind : EntryKind) (cycle : Option ℕ) → length (option_to_list (cycle_end job moment kind cycle)) ≡ length (option_to_list cycle)
length-end job moment kind None = refl
length-end job moment kind (Some sequence) = refl

pub length-definition_end : (job : List ℕ) (moment : ℕ) (level : Option Level) → length (option_to_list (definition_end job moment level)) ≡ level_due level
length-definition_end job moment None = refl
length-definition_end job moment (Some level) = refl

pub length-cycle_end : (job : List ℕ) (moment : ℕ) (kind : EntryKind) (cycle : Option CycleState) → length (option_to_list (cycle_end job moment kind (option_map (λ c. c.sequence) cycle))) ≤ cycle_due cycle
length-cycle_end job moment kind None = omega arith
length-cycle_end job moment kind (Some cycle) = omega arith

pub rolled-due : (cycle : Option CycleState) → 2 * length (changes_in cycle) + length (option_to_list (option_map (λ (c : CycleState). c.sequence) cycle)) ≡ cycle_due cycle
rolled-due None = refl
rolled-due (Some cycle) = omega arith

-- ---- what a job is answered

-- a state with the memory of a change, but for its entries, once these are deposited
journaled-answers : (s t : State) (drafts : List Draft) (forced : Bool) (m : Memory) → memory_of t ≡ m → t.gone ≡ s.gone → t.entries ≡ s.entries
    → Answers s (record t { entries = s.entries ++ drafts_deposited (memory_of s) drafts }) (Ok Done) (Ok (journaled drafts forced Done m))
journaled-answers s t drafts forced m is gone kept =
    let entries = drafts_deposited (memory_of s) drafts in
    let last : t.gone + length (s.entries ++ entries) ≡ t.gone + length t.entries + length drafts =
    omega (arith, length-append s.entries entries, length-numbered_from (s.gone + length s.entries + 1) drafts, ap (λ (es : List Entry). length es) kept) in
    let memory = ap (λ (n : ℕ). record (memory_of t) { last_entry = n }) last ∙ ap (λ (x : Memory). record x { last_entry = x.last_entry + length drafts }) is in
    let before : s.gone + length s.entries ≡ m.last_entry =
    (λ i. (sym gone) i + length ((sym kept) i)) ∙ ap (λ (x : Memory). x.last_entry) is in
    let same : s.entries ++ entries ≡ s.entries ++ drafts_deposited m drafts = ap (λ (n : ℕ). s.entries ++ numbered_from (n + 1) drafts) before in (
      journaled drafts forced Done m,
      refl,
      refl,
      changed-state s (record t { entries = s.entries ++ entries }) (drafts_deposited m drafts) (record m { last_entry = m.last_entry + length drafts }) memory
          (sym (ap (λ (x : Memory). x.gone) is) ∙ gone) same,
    )

pub commit-answers : (s : State) (job timestamp : ℕ) (locks : List Lock) (jobs : List JobState) → memory_of (record s { locks = locks; jobs = jobs }) ≡ committed job (memory_of s)
    → Answers s (record s {
      entries = s.entries ++ drafts_deposited (memory_of s) (option_to_list (cycle_end (job_of job (memory_of s)).name timestamp CommitCycleCommitted (option_map (λ c. c.sequence) (job_of job (memory_of s)).cycle)));
      locks = locks;
      jobs = jobs;
    }) (Ok Done) (Ok (commit_change (memory_of s) job timestamp))
commit-answers s job timestamp locks jobs is =
    let drafts = end_drafts-is (job_of job (memory_of s)).name timestamp (job_of job (memory_of s)).cycle in
    subst (λ (ds : List Draft). Answers s (record s { entries = s.entries ++ drafts_deposited (memory_of s) ds; locks = locks; jobs = jobs }) (Ok Done) (Ok (commit_change (memory_of s) job timestamp))) drafts
    (journaled-answers s (record s { locks = locks; jobs = jobs }) (end_drafts (author_of (memory_of s) job timestamp) (job_of job (memory_of s)).cycle) (is_some (job_of job (memory_of s)).cycle)
    (committed job (memory_of s)) is refl refl)

pub ended-answers : (s : State) (job timestamp : ℕ)
    → Answers s (record s {
      entries = s.entries ++ drafts_deposited (memory_of s) (library_draft (author_of (memory_of s) job timestamp) CommitmentEnded ∷ []);
      locks = freed (is_of_group job) s.locks;
      jobs = job_changed (job - 1) (with_level None) s.jobs;
    }) (Ok Done) (Ok (ended (memory_of s) job timestamp))
ended-answers s job timestamp =
    journaled-answers s (record s { locks = freed (is_of_group job) s.locks; jobs = job_changed (job - 1) (with_level None) s.jobs })
    (library_draft (author_of (memory_of s) job timestamp) CommitmentEnded ∷ []) false (commitment_ended job (memory_of s)) (commitment-memory s job) refl refl

module _ (s : State) (job timestamp : ℕ) (locks : List Lock) (jobs : List JobState) (back : CycleGoesBack s.files s.members (job_of job (memory_of s)).cycle) where
  abbrev members : NumberedMembers
  members = members_back (changes_in (job_of job (memory_of s)).cycle) s.members

  abbrev drafts : List Draft
  drafts = roll_drafts (job_of job (memory_of s)).name timestamp (option_map (λ c. c.sequence) (job_of job (memory_of s)).cycle) (changes_in (job_of job (memory_of s)).cycle)

  pub rollback-answers : locks ≡ boundary_locks Rollback job (memory_of s) → jobs ≡ job_changed (job - 1) (λ j. with_opens rolled_back_open (without_cycle j)) s.jobs
      → Answers s (record s { members = members; entries = s.entries ++ drafts_deposited (memory_of s) drafts; locks = locks; jobs = jobs }) (Ok Done) (Ok (rollback_change (memory_of s) job timestamp))
  rollback-answers freed changed =
      let told = undo_entries-is s.files s.members (job_of job (memory_of s)).name timestamp (job_of job (memory_of s)).cycle back in
      let is : memory_of (record s { members = members; locks = locks; jobs = jobs }) ≡ rolled_back job (memory_of s) =
      rw (freed, changed) (ap (λ (x : Memory). with_job job (λ j. with_opens rolled_back_open (without_cycle j)) (with_locks (boundary_locks Rollback job (memory_of s)) x))
      (sym (cycle_back-is s.files (memory_of s) (job_of job (memory_of s)).cycle back))) in
      subst (λ (ds : List Draft). Answers s (record s { members = members; entries = s.entries ++ drafts_deposited (memory_of s) ds; locks = locks; jobs = jobs }) (Ok Done)
      (Ok (rollback_change (memory_of s) job timestamp))) told
      (journaled-answers s (record s { members = members; locks = locks; jobs = jobs }) (undo_entries (author_of (memory_of s) job timestamp) (job_of job (memory_of s)).cycle) false
      (rolled_back job (memory_of s)) is refl refl)

  pub finish-answers : locks ≡ boundary_locks EndJob job (memory_of s) → jobs ≡ job_changed (job - 1) ended_job s.jobs
      → Answers s (record s {
        members = members;
        entries = s.entries ++ drafts_deposited (memory_of s) (drafts ++ option_to_list (definition_end (job_of job (memory_of s)).name timestamp (job_of job (memory_of s)).level));
        locks = locks;
        jobs = jobs;
      }) (Ok Done) (Ok (end_change (memory_of s) job timestamp))
  finish-answers freed changed =
      let told = undo_entries-is s.files s.members (job_of job (memory_of s)).name timestamp (job_of job (memory_of s)).cycle back in
      let ended = definition_entries-is (job_of job (memory_of s)).name timestamp (job_of job (memory_of s)).level in
      let is : memory_of (record s { members = members; locks = locks; jobs = jobs }) ≡ job_ended job (memory_of s) =
      rw (freed, changed) (ap (λ (x : Memory). with_job job ended_job (with_locks (boundary_locks EndJob job (memory_of s)) x))
      (sym (cycle_back-is s.files (memory_of s) (job_of job (memory_of s)).cycle back))) in
      subst (λ (ds : List Draft). Answers s (record s { members = members; entries = s.entries ++ drafts_deposited (memory_of s) ds; locks = locks; jobs = jobs }) (Ok Done)
      (Ok (end_change (memory_of s) job timestamp))) (λ i. told i ++ ended i)
      (journaled-answers s (record s { members = members; locks = locks; jobs = jobs })
      (undo_entries (author_of (memory_of s) job timestamp) (job_of job (memory_of s)).cycle ++ definition_entries (author_of (memory_of s) job timestamp) (job_of job (memory_of s)).level) true
      (job_ended job (memory_of s)) is refl refl)
