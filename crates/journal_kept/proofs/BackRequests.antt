-- ROLLBACK and ENDJOB: each change of an open commit cycle is taken back, the last one first, and the journal tells of each.
use Rattle.std.proofs.Common.{◌≡◌, ◌≢◌, ℕ, ◌+◌, ◌-◌, ◌==◌, Bool, true, false, cond, filter, List, [], ◌∷◌, ◌++◌, Option, Some, None, unwrap_or, Ok, refl, sym, ap, ◌∙◌, subst, arith, inl, inr}
use Rattle.std.specs.List.{AllByRecursion}
use Rattle.std.specs.Option.{is_some}
use Rattle.std.proofs.lemmas.Bool.{cases_eq, eq-eqb}
use Rattle.commit_level.specs.declared.Level.{Level}
use Rattle.entry_codec.specs.declared.entries.Draft.{Draft}
use Rattle.lock_table.specs.declared.lock.Lock.{Lock}
use Rattle.lock_table.specs.declared.levels.Call.TheVariants as calls
use Rattle.member_slots.specs.declared.slot.Slot.{Slot}
use Rattle.member_slots.specs.Member.{MemberState, changed, empty_member}
use Rattle.member_slots.specs.Members.{NumberedMembers, member_at, member_of}
use Rattle.journal_model.specs.Acts.{cycle_of, is_number}
use Rattle.journal_model.specs.AtSequence.{IsSo}
use Rattle.journal_model.specs.Places.{slot_of}
use Rattle.journal_model.specs.Replay.{before_of, is_in}
use Rattle.entry_codec.specs.declared.kinds.EntryKind.TheVariants.{CommitCycleRolledBack}
use Rattle.journal_model.specs.Rollback.{MemberChange, change_drafts, cycle_draft, undo_drafts, undo_kinds}
use Rattle.library_model.specs.Named.{Named}
use Rattle.library_model.specs.declared.replies.Reply.{Reply}
use Rattle.library_model.specs.declared.replies.Reply.TheVariants.{Done, NoDefinition}
use Rattle.library_steps.specs.State.{State, Memory, FileState, CycleState, JobState, job_of, memory_of, with_job, with_opens}
use Rattle.library_steps.specs.Change.{Change, journaled}
use Rattle.library_steps.specs.Refusals.{found}
use Rattle.library_steps.specs.Uses.{changes_in}
use Rattle.library_steps.specs.Drafts.{Author, author_of}
use Rattle.library_steps.specs.Locking.{with_locks}
use Rattle.library_steps.specs.Commitment.{boundary_locks, changes_of, rollback, rollback_change, rolled_back_open, taken_back, undo_entries, without_cycle}
use Rattle.library_steps.specs.EndJob.{definition_entries, end_change, end_drafts, end_job, ended_job}
use Rattle.lawful_states.specs.Back.{member_back, members_back}
use Rattle.lawful_states.specs.Lawful.{CycleGoesBack, FitsPlace, GoesBack}
use Rattle.lawful_states.proofs.BoundaryLemmas.{cycle_back-is, cycle-places, places-back}
use Rattle.lawful_states.proofs.MemberLemmas.{item_at-with_item_other, member_of-with}
use Rattle.range_histories.specs.Agreed.{Agrees, StaysJournaled, is_journaled}
use Rattle.range_histories.specs.Cycles.{StandAsMade}
use Rattle.range_histories.specs.Sound.{IsSound, after}
use Rattle.journal_kept.proofs.KnownLemmas.{quiet-nothing, quiet-rolled_back}
use Rattle.journal_kept.proofs.DraftLemmas.{IsSilent, SlotLeads, all-append, change_drafts-lead, change_drafts-of, of-others, slots-append, slots-silent}
use Rattle.journal_kept.proofs.StepLemmas.{IsFollowed, given-followed, kept-journaled, known_of, stays-followed}
use Rattle.journal_kept.proofs.PutLemmas.{slot_of-changed}
use Rattle.journal_kept.proofs.JobLemmas.{AreChangesJournaled, IsOpenJournaled, all-job_changed, job-of, job-opens, none-open}
use Rattle.journal_kept.proofs.JobRequests.{does-each}
use Rattle.journal_kept.proofs.SlotRequests.{all-indexed}

-- ---- the changes one after the other

-- the drafts lead from a slot of the members to that of the members with the changes taken back
module _ (job : Option (List ℕ)) (moment member place : ℕ) where
  undone-slot : (members : NumberedMembers) (undo : MemberChange) → FitsPlace members undo → undo.member ≡ member
      → cond (undo.change.place + 1 - 1 == place) (before_of undo.change) (slot_of (member_of member members).slots place) ≡ slot_of (member_of member (member_back undo members)).slots place
  undone-slot members undo fits own =
      let old = member_of undo.member members in
      subst (λ (n : ℕ). cond (undo.change.place + 1 - 1 == place) (before_of undo.change) (slot_of (member_of n members).slots place) ≡ slot_of
      (member_of n (member_back undo members)).slots place) own
      (slot_of-changed old (undo.change.place + 1) place (before_of undo.change) (omega arith) (let there = fits.place in omega (arith, there))
      ∙ ap (λ (m : MemberState). slot_of m.slots place) (sym (member_of-with undo.member (changed old (undo.change.place + 1) (before_of undo.change)) members fits.there)))

  one-back : (members : NumberedMembers) (undo : MemberChange) (known : Option Slot) → FitsPlace members undo → slot_of (member_of undo.member members).slots undo.change.place ≡ undo.change.after
      → IsSo known (slot_of (member_of member members).slots place)
      → SlotLeads member place known (change_drafts job moment undo (undo_kinds (before_of undo.change) undo.change.after)) (slot_of (member_of member (member_back undo members)).slots place)
  one-back members undo known fits stands so = elim (cases_eq undo.member member) [
    | inl own ↦ subst (λ (x : Slot). SlotLeads member place known (change_drafts job moment undo (undo_kinds (before_of undo.change) undo.change.after)) x) (undone-slot members undo fits own)
        (change_drafts-lead member place known (slot_of (member_of member members).slots place) so job moment undo own (λ e.
        let at : undo.change.place ≡ place = omega (arith, e) in
        sym stands ∙ (λ i. slot_of (member_of (own i) members).slots (at i))))
    | inr differs ↦
        let same : member_of member (member_back undo members) ≡ member_of member members =
        ap (λ (o : Option MemberState). unwrap_or o (empty_member 0))
        (item_at-with_item_other member undo.member (changed (member_of undo.member members) (undo.change.place + 1) (before_of undo.change)) members (λ e. differs (sym e))) in
        slots-silent member place known (slot_of (member_of member (member_back undo members)).slots place) _
        (subst (λ (m : MemberState). IsSo known (slot_of m.slots place)) (sym same) so)
        (of-others undo.member member _ (λ e. differs (sym e)) (change_drafts-of job moment undo (undo_kinds (before_of undo.change) undo.change.after)))
  ]

  all-back : (undos : List MemberChange) (members : NumberedMembers) (known : Option Slot) → AllByRecursion (FitsPlace members) undos → StandAsMade undos members
      → IsSo known (slot_of (member_of member members).slots place)
      → SlotLeads member place known (undo_drafts job moment undos) (slot_of (member_of member (members_back undos members)).slots place)
  all-back [] members known fits stand so = slots-silent member place known (slot_of (member_of member members).slots place) [] so tt
  all-back (undo ∷ undos) members known fits stand so =
      slots-append member place known (slot_of (member_of member (member_back undo members)).slots place) (slot_of (member_of member (members_back undos (member_back undo members))).slots place)
      (change_drafts job moment undo (undo_kinds (before_of undo.change) undo.change.after)) (undo_drafts job moment undos)
      (one-back members undo known fits.0 stand.0 so)
      (λ next now. all-back undos (member_back undo members) next (places-back members undo undos fits.1) stand.1 now)

  -- a member that none of them is of
  away-back : (undos : List MemberChange) → AllByRecursion (λ (undo : MemberChange). undo.member ≢ member) undos → AllByRecursion (IsSilent member) (undo_drafts job moment undos)
  away-back [] differ = tt
  away-back (undo ∷ undos) differ =
      all-append (IsSilent member) (change_drafts job moment undo (undo_kinds (before_of undo.change) undo.change.after)) (undo_drafts job moment undos)
      (of-others undo.member member _ (λ e. differ.0 (sym e)) (change_drafts-of job moment undo (undo_kinds (before_of undo.change) undo.change.after))) (away-back undos differ.1)

-- the changes of one commit cycle are all of it
filter-own : (files : Named FileState) (members : NumberedMembers) (n : ℕ) (undos : List MemberChange) → AllByRecursion (GoesBack files members n) undos
    → filter (λ (c : MemberChange). is_in n c.change) undos ≡ undos
filter-own files members n [] back = refl
filter-own files members n (undo ∷ undos) back =
    let own : is_in n undo.change ≡ true = ap (λ (o : Option ℕ). is_number o n) back.0.cycle ∙ eq-eqb n n refl in
    ap (λ (b : Bool). cond b (undo ∷ filter (λ (c : MemberChange). is_in n c.change) undos) (filter (λ (c : MemberChange). is_in n c.change) undos)) own
    ∙ ap (λ (rest : List MemberChange). undo ∷ rest) (filter-own files members n undos back.1)

away-members : (member : ℕ) (undos : List MemberChange) (members : NumberedMembers) → AllByRecursion (λ (undo : MemberChange). undo.member ≢ member) undos
    → member_at member (members_back undos members) ≡ member_at member members
away-members member [] members differ = refl
away-members member (undo ∷ undos) members differ =
    away-members member undos (member_back undo members) differ.1
    ∙ item_at-with_item_other member undo.member (changed (member_of undo.member members) (undo.change.place + 1) (before_of undo.change)) members (λ e. differ.0 (sym e))

-- where a test of the member fails that each change passes, none is of it
none-of : (P : MemberChange → Type 0) (member : ℕ) (undos : List MemberChange) → AllByRecursion P undos → ((undo : MemberChange) → P undo → undo.member ≢ member)
    → AllByRecursion (λ (undo : MemberChange). undo.member ≢ member) undos
none-of P member [] all differ = tt
none-of P member (undo ∷ undos) all differ = (differ undo all.0, none-of P member undos all.1 differ)

-- ---- the drafts of a boundary

module _ (s : State) (sound : IsSound s) (job : ℕ) where
  -- the changes of the job's open commit cycle may be taken back, stand as they were made, and are of journaled members
  back : CycleGoesBack s.files s.members (job_of job (memory_of s)).cycle
  back = job-of (λ (j : JobState). CycleGoesBack s.files s.members j.cycle) s job sound.library.changes tt

  fits : AllByRecursion (FitsPlace s.members) (changes_in (job_of job (memory_of s)).cycle)
  fits = cycle-places s.files s.members (job_of job (memory_of s)).cycle back

  made : StandAsMade (changes_in (job_of job (memory_of s)).cycle) s.members
  made = job-of (λ (j : JobState). StandAsMade (changes_in j.cycle) s.members) s job
      (all-indexed (λ (j : JobState). StandAsMade (changes_in j.cycle) s.members) s.jobs (λ place j at. (sound.joint.jobs place j at).made)) tt

  on : AreChangesJournaled s.files (changes_in (job_of job (memory_of s)).cycle)
  on = (job-of (StaysJournaled s.files) s job sound.agreed.committed (none-open s.files)).changes

  entries-lead : (author : Author) (cycle : Option CycleState) → CycleGoesBack s.files s.members cycle → StandAsMade (changes_in cycle) s.members → (member place : ℕ) (known : Option Slot)
      → IsSo known (slot_of (member_of member s.members).slots place)
      → SlotLeads member place known (undo_entries author cycle) (slot_of (member_of member (members_back (changes_in cycle) s.members)).slots place)
  entries-lead author None goes stands member place known so = slots-silent member place known (slot_of (member_of member s.members).slots place) [] so tt
  entries-lead author (Some cycle) goes stands member place known so =
      let ending = cycle_draft (Some author.job) author.moment cycle.sequence CommitCycleRolledBack ∷ [] in
      subst (λ (undos : List MemberChange). SlotLeads member place known (undo_drafts (Some author.job) author.moment undos ++ ending)
      (slot_of (member_of member (members_back cycle.undos s.members)).slots place))
      (sym (filter-own s.files s.members cycle.sequence cycle.undos goes))
      (slots-append member place known (slot_of (member_of member (members_back cycle.undos s.members)).slots place) _ (undo_drafts (Some author.job) author.moment cycle.undos) ending
      (all-back (Some author.job) author.moment member place cycle.undos s.members known (cycle-places s.files s.members (Some cycle) goes) stands so)
      (λ next now. slots-silent member place next _ ending now (inr (λ prior e. quiet-rolled_back (cycle_of e.group)), tt)))

  entries-quiet : (author : Author) (cycle : Option CycleState) → CycleGoesBack s.files s.members cycle → (member : ℕ)
      → AllByRecursion (λ (undo : MemberChange). undo.member ≢ member) (changes_in cycle)
      → AllByRecursion (IsSilent member) (undo_entries author cycle)
  entries-quiet author None goes member differ = tt
  entries-quiet author (Some cycle) goes member differ =
      let ending = cycle_draft (Some author.job) author.moment cycle.sequence CommitCycleRolledBack ∷ [] in
      subst (λ (undos : List MemberChange). AllByRecursion (IsSilent member) (undo_drafts (Some author.job) author.moment undos ++ ending))
      (sym (filter-own s.files s.members cycle.sequence cycle.undos goes))
      (all-append (IsSilent member) (undo_drafts (Some author.job) author.moment cycle.undos) ending (away-back (Some author.job) author.moment member 0 cycle.undos differ)
      (inr (λ prior e. quiet-rolled_back (cycle_of e.group)), tt))

  -- ---- the journal after them

  back-followed : (drafts : List Draft)
      → ((member place : ℕ) (known : Option Slot) → IsSo known (slot_of (member_of member s.members).slots place)
      → SlotLeads member place known drafts (slot_of (member_of member (members_back (changes_in (job_of job (memory_of s)).cycle) s.members)).slots place))
      → ((member : ℕ) → AllByRecursion (λ (undo : MemberChange). undo.member ≢ member) (changes_in (job_of job (memory_of s)).cycle) → AllByRecursion (IsSilent member) drafts)
      → (member place : ℕ) → IsFollowed s drafts (members_back (changes_in (job_of job (memory_of s)).cycle) s.members) s.files member place
  back-followed drafts leads quiet member place = by (is_some (member_at member s.members)) refl (is_journaled member s.files) refl where
    away : AllByRecursion (λ (undo : MemberChange). undo.member ≢ member) (changes_in (job_of job (memory_of s)).cycle)
        → IsFollowed s drafts (members_back (changes_in (job_of job (memory_of s)).cycle) s.members) s.files member place
    away differ =
        stays-followed s drafts (members_back (changes_in (job_of job (memory_of s)).cycle) s.members) s.files member place sound.agreed (quiet member differ)
        (λ at. sym (away-members member (changes_in (job_of job (memory_of s)).cycle) s.members differ)) (λ at off. off)

    by : (there : Bool) → is_some (member_at member s.members) ≡ there → (journals : Bool) → is_journaled member s.files ≡ journals
        → IsFollowed s drafts (members_back (changes_in (job_of job (memory_of s)).cycle) s.members) s.files member place
    by false lacks journals j =
        away (none-of (FitsPlace s.members) member _ fits (λ undo f e.
        let there : is_some (member_at member s.members) ≡ true = subst (λ (n : ℕ). is_some (member_at n s.members) ≡ true) e f.there in
        absurd cc))
    by true there false off =
        away (none-of (λ (undo : MemberChange). is_journaled undo.member s.files ≡ true) member _ on (λ undo f e.
        let own : is_journaled member s.files ≡ true = subst (λ (n : ℕ). is_journaled n s.files ≡ true) e f in
        absurd cc))
    by true there true own =
        given-followed s drafts (members_back (changes_in (job_of job (memory_of s)).cycle) s.members) s.files member place _
        (leads member place (known_of s member place) (sound.agreed.told member place there).so) refl own

  taken : taken_back (changes_of (job_of job (memory_of s)).cycle) (memory_of s) ≡ record (memory_of s) { members = members_back (changes_in (job_of job (memory_of s)).cycle) s.members }
  taken = cycle_back-is s.files (memory_of s) (job_of job (memory_of s)).cycle back

  back-kept : (drafts : List Draft) (forced : Bool) (reply : Reply) (locks : List Lock) (change : JobState → JobState)
      → ((member place : ℕ) (known : Option Slot) → IsSo known (slot_of (member_of member s.members).slots place)
      → SlotLeads member place known drafts (slot_of (member_of member (members_back (changes_in (job_of job (memory_of s)).cycle) s.members)).slots place))
      → ((member : ℕ) → AllByRecursion (λ (undo : MemberChange). undo.member ≢ member) (changes_in (job_of job (memory_of s)).cycle) → AllByRecursion (IsSilent member) drafts)
      → ((j : JobState) → StaysJournaled s.files j → StaysJournaled s.files (change j))
      → Agrees (after s (journaled drafts forced reply (with_job job change (with_locks locks (taken_back (changes_of (job_of job (memory_of s)).cycle) (memory_of s))))))
  back-kept drafts forced reply locks change leads quiet each =
      subst (λ (m : Memory). Agrees (after s (journaled drafts forced reply (with_job job change (with_locks locks m))))) (sym taken)
      (kept-journaled s drafts forced reply (with_job job change
      (with_locks locks (record (memory_of s) { members = members_back (changes_in (job_of job (memory_of s)).cycle) s.members }))) sound.agreed refl
      (back-followed drafts leads quiet) (all-job_changed (StaysJournaled s.files) _ change s.jobs each sound.agreed.committed))

  at_rollback : (j : JobState) → StaysJournaled s.files j → StaysJournaled s.files (with_opens rolled_back_open (without_cycle j))
  at_rollback j are =
      job-opens s.files rolled_back_open
      (λ opened holds. elim opened.commit as (λ b. IsOpenJournaled s.files
      (cond b (record opened { position = opened.boundary; current = None; last_read = None }) (record opened { current = None; last_read = None }))) [
        | true ↦ holds
        | false ↦ holds
      ])
      (without_cycle j) (record { opens = are.opens; changes = tt })

  pub rollback-kept : (timestamp : ℕ) (done : Change) → rollback (memory_of s) job timestamp ≡ Ok done → Agrees (after s done)
  rollback-kept timestamp done h =
      does-each (λ level. rollback_change (memory_of s) job timestamp) (found (job_of job (memory_of s)).level NoDefinition) done (λ c. Agrees (after s c)) h
      (λ level is. back-kept (undo_entries (author_of (memory_of s) job timestamp) (job_of job (memory_of s)).cycle) false Done (boundary_locks calls.Rollback job (memory_of s))
      (λ j. with_opens rolled_back_open (without_cycle j))
      (entries-lead (author_of (memory_of s) job timestamp) (job_of job (memory_of s)).cycle back made)
      (entries-quiet (author_of (memory_of s) job timestamp) (job_of job (memory_of s)).cycle back) at_rollback)

  definition-quiet : (author : Author) (level : Option Level) (member : ℕ) → AllByRecursion (IsSilent member) (definition_entries author level)
  definition-quiet author None member = tt
  definition-quiet author (Some level) member = (inr (λ prior e. quiet-nothing), tt)

  pub end_job-kept : (timestamp : ℕ) (done : Change) → end_job (memory_of s) job timestamp ≡ Ok done → Agrees (after s done)
  end_job-kept timestamp done h =
      let author = author_of (memory_of s) job timestamp in
      let j = job_of job (memory_of s) in
      let e : end_change (memory_of s) job timestamp ≡ done = cc in
      subst (λ (c : Change). Agrees (after s c)) e
      (back-kept (end_drafts author j) true Done (boundary_locks calls.EndJob job (memory_of s)) ended_job
      (λ member place known so. slots-append member place known _ _ (undo_entries author j.cycle) (definition_entries author j.level) (entries-lead author j.cycle back made member place known so)
      (λ next now. slots-silent member place next _ (definition_entries author j.level) now (definition-quiet author j.level member)))
      (λ member differ. all-append (IsSilent member) (undo_entries author j.cycle) (definition_entries author j.level) (entries-quiet author j.cycle back member differ)
      (definition-quiet author j.level member))
      (λ k are. record { opens = tt; changes = tt }))
