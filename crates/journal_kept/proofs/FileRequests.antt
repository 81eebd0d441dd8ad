-- CRTPF, CRTLF, ADDPFM and DLTF: members that are new, of which the journal tells nothing yet, and members that go.
use Rattle.std.proofs.Common.{◌≡◌, ◌≢◌, ℕ, ◌+◌, ◌<◌, ◌==◌, ◌||◌, Bool, true, false, cond, List, [], ◌∷◌, ◌++◌, Option, Some, None, IfSome, Ok, refl, sym, ap, ◌∙◌, subst, arith, inl, inr}
use Rattle.std.specs.List.{AllByRecursion, IsDistinct, list_any}
use Rattle.std.specs.Option.{is_some}
use Rattle.std.specs.Map.{keys_of}
use Rattle.std.proofs.lemmas.Bool.{cases_eq, eq-eqb, ne_eqb, or_parts}
use Rattle.std.proofs.lemmas.Bool.Decides.{nat_tests}
use Rattle.entry_codec.specs.declared.entries.Entry.{Entry}
use Rattle.entry_codec.specs.declared.entries.Draft.{Draft}
use Rattle.entry_codec.specs.declared.kinds.FileKind.TheVariants.{Logical, Physical}
use Rattle.entry_codec.specs.declared.kinds.EntryKind.TheVariants.{FileCreated, FileDeleted, MemberAdded}
use Rattle.member_slots.specs.Member.{MemberState, empty_member}
use Rattle.member_slots.specs.Members.{Numbered, NumberedMembers, item_at, member_at, put_member, without_item, without_member}
use Rattle.record_fmt.specs.Layout.{record_length}
use Rattle.journal_model.specs.Acts.{acts, is_number}
use Rattle.journal_model.specs.Rollback.{MemberChange}
use Rattle.library_model.specs.Named.{Named, named, same_name}
use Rattle.library_model.specs.declared.replies.Reply.TheVariants.{Dependents, Done}
use Rattle.library_model.specs.declared.requests.CreateLogicalFile.{CreateLogicalFile}
use Rattle.library_model.specs.declared.requests.CreatePhysicalFile.{CreatePhysicalFile}
use Rattle.library_model.specs.declared.requests.DeleteFile.{DeleteFile}
use Rattle.library_model.specs.declared.requests.FileMember.{FileMember}
use Rattle.library_model.specs.declared.sources.NamedSource.{NamedSource}
use Rattle.lawful_states.specs.Owners.{has_number}
use Rattle.lawful_states.proofs.NameLemmas.{same_name-equal}
use Rattle.lawful_states.proofs.StatusLemmas.{has_number-cons}
use Rattle.lock_table.specs.declared.lock.Lock.{Lock}
use Rattle.library_steps.specs.State.{State, Memory, FileState, MemberStatus, OpenState, JobState, fields_of, file_named, memory_of}
use Rattle.library_steps.specs.Change.{Change, journaled}
use Rattle.library_steps.specs.Refusals.{named_or_refused, refuse_with, sequences_left}
use Rattle.library_steps.specs.Uses.{changes_in, has_boundary_lock, has_changed, has_open_over, unused, user_of_any, uses}
use Rattle.library_steps.specs.Drafts.{author_of, library_draft, member_draft}
use Rattle.library_steps.specs.CreateLogicalFile.{create_logical_change, create_logical_file, create_logical_plan, logical_file, with_logical}
use Rattle.library_steps.specs.CreatePhysicalFile.{create_change, create_physical_file, create_plan, new_file}
use Rattle.library_steps.specs.MemberCommands.{add_member, add_plan, file_changed, with_member_name}
use Rattle.library_steps.specs.DeleteFile.{delete_change, delete_file, delete_plan, deleted, first_dependent, user_by, without_file, without_members}
use Rattle.lawful_states.proofs.MemberLemmas.{IsThere-is_some, item_at-put_item_other, item_at-without_item_other}
use Rattle.range_histories.specs.Agreed.{Agrees, AreAllJournaled, StaysJournaled, is_journaled}
use Rattle.range_histories.specs.Sound.{IsSound, after}
use Rattle.range_histories.proofs.OpenLemmas.{unused-members}
use Rattle.range_histories.proofs.ResultLemmas.{bind-ok, found-ok, unused-ok}
use Rattle.journal_kept.proofs.KnownLemmas.{IsQuiet, leads-quiet, quiet-nothing}
use Rattle.journal_kept.proofs.DraftLemmas.{DraftsLead, IsSilent, act-elsewhere, drafts-silent}
use Rattle.journal_kept.proofs.StatusLemmas.{journaled-added, journaled-member_added, journaled-memberless, journaled-owned, journaled-without}
use Rattle.journal_kept.proofs.StepLemmas.{IsFollowed, broken-followed, kept-journaled, known_of, stays-followed, wider-jobs}
use Rattle.journal_kept.proofs.JobLemmas.{AreChangesJournaled, AreOpensJournaled}
use Rattle.journal_kept.proofs.JobRequests.{does-each}
use Rattle.journal_kept.proofs.MemberRequests.{no-first}

-- ---- a member that isn't made yet

below-other : (o : Option ℕ) (next : ℕ) → IfSome o (λ number. number < next) → is_number o next ≡ false
below-other None next below = refl
below-other (Some number) next below = ne_eqb number next (λ e. absurd (omega (arith, e, below)))

fresh-acts : (next : ℕ) (prior : Option Entry) (entries : List Entry) → AllByRecursion (λ (e : Entry). IfSome e.member (λ number. number < next)) entries
    → AllByRecursion IsQuiet (acts next prior entries)
fresh-acts next prior [] below = tt
fresh-acts next prior (e ∷ entries) below = (act-elsewhere next prior e (below-other e.member next below.0), fresh-acts next (Some e) entries below.1)

there-below : (next n : ℕ) (members : NumberedMembers) → AllByRecursion (λ (entry : Numbered MemberState). entry.number < next) members → is_some (member_at n members) ≡ true → n < next
there-below next n [] all h = absurd cc
there-below next n (entry ∷ members) all h = elim (cases_eq entry.number n) [
  | inl same ↦ let first = all.0 in omega (arith, same, first)
  | inr differs ↦ there-below next n members all.1 (subst (λ (b : Bool). is_some (cond b (Some entry.item) (item_at n members)) ≡ true) (ne_eqb entry.number n differs) h)
]

module _ (s : State) (sound : IsSound s) (job timestamp : ℕ) where
  journaled-below : (n : ℕ) → is_journaled n s.files ≡ true → n < s.next_member
  journaled-below n on =
      let it = journaled-owned n s.files sound.names on in
      there-below s.next_member n s.members sound.library.numbers (IsThere-is_some (fields_of it.1) (member_at n s.members) (sound.library.members it.0 it.1 n it.2))

  -- one member more, which has the next number
  new-kept : (drafts : List Draft) → ((member : ℕ) → AllByRecursion (IsSilent member) drafts) → (files : Named FileState) (fresh : MemberState)
      → ((n : ℕ) → n ≢ s.next_member → is_journaled n files ≡ is_journaled n s.files)
      → Agrees (after s (journaled drafts true Done (record (memory_of s) { files = files; members = put_member s.next_member fresh s.members; next_member = s.next_member + 1 })))
  new-kept drafts quiet files fresh same =
      let members = put_member s.next_member fresh s.members in
      kept-journaled s drafts true Done (record (memory_of s) { files = files; members = members; next_member = s.next_member + 1 }) sound.agreed refl
      (λ member place. elim (cases_eq member s.next_member) [
        | inl own ↦ subst (λ (n : ℕ). IsFollowed s drafts members files n place) (sym own)
            (broken-followed s drafts members files s.next_member place
            (subst (DraftsLead s.next_member place (known_of s s.next_member place) drafts)
            (leads-quiet place None (acts s.next_member None s.entries) (fresh-acts s.next_member None s.entries sound.joint.told.members)).after
            (drafts-silent s.next_member place (known_of s s.next_member place) drafts (quiet s.next_member))))
        | inr differs ↦ stays-followed s drafts members files member place sound.agreed (quiet member)
            (λ at. sym (item_at-put_item_other member s.next_member fresh s.members differs))
            (λ at off. sym (same member differs) ∙ off)
      ])
      (wider-jobs s.files files s.jobs (λ n on. same n (λ e. let below = journaled-below n on in absurd (omega (arith, e, below))) ∙ on) sound.agreed.committed)

  pub create_physical_file-kept : (sources : List NamedSource) (args : CreatePhysicalFile) (done : Change) → create_physical_file sources (memory_of s) job timestamp args ≡ Ok done
      → Agrees (after s done)
  create_physical_file-kept sources args done h =
      does-each (create_change (memory_of s) job timestamp args) (create_plan sources (memory_of s) args) done (λ c. Agrees (after s c)) h
      (λ plan is.
      let file = new_file args.file s.next_member plan in
      new-kept (member_draft (author_of (memory_of s) job timestamp) s.next_member (FileCreated Physical args.file plan.source) ∷ []) (λ member. (inr (λ prior e. quiet-nothing), tt))
      (s.files ++ (args.file, file) ∷ []) (empty_member (record_length (fields_of file)))
      (λ n differs. journaled-added n s.next_member args.file args.file file s.files refl))

  -- a file more, without members
  pub create_logical_file-kept : (sources : List NamedSource) (args : CreateLogicalFile) (done : Change) → create_logical_file sources (memory_of s) job timestamp args ≡ Ok done
      → Agrees (after s done)
  create_logical_file-kept sources args done h =
      does-each (create_logical_change (memory_of s) job timestamp args) (create_logical_plan sources (memory_of s) args) done (λ c. Agrees (after s c)) h
      (λ plan is.
      let drafts = library_draft (author_of (memory_of s) job timestamp) (FileCreated Logical args.file plan.source) ∷ [] in
      let files = s.files ++ (args.file, logical_file plan) ∷ [] in
      let same = λ (n : ℕ). journaled-memberless n args.file (logical_file plan) s.files refl in
      kept-journaled s drafts true Done (with_logical args.file plan (memory_of s)) sound.agreed refl
      (λ member place. stays-followed s drafts s.members files member place sound.agreed (inr (λ prior e. quiet-nothing), tt) (λ at. refl) (λ at off. sym (same member) ∙ off))
      (wider-jobs s.files files s.jobs (λ n on. same n ∙ on) sound.agreed.committed))

  pub add_member-kept : (args : FileMember) (done : Change) → add_member (memory_of s) job timestamp args ≡ Ok done → Agrees (after s done)
  add_member-kept args done h =
      does-each _ (add_plan (memory_of s) args) done (λ c. Agrees (after s c)) h
      (λ file is.
      new-kept (member_draft (author_of (memory_of s) job timestamp) s.next_member (MemberAdded args.file args.member) ∷ []) (λ member. (inr (λ prior e. quiet-nothing), tt))
      (file_changed args.file (with_member_name args.member s.next_member) s.files) (empty_member (record_length (fields_of file)))
      (λ n differs. journaled-member_added n s.next_member args.file args.member s.files differs))

-- ---- members that go

at-without : {A : Type 0} (n : ℕ) (xs : List (Numbered A)) → item_at n (without_item n xs) ≡ None
at-without n [] = refl
at-without n (entry ∷ entries) = grind (arith, nat_tests, at-without n entries)

without-there : (n : ℕ) (statuses : Named MemberStatus) (members : NumberedMembers) → is_some (member_at n (without_members statuses members)) ≡ true
    → (has_number n statuses ≡ false) × (member_at n (without_members statuses members) ≡ member_at n members)
without-there n [] members h = (refl, refl)
without-there n (entry ∷ statuses) members h =
    let rest = without-there n statuses (without_member entry.1.number members) h in
    elim (cases_eq entry.1.number n) [
      | inl same ↦ (
          let gone : member_at n (without_member entry.1.number members) ≡ None = ap (λ (k : ℕ). member_at n (without_member k members)) same ∙ at-without n members in
          let none : is_some (member_at n (without_members statuses (without_member entry.1.number members))) ≡ false = ap is_some (rest.1 ∙ gone) in
          absurd cc)
      | inr differs ↦ (
        has_number-cons n entry statuses ∙ (λ i. ne_eqb entry.1.number n differs i || rest.0 i),
        rest.1 ∙ item_at-without_item_other n entry.1.number members (λ e. differs (sym e)),
      )
    ]

lacks : (n : ℕ) (name : List ℕ) (file : FileState) (files : Named FileState) → IsDistinct same_name (keys_of files) → named name files ≡ Some file → has_number n file.members ≡ false
    → AllByRecursion (λ (entry : List ℕ × FileState). same_name name entry.0 ≡ true → has_number n entry.1.members ≡ false) files
unfolding IsDistinct
lacks n name file [] distinct h none = absurd cc
lacks n name file (entry ∷ files) distinct h none = by (same_name name entry.0) refl h (λ g. lacks n name file files distinct.1 g none) where
  others : (files : Named FileState) → AllByRecursion (λ other. same_name entry.0 other ≡ false) (keys_of files) → name ≡ entry.0
      → AllByRecursion (λ (e : List ℕ × FileState). same_name name e.0 ≡ true → has_number n e.1.members ≡ false) files
  others [] differ same = tt
  others (e ∷ files) differ same = ((λ own. let f : same_name name e.0 ≡ false = ap (λ (k : List ℕ). same_name k e.0) same ∙ differ.0 in absurd cc), others files differ.1 same)

  by : (b : Bool) → same_name name entry.0 ≡ b → cond b (Some entry.1) (named name files) ≡ Some file
      → (named name files ≡ Some file → AllByRecursion (λ (e : List ℕ × FileState). same_name name e.0 ≡ true → has_number n e.1.members ≡ false) files)
      → AllByRecursion (λ (e : List ℕ × FileState). same_name name e.0 ≡ true → has_number n e.1.members ≡ false) (entry ∷ files)
  by true own g more =
      let same : entry.1 ≡ file = cc in
      ((λ e. ap (λ (f : FileState). has_number n f.members) same ∙ none), others files distinct.0 (same_name-equal name entry.0 own))
  by false own g more = ((λ e. absurd cc), more g)

-- the job uses none of these members
pub record LeavesAll (statuses : Named MemberStatus) (job : JobState) : Type 0 where
  pub opens : (n : ℕ) → has_number n statuses ≡ true → has_open_over n job ≡ false
  pub changes : (n : ℕ) → has_number n statuses ≡ true → has_changed n job ≡ false

no-use : (locks : List Lock) (number : ℕ) (job : JobState) (statuses : Named MemberStatus) → list_any (λ (entry : List ℕ × MemberStatus). uses entry.1.number locks number job) statuses ≡ false
    → (n : ℕ) → has_number n statuses ≡ true → uses n locks number job ≡ false
no-use locks number job [] none n has = absurd cc
no-use locks number job (entry ∷ statuses) none n has =
    let p = or_parts (uses entry.1.number locks number job) (list_any (λ (e : List ℕ × MemberStatus). uses e.1.number locks number job) statuses) none in
    elim (cases_eq entry.1.number n) [
      | inl same ↦ subst (λ (k : ℕ). uses k locks number job ≡ false) same p.0
      | inr differs ↦ no-use locks number job statuses p.1 n
          (ap (λ (b : Bool). b || has_number n statuses) (sym (ne_eqb entry.1.number n differs)) ∙ sym (has_number-cons n entry statuses) ∙ has)
    ]

leave-all : (statuses : Named MemberStatus) (m : Memory) → user_of_any statuses m ≡ None → AllByRecursion (LeavesAll statuses) m.jobs
leave-all statuses m free =
    no-first (λ number job. list_any (λ (entry : List ℕ × MemberStatus). uses entry.1.number m.locks number job) statuses) 1 m.jobs (LeavesAll statuses) (λ number job e. record {
      opens = λ n has. (or_parts (has_open_over n job) (has_changed n job)
          (or_parts (has_open_over n job || has_changed n job) (has_boundary_lock n number m.locks) (no-use m.locks number job statuses e n has)).0).0;
      changes = λ n has. (or_parts (has_open_over n job) (has_changed n job)
          (or_parts (has_open_over n job || has_changed n job) (has_boundary_lock n number m.locks) (no-use m.locks number job statuses e n has)).0).1;
    }) free

module _ (files later : Named FileState) (statuses : Named MemberStatus) (wider : (n : ℕ) → has_number n statuses ≡ false → is_journaled n files ≡ true → is_journaled n later ≡ true) where
  -- a number that is used is of none of them
  used : (n : ℕ) (rest : Bool) → (has_number n statuses ≡ true → ((n == n) || rest) ≡ false) → has_number n statuses ≡ false
  used n rest none = by (has_number n statuses) refl where
    by : (b : Bool) → has_number n statuses ≡ b → b ≡ false
    by false e = refl
    by true e = let p = or_parts (n == n) rest (none e) in let q : (n == n) ≡ true = eq-eqb n n refl in let r = p.0 in absurd cc

  members-left : (bases : List ℕ) → ((n : ℕ) → has_number n statuses ≡ true → list_any (λ base. base == n) bases ≡ false) → AreAllJournaled files bases → AreAllJournaled later bases
  members-left [] none each = tt
  members-left (base ∷ bases) none each = (
    wider base (used base (list_any (λ b. b == base) bases) (none base)) each.0,
    members-left bases (λ n has. (or_parts (base == n) (list_any (λ b. b == n) bases) (none n has)).1) each.1,
  )

  opens-left : (entries : Named OpenState)
      → ((n : ℕ) → has_number n statuses ≡ true → list_any (λ (entry : List ℕ × OpenState). list_any (λ base. base == n) entry.1.members) entries ≡ false) → AreOpensJournaled files entries
      → AreOpensJournaled later entries
  opens-left [] none each = tt
  opens-left (entry ∷ entries) none each = (
    (λ c. members-left entry.1.members
        (λ n has. (or_parts (list_any (λ base. base == n) entry.1.members) (list_any (λ (e : List ℕ × OpenState). list_any (λ base. base == n) e.1.members) entries) (none n has)).0) (each.0 c)),
    opens-left entries
        (λ n has. (or_parts (list_any (λ base. base == n) entry.1.members) (list_any (λ (e : List ℕ × OpenState). list_any (λ base. base == n) e.1.members) entries) (none n has)).1) each.1,
  )

  changes-left : (undos : List MemberChange) → ((n : ℕ) → has_number n statuses ≡ true → list_any (λ (undo : MemberChange). undo.member == n) undos ≡ false) → AreChangesJournaled files undos
      → AreChangesJournaled later undos
  changes-left [] none each = tt
  changes-left (undo ∷ undos) none each = (
    wider undo.member (used undo.member (list_any (λ (u : MemberChange). u.member == undo.member) undos) (none undo.member)) each.0,
    changes-left undos (λ n has. (or_parts (undo.member == n) (list_any (λ (u : MemberChange). u.member == n) undos) (none n has)).1) each.1,
  )

  jobs-left : (jobs : List JobState) → AllByRecursion (LeavesAll statuses) jobs → AllByRecursion (StaysJournaled files) jobs → AllByRecursion (StaysJournaled later) jobs
  jobs-left [] alone all = tt
  jobs-left (job ∷ jobs) alone all =
      (record { opens = opens-left job.opens alone.0.opens all.0.opens; changes = changes-left (changes_in job.cycle) alone.0.changes all.0.changes }, jobs-left jobs alone.1 all.1)

module _ (s : State) (sound : IsSound s) (job timestamp : ℕ) where
  -- the file that goes is the one of its name, and no job uses it
  pub record IsGoing (name : List ℕ) (file : FileState) : Type 0 where
    pub there : named name s.files ≡ Some file
    pub unused : user_of_any file.members (memory_of s) ≡ None

  delete_plan-ok : (args : DeleteFile) (file : FileState) → delete_plan (memory_of s) args ≡ Ok file → IsGoing args.file file
  unfolding delete_plan
  delete_plan-ok args file h =
      let m = memory_of s in
      let a = bind-ok (sequences_left m) _ file h in
      let b = bind-ok (named_or_refused args.file (file_named args.file m)) _ file a.2 in
      let c = bind-ok (refuse_with Dependents (first_dependent args.file m.files)) _ file b.2 in
      let d = bind-ok (unused (user_by b.0.spec args.file b.0 m)) _ file c.2 in
      let last = d.2 in
      let e : b.0 ≡ file = cc in
      let there : named args.file s.files ≡ Some b.0 = found-ok (named args.file s.files) _ b.0 b.1 in
      subst (IsGoing args.file) e (record { there = there; unused = unused-members s args.file b.0 sound.library there (unused-ok (user_by b.0.spec args.file b.0 m) d.0 d.1) })

  deleted-kept : (args : DeleteFile) (file : FileState) → IsGoing args.file file → Agrees (after s (delete_change (memory_of s) job timestamp args file))
  deleted-kept args file going =
      let later = without_file args.file s.files in
      let members = without_members file.members s.members in
      let same = λ (n : ℕ) (none : has_number n file.members ≡ false). journaled-without n args.file s.files (lacks n args.file file s.files sound.names going.there none) in
      let drafts = library_draft (author_of (memory_of s) job timestamp) (FileDeleted args.file) ∷ [] in
      kept-journaled s drafts true Done (deleted args file (memory_of s)) sound.agreed refl
      (λ member place. stays-followed s drafts members later member place sound.agreed (inr (λ prior e. quiet-nothing), tt)
      (λ at. sym (without-there member file.members s.members at).1)
      (λ at off. sym (same member (without-there member file.members s.members at).0) ∙ off))
      (jobs-left s.files later file.members (λ n none on. same n none ∙ on) s.jobs (leave-all file.members (memory_of s) going.unused) sound.agreed.committed)

  pub delete_file-kept : (args : DeleteFile) (done : Change) → delete_file (memory_of s) job timestamp args ≡ Ok done → Agrees (after s done)
  delete_file-kept args done h =
      does-each (delete_change (memory_of s) job timestamp args) (delete_plan (memory_of s) args) done (λ c. Agrees (after s c)) h
      (λ file is. deleted-kept args file (delete_plan-ok args file is))
