-- CRTPF: the library has a physical file more, with a member of its name.
use Rattle.std.proofs.Common.{◌≡◌, ℕ, ◌+◌, ◌<◌, ◌≤◌, ◌==◌, nat_le, nat_lt, ◌&&◌, Bool, true, false, cond, Option, Some, None, unwrap_or, Result, Ok, Err, List, [], ◌∷◌, ◌++◌, map, length, refl, sym, ap, ◌∙◌, subst, arith}
use Rattle.std.specs.List.{AllByRecursion, filter, find}
use Rattle.std.specs.Option.{is_some, option_and_then, option_map}
use Rattle.std.proofs.lemmas.Bool.{ltb-false}
use Rattle.std.proofs.lemmas.Bool.Decides.{nat_tests}
use Rattle.std.proofs.lemmas.List.{append-nil, map-append}
use Rattle.std.proofs.lemmas.List.Elements.{All-from_recursion}
use Rattle.entry_codec.specs.declared.entries.Entry.{Entry}
use Rattle.entry_codec.specs.declared.kinds.EntryKind.TheVariants.{FileCreated}
use Rattle.entry_codec.specs.declared.kinds.FileKind.TheVariants.{Physical}
use Rattle.entry_codec.specs.Drafts.{numbered}
use Rattle.dds_source.specs.declared.faults.DdsFault.{DdsFault}
use Rattle.dds_physical.specs.declared.physical_files.PhysicalSpec.{PhysicalSpec}
use Rattle.member_slots.specs.Member.{FitsSlot, MemberState, empty_member}
use Rattle.member_slots.specs.Members.{NumberedMembers, member_of, put_member}
use Rattle.record_fmt.specs.Layout.{record_length}
use Rattle.logical_model.specs.Bases.{PhysicalFile}
use Rattle.logical_laws.proofs.ListLemmas.{each-append, each-weaker}
use Rattle.lawful_states.proofs.NameLemmas.{same_name-self}
use Rattle.journal_model.specs.Acts.{Nothing, act}
use Rattle.journal_model.specs.Catalogue.{CatalogFile, MayCreate, is_named, member_numbered}
use Rattle.journal_model.specs.Pairs.{EndsPair}
use Rattle.journal_model.specs.Replayable.{MayFollow}
use Rattle.journal_model.specs.Rollback.{undos_by}
use Rattle.journal_replay.specs.Standing.{HeldMember, Standing, catalogue_in, member_by, new_member, standing_after, state_in}
use Rattle.library_model.specs.declared.limits.TheConstants.{LAST_MEMBER, MOST_FILES}
use Rattle.library_model.specs.declared.replies.LimitKind.TheVariants.{Files, MemberNumbers}
use Rattle.library_model.specs.declared.replies.Reply.TheVariants.{Done, LimitReached, NameExists}
use Rattle.library_model.specs.declared.requests.CreatePhysicalFile.{CreatePhysicalFile}
use Rattle.library_model.specs.declared.sources.NamedSource.{NamedSource}
use Rattle.library_model.specs.Named.{Named, named, same_name}
use Rattle.library_model.specs.SourceList.{text_of}
use Rattle.library_steps.specs.State.{FileState, MemberStatus, State, fields_of, file_named, memory_of, physical_in}
use Rattle.library_steps.specs.CreatePhysicalFile.{NewFile, create_change, create_physical_file, create_plan, described, formats_of, new_file, new_status, spec_or_refused, with_file}
use Rattle.library_steps.specs.Drafts.{Author, author_of, member_draft}
use Rattle.library_steps.specs.Refusals.{named_or_refused, refuse_if, sequences_left}
use Rattle.library_steps.specs.SlotChange.{status_among}
use Rattle.lawful_states.proofs.FileLemmas.{next-unowned}
use Rattle.joint_state.specs.Sound.{IsSound, after}
use Rattle.restart_laws.proofs.ResultLemmas.{bind-ok, does-each, not-refused, ok-equal}
use Rattle.named_bases.specs.Sources.{described_files, descriptions, fields_beside, format_named, if_physical, spec_beside, spec_named}
use Rattle.restart_laws.proofs.StableLemmas.{IsPlain, plain-more}
use Rattle.replayed_histories.specs.Shown.{ShowsMembers, held_shown, is_held_in, kind_in, memberless}
use Rattle.replayed_histories.specs.Replayed.{IsHeldWithin, IsReplayed, MemberStands, StandsAs}
use Rattle.replayed_histories.specs.Deposits.{MayBeDeposited}
use Rattle.replayed_histories.specs.Requests.{AreReplaysKeptBy}
use Rattle.replayed_histories.proofs.AddRequests.{among-none, first-number, last-new, last-other, put-last, shown-append}
use Rattle.replayed_histories.proofs.CreateRequests.{catalog-none, none-file, spec-same}
use Rattle.replayed_histories.proofs.DepositLemmas.{replays-kept}
use Rattle.replayed_histories.proofs.GrownLemmas.{described-then, fields-then, left-plain, none-held, plain-fields, shown-then, some-before, stands-before, within-then}
use Rattle.replayed_histories.proofs.HomeLemmas.{all-homed, both-each}
use Rattle.replayed_histories.proofs.ListLemmas.{all-append}
use Rattle.replayed_histories.proofs.QuietLemmas.{members-stay, no-records, standing-same}
use Rattle.replayed_histories.proofs.StandsLemmas.{cycles-later}

each-last : {X : Type 0} (P : X → Type 0) (xs : List X) (y : X) → AllByRecursion P (xs ++ y ∷ []) → P y
each-last P [] y all = all.0
each-last P (x ∷ xs) y all = each-last P xs y all.1

named-last : (name : List ℕ) (files : Named FileState) (file : FileState) → named name files ≡ None → named name (files ++ (name, file) ∷ []) ≡ Some file
named-last name [] file none = ap (λ (b : Bool). cond b (Some file) None) (same_name-self name)
named-last name (entry ∷ files) file none =
    elim (same_name name entry.0) as (λ b. cond b (Some entry.1) (named name files) ≡ None → cond b (Some entry.1) (named name (files ++ (name, file) ∷ [])) ≡ Some file) [
      | true ↦ λ h. absurd cc
      | false ↦ λ h. named-last name files file h
    ] none

-- ---- what the plan has found

pub record MayCreatePhysical (s : State) (name : List ℕ) (plan : NewFile) : Type 0 where
  pub unnamed : named name s.files ≡ None
  pub last : s.next_member ≤ LAST_MEMBER
  pub is_described : described (formats_of (memory_of s)) plan.source ≡ Ok plan.spec

physical-ok : (r : Result PhysicalSpec DdsFault) (spec : PhysicalSpec) → spec_or_refused r ≡ Ok spec → r ≡ Ok spec
physical-ok (Ok other) spec h = let same : other ≡ spec = ok-equal other spec h in ap (λ (x : PhysicalSpec). Ok x) same
physical-ok (Err fault) spec h = absurd cc

physical-found : (s : State) (sources : List NamedSource) (args : CreatePhysicalFile) (plan : NewFile) → create_plan sources (memory_of s) args ≡ Ok plan → MayCreatePhysical s args.file plan
unfolding create_plan
physical-found s sources args plan h =
    let m = memory_of s in
    let left = bind-ok (sequences_left m) _ plan h in
    let new = bind-ok (refuse_if (is_some (file_named args.file m)) (NameExists args.file)) _ plan left.2 in
    let few = bind-ok (refuse_if (nat_le MOST_FILES (length m.files)) (LimitReached Files MOST_FILES)) _ plan new.2 in
    let more = bind-ok (refuse_if (nat_lt LAST_MEMBER m.next_member) (LimitReached MemberNumbers LAST_MEMBER)) _ plan few.2 in
    let text = bind-ok (named_or_refused args.source (text_of sources args.source)) _ plan more.2 in
    let spec = bind-ok (spec_or_refused (described (formats_of m) text.0)) _ plan text.2 in
    subst (MayCreatePhysical s args.file) (ok-equal (record { source = text.0; spec = spec.0 }) plan spec.2) (record {
      unnamed = none-file (named args.file s.files) (not-refused (is_some (file_named args.file m)) _ new.0 new.1);
      last = ltb-false LAST_MEMBER s.next_member (not-refused (nat_lt LAST_MEMBER m.next_member) _ more.0 more.1);
      is_described = physical-ok (described (formats_of m) text.0) spec.0 spec.1;
    })

-- ---- the entry

module _ (author : Author) (number : ℕ) (name source : List ℕ) (left : Standing) where
  abbrev physical_entry : Entry
  physical_entry = numbered (member_draft author number (FileCreated Physical name source)) left.next

  abbrev physical_new : CatalogFile
  physical_new = record { created = left.next; kind = Physical; name = name; source = source }

  abbrev first_member : HeldMember
  first_member = new_member number name name

  abbrev physical_left : Standing
  physical_left = record left {
    next = left.next + 1;
    begun = None;
    files = left.files ++ physical_new ∷ [];
    members = left.members ++ first_member ∷ [];
    next_member = number + 1;
  }

  physical-after : standing_after physical_entry left ≡ physical_left
  physical-after =
      standing-same (left.next + 1) None None (left.files ++ physical_new ∷ []) (left.files ++ physical_new ∷ []) _ (left.members ++ first_member ∷ []) (number + 1) (number + 1)
      left.cycles left.cycles _ left.undos refl refl (ap (λ (ms : List HeldMember). ms ++ first_member ∷ []) (members-stay left.begun physical_entry left.members stays)) refl refl
      (elim (number == number) as (λ b. undos_by (cond b Nothing Nothing) number left.undos ≡ left.undos) [ true ↦ refl | false ↦ refl ])
    where
      stays : (m : HeldMember) → member_by (act m.number left.begun physical_entry) physical_entry.sequence m ≡ m
      stays m = elim (number == m.number) as (λ b. member_by (cond b Nothing Nothing) left.next m ≡ m) [ true ↦ refl | false ↦ refl ]

  first-within : IsHeldWithin physical_left first_member
  first-within = record { records = All-from_recursion (FitsSlot _) [] tt; slots = omega arith; bytes = omega arith }

  physical-may : left.begun ≡ None → MayCreate descriptions Physical name source physical_entry (catalogue_in left) → AllByRecursion (IsHeldWithin physical_left) left.members
      → nat_lt 0 number ≡ true → MayBeDeposited left physical_entry
  physical-may none enters within some = record {
    next = record {
      sequence = refl;
      enters = enters;
      replays = λ member. elim (number == member) as (λ b. MayFollow (state_in left member) (cond b Nothing Nothing)) [ true ↦ tt | false ↦ tt ];
      names = λ no. tt;
      deletes = λ gone is. absurd cc;
      pairs = subst (λ (o : Option Entry). EndsPair o physical_entry) (sym none) refl;
      records = no-records (catalogue_in left) (member_numbered (Some number) (catalogue_in left));
    };
    within = subst (λ (l : Standing). AllByRecursion (IsHeldWithin l) l.members) (sym physical-after)
        (all-append (IsHeldWithin physical_left) left.members (first_member ∷ []) within (first-within, tt));
    placed = ap (λ (b : Bool). b && true) some;
    journaled = λ of. absurd cc;
  }

-- ---- the request

module _ (s : State) (r : IsReplayed s) (sound : IsSound s) (job timestamp : ℕ) (name : List ℕ) (plan : NewFile) (may : MayCreatePhysical s name plan) where
  abbrev number : ℕ
  number = s.next_member

  abbrev author : Author
  author = author_of (memory_of s) job timestamp

  abbrev to : Standing
  to = physical_left author number name plan.source r.left

  abbrev catalog_new : CatalogFile
  catalog_new = physical_new author number name plan.source r.left

  abbrev file : FileState
  file = new_file name number plan

  abbrev files : Named FileState
  files = s.files ++ (name, file) ∷ []

  abbrev item : MemberState
  item = empty_member (record_length (fields_of file))

  abbrev members : NumberedMembers
  members = put_member number item s.members

  abbrev held : HeldMember
  held = new_member number name name

  unnamed : find (is_named name) r.left.files ≡ None
  unnamed = catalog-none name r.left.files s.files r.stands.files_are may.unnamed

  gives : spec_beside (described_files r.left.files) Physical plan.source ≡ Some (PhysicalFile plan.spec)
  gives =
      ap (λ (fs : Named FileState). if_physical (described (format_named fs) plan.source)) r.stands.described
      ∙ (λ i. if_physical (described (λ n. option_map (λ (spec : PhysicalSpec). spec.format) (spec-same s.files n i)) plan.source))
      ∙ ap if_physical may.is_described

  described-is : described_files to.files ≡ map memberless files
  described-is = described-then r.left.files catalog_new (PhysicalFile plan.spec) unnamed gives (left-plain s r) s.files ((name, new_status number) ∷ []) r.stands.described

  -- the fields of the new file
  new-fields : fields_beside to.files plan.source ≡ fields_of file
  new-fields =
      let it : IsPlain (described_files to.files) catalog_new =
      each-last (λ (f : CatalogFile). f.kind ≡ Physical → IsPlain (described_files to.files) f) r.left.files catalog_new
      (plain-more r.left.files catalog_new unnamed (ap is_some gives) (left-plain s r)) refl
      in
      let found : spec_named (described_files to.files) name ≡ Some plan.spec =
      ap (λ (fs : Named FileState). spec_named fs name) described-is ∙ spec-same files name
      ∙ ap (option_and_then (λ (f : FileState). physical_in f.spec)) (named-last name s.files file may.unnamed)
      in
      let both : ◌≡◌ {A = Option PhysicalSpec} (Some it.spec) (Some plan.spec) = sym it.found ∙ found in
      let same : it.spec ≡ plan.spec = cc in
      plain-fields to.files catalog_new it ∙ ap (λ (p : PhysicalSpec). p.format.fields) same

  others : (fs : Named FileState) → named name fs ≡ None → AllByRecursion (ShowsMembers r.left.members) fs → AllByRecursion (ShowsMembers (r.left.members ++ held ∷ [])) fs
  others [] none all = tt
  others (entry ∷ fs) none all = by (same_name name entry.0) refl none (λ rest. others fs rest all.1) where
    by : (b : Bool) → same_name name entry.0 ≡ b → cond b (Some entry.1) (named name fs) ≡ None → (named name fs ≡ None → AllByRecursion (ShowsMembers (r.left.members ++ held ∷ [])) fs)
        → AllByRecursion (ShowsMembers (r.left.members ++ held ∷ [])) (entry ∷ fs)
    by true is h more = absurd cc
    by false is h more = (
      shown-append number name name entry.0 r.left.members
          ∙ ap (λ (b : Bool). map held_shown (filter (is_held_in entry.0) r.left.members) ++ map held_shown (cond b (held ∷ []) [])) is
          ∙ append-nil (map held_shown (filter (is_held_in entry.0) r.left.members)) ∙ all.0,
      more h,
    )

  its-members : ShowsMembers (r.left.members ++ held ∷ []) (name, file)
  its-members =
      shown-append number name name name r.left.members
      ∙ ap (λ (t : List HeldMember). map held_shown t ++ map held_shown (filter (is_held_in name) (held ∷ []))) (none-held name s.files r.left.members may.unnamed r.stands.homes)
      ∙ ap (λ (b : Bool). map held_shown (cond b (held ∷ []) [])) (same_name-self name)

  -- ---- members

  is-last : members ≡ s.members ++ record { number = number; item = item } ∷ []
  is-last = put-last number item s.members sound.library.numbers

  below : AllByRecursion (λ (m : HeldMember). m.number < number) r.left.members
  below = let same = r.stands.next_is in
      each-weaker (λ (m : HeldMember). m.number < r.left.next_member) (λ (m : HeldMember). m.number < number) (λ m less. omega (arith, same, less)) r.left.members r.journal.replays.numbered

  old-stands : (m : HeldMember) → m.number < number → MemberStands s.files s.members m → MemberStands files members m
  old-stands m less had =
      let stands = stands-before s.files s.members (name, file) m had in
      let same : member_of m.number members ≡ member_of m.number s.members =
      ap (λ (ms : NumberedMembers). member_of m.number ms) is-last ∙ ap (λ (o : Option MemberState). unwrap_or o (empty_member 0)) (last-other number item m.number s.members less)
      in
      let slots = ap (λ (x : MemberState). x.slots) (sym same) in
      record {
        counted = stands.counted;
        status = stands.status;
        found = stands.found;
        images = stands.images;
        journaled = λ on. stands.journaled on ∙ slots;
        ended = λ off. record { records_then = (stands.ended off).records_then; unchanged = λ so. (stands.ended off).unchanged so ∙ slots };
      }

  among-last : (fs : Named FileState) → status_among number fs ≡ None → status_among number (fs ++ (name, file) ∷ []) ≡ Some (new_status number)
  among-last [] none =
      let own : (number == number) ≡ true = grind (arith, nat_tests) in
      ap (λ (b : Bool). cond (is_some (option_map (λ (x : List ℕ × MemberStatus). x.1) (cond b (Some (name, new_status number)) None)))
      (option_map (λ (x : List ℕ × MemberStatus). x.1) (cond b (Some (name, new_status number)) None)) None) own
  among-last (entry ∷ fs) none =
      let parts = among-none number name name entry fs none in
      ap (λ (o : Option MemberStatus). cond (is_some o) o (status_among number (fs ++ (name, file) ∷ []))) parts.0 ∙ among-last fs parts.1

  new-stands : MemberStands files members held
  new-stands = record {
    counted = first-number s r;
    status = new_status number;
    found = among-last s.files (next-unowned s sound.library sound.names);
    images = refl;
    journaled = λ on. absurd cc;
    ended = λ off. record {
      records_then = refl;
      unchanged = λ so. sym (ap (λ (x : MemberState). x.slots) (ap (λ (ms : NumberedMembers). member_of number ms) is-last
          ∙ ap (λ (o : Option MemberState). unwrap_or o (empty_member 0)) (last-new number item s.members sound.library.numbers)));
    };
  }

  stands-then : StandsAs to files members (number + 1) s.jobs
  stands-then = record {
    files_are = shown-then r.left.files catalog_new (PhysicalFile plan.spec) unnamed gives (left-plain s r) s.files ((name, new_status number) ∷ []) r.stands.files_are refl;
    described = described-is;
    fields_are = each-append (λ (entry : List ℕ × FileState). kind_in entry.1.spec ≡ Physical → fields_beside to.files entry.1.source ≡ fields_of entry.1) s.files ((name, file) ∷ [])
        (fields-then r.left.files catalog_new (PhysicalFile plan.spec) unnamed gives (left-plain s r) s.files r.stands.files_are r.stands.fields_are) ((λ physical. new-fields), tt);
    members_are = each-append (ShowsMembers (r.left.members ++ held ∷ [])) s.files ((name, file) ∷ []) (others s.files may.unnamed r.stands.members_are) (its-members, tt);
    homes = all-append (λ (m : HeldMember). is_some (named m.file files) ≡ true) r.left.members (held ∷ [])
        (each-weaker (λ (m : HeldMember). is_some (named m.file s.files) ≡ true) (λ (m : HeldMember). is_some (named m.file files) ≡ true)
        (λ m home. some-before m.file s.files (name, file) home) r.left.members r.stands.homes) (ap is_some (named-last name s.files file may.unnamed), tt);
    numbers = map-append (λ (m : HeldMember). m.number) r.left.members (held ∷ []) ∙ ap (λ (t : List ℕ). t ++ number ∷ []) r.stands.numbers
        ∙ sym (ap (map (λ entry. entry.number)) is-last ∙ map-append (λ entry. entry.number) s.members (record { number = number; item = item } ∷ []));
    next_is = refl;
    slots = all-append (MemberStands files members) r.left.members (held ∷ [])
        (both-each (λ (m : HeldMember). m.number < number) (MemberStands s.files s.members) (MemberStands files members) r.left.members old-stands below r.stands.slots) (new-stands, tt);
    cycles_are = cycles-later r.left.next r.left.cycles r.left.undos s.jobs r.stands.cycles_are;
  }

  pub physical-replayed : IsReplayed (after s (create_change (memory_of s) job timestamp (record { file = name; source = plan.source }) plan))
  physical-replayed =
      let first = first-number s r in
      let some : nat_lt 0 number ≡ true = grind (arith, nat_tests, first) in
      let same = r.stands.next_is in
      let last = may.last in
      replays-kept s r (member_draft author number (FileCreated Physical name plan.source) ∷ []) true Done (with_file name file (memory_of s)) to refl r.checkpoint refl (
        physical-may author number name plan.source r.left r.whole
            (record { unnamed = unnamed; accepted = ap is_some gives; numbered = record { next = ap (λ (k : ℕ). Some k) (sym same); last = omega (arith, last, same) } })
            (within-then r.left.files catalog_new (PhysicalFile plan.spec) unnamed gives (left-plain s r) r.left to s.files r.left.members refl refl
            (all-homed r.left s.files s.members s.next_member s.jobs r.stands sound.library.bases) r.journal.within) some,
        sym (physical-after author number name plan.source r.left),
      )
      refl stands-then

pub create_physical-replayed : (sources : List NamedSource) (args : CreatePhysicalFile) → AreReplaysKeptBy (λ m job timestamp. create_physical_file sources m job timestamp args)
create_physical-replayed sources args s sound r job timestamp done running h =
    does-each (create_change (memory_of s) job timestamp args) (create_plan sources (memory_of s) args) done (λ c. IsReplayed (after s c)) h
    (λ plan is. physical-replayed s r sound job timestamp args.file plan (physical-found s sources args plan is))
