-- CRTLF and CRTPF: the library has a file more, a physical one with a member of its name.
use Rattle.std.proofs.Common.{◌≡◌, ℕ, ◌+◌, nat_le, Bool, true, false, cond, if◌then◌else◌, Option, Some, None, Result, Ok, Err, List, [], ◌∷◌, ◌++◌, map, length, refl, sym, ap, ◌∙◌, subst}
use Rattle.std.specs.List.{AllByRecursion, find, list_any}
use Rattle.std.specs.Option.{is_some, option_and_then}
use Rattle.std.proofs.lemmas.List.{append-nil}
use Rattle.entry_codec.specs.declared.entries.Entry.{Entry}
use Rattle.entry_codec.specs.declared.kinds.EntryKind.TheVariants.{FileCreated}
use Rattle.entry_codec.specs.declared.kinds.FileKind.TheVariants.{Logical, Physical}
use Rattle.entry_codec.specs.Drafts.{numbered}
use Rattle.dds_source.specs.declared.faults.DdsFault.{DdsFault}
use Rattle.dds_source.specs.Reading.{source_of}
use Rattle.dds_logical.specs.declared.views.LogicalSpec.{LogicalSpec}
use Rattle.logical_model.specs.Bases.{LogicalFile, base_members}
use Rattle.logical_model.specs.FilePaths.{logical_paths}
use Rattle.logical_laws.proofs.ListLemmas.{each-append, each-weaker}
use Rattle.lawful_states.proofs.NameLemmas.{same_name-symm}
use Rattle.journal_model.specs.Catalogue.{CatalogFile, MayCreate, is_named, member_numbered}
use Rattle.journal_model.specs.Pairs.{EndsPair}
use Rattle.journal_replay.specs.Standing.{HeldMember, Standing, catalogue_in, members_by, standing_after}
use Rattle.library_model.specs.declared.limits.TheConstants.{MOST_FILES}
use Rattle.library_model.specs.declared.replies.LimitKind.TheVariants.{Files, Paths}
use Rattle.library_model.specs.declared.replies.Reply.TheVariants.{Done, DuplicateKey, LimitReached, NameExists, NotJournaled}
use Rattle.library_model.specs.declared.requests.CreateLogicalFile.{CreateLogicalFile}
use Rattle.library_model.specs.declared.sources.NamedSource.{NamedSource}
use Rattle.library_model.specs.Named.{Named, named, same_name}
use Rattle.library_model.specs.SourceList.{text_of}
use Rattle.library_steps.specs.declared.limits.TheConstants.{MOST_PATHS}
use Rattle.library_steps.specs.State.{FileState, Memory, State, fields_of, file_named, memory_of, physical_in}
use Rattle.library_steps.specs.CreateLogicalFile.{NewLogical, create_logical_change, create_logical_file, create_logical_plan, first_repeated, first_undone, has_many, is_unique, logical_by, logical_described, logical_file, logical_or_refused, over_members}
use Rattle.library_steps.specs.Drafts.{Author, author_of, library_draft}
use Rattle.library_steps.specs.LogicalFiles.{bases_of}
use Rattle.library_steps.specs.Uses.{changer_of_any, unused}
use Rattle.library_steps.specs.Refusals.{named_or_refused, refuse_if, refuse_with, sequences_left}
use Rattle.joint_state.specs.Sound.{IsSound, after}
use Rattle.restart_laws.proofs.ResultLemmas.{bind-ok, does-each, not-refused, ok-equal}
use Rattle.named_bases.specs.Sources.{described_files, descriptions, fields_beside, if_logical, spec_beside, spec_named}
use Rattle.replayed_histories.specs.Shown.{ShownFile, ShowsMembers, catalog_shown, file_shown, held_shown, kind_in, memberless}
use Rattle.replayed_histories.specs.Replayed.{IsHeldWithin, IsReplayed, MemberStands, StandsAs}
use Rattle.replayed_histories.specs.Deposits.{MayBeDeposited}
use Rattle.replayed_histories.specs.Requests.{AreReplaysKeptBy}
use Rattle.replayed_histories.proofs.DepositLemmas.{replays-kept}
use Rattle.replayed_histories.proofs.GrownLemmas.{described-then, fields-then, left-plain, none-held, shown-then, some-before, stands-before, within-then}
use Rattle.replayed_histories.proofs.HomeLemmas.{all-homed}
use Rattle.replayed_histories.proofs.QuietLemmas.{members-stay, no-records, standing-same}
use Rattle.replayed_histories.proofs.StandsLemmas.{cycles-later}

-- ---- what a source describes beside the files, with their members or without

pub spec-same : (files : Named FileState) (name : List ℕ) → spec_named (map memberless files) name ≡ spec_named files name
spec-same [] name = refl
spec-same (entry ∷ files) name =
    elim (same_name name entry.0) as (λ b. option_and_then (λ (file : FileState). physical_in file.spec) (cond b (Some (memberless entry).1) (named name (map memberless files)))
    ≡ option_and_then (λ (file : FileState). physical_in file.spec) (cond b (Some entry.1) (named name files))) [ true ↦ refl | false ↦ spec-same files name ]

pub catalog-none : (name : List ℕ) (catalog : List CatalogFile) (files : Named FileState) → map catalog_shown catalog ≡ map file_shown files → named name files ≡ None → find (is_named name) catalog ≡ None
catalog-none name [] files same none = refl
catalog-none name (its ∷ catalog) [] same none = absurd cc
catalog-none name (its ∷ catalog) (entry ∷ files) same none = by (same_name name entry.0) refl none (λ later. catalog-none name catalog files tails later) where
  heads : catalog_shown its ≡ file_shown entry
  heads = cc

  tails : map catalog_shown catalog ≡ map file_shown files
  tails = cc

  test : is_named name its ≡ same_name name entry.0
  test = same_name-symm its.name name ∙ ap (λ (shown : ShownFile). same_name name shown.name) heads

  by : (b : Bool) → same_name name entry.0 ≡ b → cond b (Some entry.1) (named name files) ≡ None → (named name files ≡ None → find (is_named name) catalog ≡ None)
      → cond (is_named name its) (Some its) (find (is_named name) catalog) ≡ None
  by true is h more = absurd cc
  by false is h more = ap (λ (b : Bool). cond b (Some its) (find (is_named name) catalog)) (test ∙ is) ∙ more h

pub none-file : (o : Option FileState) → is_some o ≡ false → o ≡ None
none-file None h = refl
none-file (Some file) h = absurd cc

-- ---- CRTLF

logical-ok : (r : Result LogicalSpec DdsFault) (spec : LogicalSpec) → logical_or_refused r ≡ Ok spec → r ≡ Ok spec
logical-ok (Ok other) spec h = let same : other ≡ spec = ok-equal other spec h in ap (λ (x : LogicalSpec). Ok x) same
logical-ok (Err fault) spec h = absurd cc

pub record MayCreateLogical (s : State) (name : List ℕ) (plan : NewLogical) : Type 0 where
  pub unnamed : named name s.files ≡ None
  pub described : logical_described (memory_of s) plan.source ≡ Ok plan.spec

over-same : (m : Memory) (args : CreateLogicalFile) (text : List ℕ) (spec : LogicalSpec) (plan : NewLogical) → over_members m args text spec ≡ Ok plan → record { source = text; spec = spec } ≡ plan
over-same m args text spec plan h =
    let a = bind-ok (refuse_if (list_any (has_many (logical_paths (bases_of m) spec) m) (base_members (bases_of m) spec)) (LimitReached Paths MOST_PATHS)) _ plan h in
    let b = bind-ok (unused (changer_of_any (base_members (bases_of m) spec) m)) _ plan a.2 in
    let c = bind-ok (refuse_with NotJournaled (if is_unique (logical_paths (bases_of m) spec) then first_undone m (base_members (bases_of m) spec) else None)) _ plan b.2 in
    let d = bind-ok (refuse_with (DuplicateKey args.file) (first_repeated (logical_paths (bases_of m) spec) m)) _ plan c.2 in
    ok-equal (record { source = text; spec = spec }) plan d.2

logical-found : (s : State) (sources : List NamedSource) (args : CreateLogicalFile) (plan : NewLogical) → create_logical_plan sources (memory_of s) args ≡ Ok plan → MayCreateLogical s args.file plan
unfolding create_logical_plan
logical-found s sources args plan h =
    let m = memory_of s in
    let left = bind-ok (sequences_left m) _ plan h in
    let new = bind-ok (refuse_if (is_some (file_named args.file m)) (NameExists args.file)) _ plan left.2 in
    let few = bind-ok (refuse_if (nat_le MOST_FILES (length m.files)) (LimitReached Files MOST_FILES)) _ plan new.2 in
    let text = bind-ok (named_or_refused args.source (text_of sources args.source)) _ plan few.2 in
    let spec = bind-ok (logical_or_refused (logical_described m text.0)) _ plan text.2 in
    subst (MayCreateLogical s args.file) (over-same m args text.0 spec.0 plan spec.2) (record {
      unnamed = none-file (named args.file s.files) (not-refused (is_some (file_named args.file m)) _ new.0 new.1);
      described = logical-ok (logical_described m text.0) spec.0 spec.1;
    })

module _ (author : Author) (name source : List ℕ) (left : Standing) where
  abbrev logical_entry : Entry
  logical_entry = numbered (library_draft author (FileCreated Logical name source)) left.next

  abbrev logical_new : CatalogFile
  logical_new = record { created = left.next; kind = Logical; name = name; source = source }

  abbrev logical_left : Standing
  logical_left = record left { next = left.next + 1; begun = None; files = left.files ++ logical_new ∷ [] }

  logical-after : standing_after logical_entry left ≡ logical_left
  logical-after =
      standing-same (left.next + 1) None None (left.files ++ logical_new ∷ []) (left.files ++ logical_new ∷ []) _ left.members left.next_member left.next_member left.cycles left.cycles left.undos
      left.undos refl refl (append-nil (members_by left.begun logical_entry left.members) ∙ members-stay left.begun logical_entry left.members (λ m. refl)) refl refl refl

  logical-may : left.begun ≡ None → MayCreate descriptions Logical name source logical_entry (catalogue_in left) → AllByRecursion (IsHeldWithin logical_left) left.members
      → MayBeDeposited left logical_entry
  logical-may none enters within = record {
    next = record {
      sequence = refl;
      enters = enters;
      replays = λ member. tt;
      names = λ no. tt;
      deletes = λ gone is. absurd cc;
      pairs = subst (λ (o : Option Entry). EndsPair o logical_entry) (sym none) refl;
      records = no-records (catalogue_in left) (member_numbered None (catalogue_in left));
    };
    within = subst (λ (l : Standing). AllByRecursion (IsHeldWithin l) l.members) (sym logical-after) within;
    placed = refl;
    journaled = λ of. absurd cc;
  }

module _ (s : State) (r : IsReplayed s) (sound : IsSound s) (job timestamp : ℕ) (name : List ℕ) (plan : NewLogical) (may : MayCreateLogical s name plan) where
  abbrev logical_author : Author
  logical_author = author_of (memory_of s) job timestamp

  abbrev logical_to : Standing
  logical_to = logical_left logical_author name plan.source r.left

  abbrev new_catalog : CatalogFile
  new_catalog = logical_new logical_author name plan.source r.left

  logical-unnamed : find (is_named name) r.left.files ≡ None
  logical-unnamed = catalog-none name r.left.files s.files r.stands.files_are may.unnamed

  logical-gives : spec_beside (described_files r.left.files) Logical plan.source ≡ Some (LogicalFile plan.spec)
  logical-gives =
      ap (λ (fs : Named FileState). if_logical (logical_by (spec_named fs) (source_of plan.source))) r.stands.described
      ∙ (λ i. if_logical (logical_by (λ n. spec-same s.files n i) (source_of plan.source)))
      ∙ ap if_logical may.described

  logical-stands : StandsAs logical_to (s.files ++ (name, logical_file plan) ∷ []) s.members s.next_member s.jobs
  logical-stands = record {
    files_are = shown-then r.left.files new_catalog (LogicalFile plan.spec) logical-unnamed logical-gives (left-plain s r) s.files [] r.stands.files_are refl;
    described = described-then r.left.files new_catalog (LogicalFile plan.spec) logical-unnamed logical-gives (left-plain s r) s.files [] r.stands.described;
    fields_are = each-append (λ (entry : List ℕ × FileState). kind_in entry.1.spec ≡ Physical → fields_beside logical_to.files entry.1.source ≡ fields_of entry.1) s.files
        ((name, logical_file plan) ∷ [])
        (fields-then r.left.files new_catalog (LogicalFile plan.spec) logical-unnamed logical-gives (left-plain s r) s.files r.stands.files_are r.stands.fields_are) ((λ physical. absurd cc), tt);
    members_are = each-append (ShowsMembers r.left.members) s.files ((name, logical_file plan) ∷ []) r.stands.members_are
        (ap (map held_shown) (none-held name s.files r.left.members may.unnamed r.stands.homes), tt);
    homes = each-weaker (λ (m : HeldMember). is_some (named m.file s.files) ≡ true) (λ (m : HeldMember). is_some (named m.file (s.files ++ (name, logical_file plan) ∷ [])) ≡ true)
        (λ m home. some-before m.file s.files (name, logical_file plan) home) r.left.members r.stands.homes;
    numbers = r.stands.numbers;
    next_is = r.stands.next_is;
    slots = each-weaker (MemberStands s.files s.members) (MemberStands (s.files ++ (name, logical_file plan) ∷ []) s.members)
        (λ m stands. stands-before s.files s.members (name, logical_file plan) m stands)
        r.left.members r.stands.slots;
    cycles_are = cycles-later r.left.next r.left.cycles r.left.undos s.jobs r.stands.cycles_are;
  }

  pub logical-replayed : IsReplayed (after s (create_logical_change (memory_of s) job timestamp (record { file = name; source = plan.source }) plan))
  logical-replayed =
      replays-kept s r (library_draft logical_author (FileCreated Logical name plan.source) ∷ []) true Done (record (memory_of s) { files = s.files ++ (name, logical_file plan) ∷ [] }) logical_to refl
      r.checkpoint refl (
        logical-may logical_author name plan.source r.left r.whole (record { unnamed = logical-unnamed; accepted = ap is_some logical-gives; numbered = tt })
            (within-then r.left.files new_catalog (LogicalFile plan.spec) logical-unnamed logical-gives (left-plain s r) r.left logical_to s.files r.left.members refl refl
            (all-homed r.left s.files s.members s.next_member s.jobs r.stands sound.library.bases) r.journal.within),
        sym (logical-after logical_author name plan.source r.left),
      )
      refl logical-stands

pub create_logical-replayed : (sources : List NamedSource) (args : CreateLogicalFile) → AreReplaysKeptBy (λ m job timestamp. create_logical_file sources m job timestamp args)
create_logical-replayed sources args s sound r job timestamp done running h =
    does-each (create_logical_change (memory_of s) job timestamp args) (create_logical_plan sources (memory_of s) args) done (λ c. IsReplayed (after s c)) h
    (λ plan is. logical-replayed s r sound job timestamp args.file plan (logical-found s sources args plan is))
