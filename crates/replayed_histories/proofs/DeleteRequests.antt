-- DLTF: the journal's other files don't depend on the one that goes, and are described without it as they were.
use Rattle.std.proofs.Common.{◌≡◌, ◌≢◌, ℕ, ◌+◌, ◌==◌, ◌||◌, not, Bool, true, false, cond, Option, Some, None, unwrap_or, List, [], ◌∷◌, map, refl, sym, ap, ◌∙◌, subst, arith}
use Rattle.std.specs.List.{AllByRecursion, filter, find, list_any}
use Rattle.std.specs.Option.{is_some}
use Rattle.std.specs.Str.{bytes_eq}
use Rattle.std.proofs.lemmas.Bool.{eqb-false, eqb-true, or_parts}
use Rattle.std.proofs.lemmas.Bool.Decides.{nat_tests}
use Rattle.std.proofs.lemmas.List.{append-nil}
use Rattle.entry_codec.specs.declared.entries.Entry.{Entry}
use Rattle.entry_codec.specs.declared.kinds.EntryKind.TheVariants.{FileDeleted}
use Rattle.entry_codec.specs.declared.kinds.FileKind.TheVariants.{Physical}
use Rattle.entry_codec.specs.Drafts.{numbered}
use Rattle.dds_physical.specs.declared.physical_files.PhysicalSpec.{PhysicalSpec}
use Rattle.member_slots.specs.Member.{IsMember, MemberState, empty_member}
use Rattle.member_slots.specs.Members.{NumberedMembers, member_at, member_of, without_member}
use Rattle.record_fmt.specs.Layout as layout
use Rattle.logical_model.specs.Bases.{FileSpec, LogicalFile, PhysicalFile}
use Rattle.lawful_states.specs.Owners.{has_number}
use Rattle.lawful_states.proofs.NameLemmas.{named-without_other, same_name-equal, same_name-self, same_name-symm}
use Rattle.lawful_states.proofs.StatusLemmas.{has_number-cons}
use Rattle.journal_model.specs.Catalogue.{CatalogFile, CatalogMember, MayDelete, depends_on, empty_catalogue, is_in_file, is_named, member_numbered, members_of}
use Rattle.journal_model.specs.Journal.{length_in}
use Rattle.journal_model.specs.Pairs.{EndsPair}
use Rattle.journal_model.specs.Rollback.{of_member}
use Rattle.journal_replay.specs.Standing.{HeldMember, Standing, catalog_member, catalogue_in, members_by, standing_after}
use Rattle.library_model.specs.declared.replies.Reply.TheVariants.{Done}
use Rattle.library_model.specs.declared.requests.DeleteFile.{DeleteFile}
use Rattle.library_model.specs.Named.{Named, named, same_name}
use Rattle.library_steps.specs.State.{FileState, JobState, MemberStatus, State, fields_of, memory_of}
use Rattle.library_steps.specs.DeleteFile.{delete_change, delete_file, delete_plan, deleted, user_by, without_file, without_members}
use Rattle.library_steps.specs.Drafts.{Author, author_of, library_draft}
use Rattle.library_steps.specs.Uses.{first_job, user_of, uses}
use Rattle.lawful_states.specs.Lawful.{IsBased}
use Rattle.lawful_states.proofs.MemberLemmas.{item_at-without_item_other}
use Rattle.joint_state.specs.Sound.{IsSound, after}
use Rattle.restart_laws.proofs.RequestLemmas.{delete-file}
use Rattle.restart_laws.proofs.ResultLemmas.{does-each}
use Rattle.sound_histories.proofs.ImageLemmas.{among-without}
use Rattle.named_bases.specs.Sources.{described_files, descriptions, fields_beside, spec_named}
use Rattle.restart_laws.proofs.CatalogueLemmas.{AreNamesApart, IsCatalogue, empty-is, entries-are}
use Rattle.restart_laws.proofs.StableLemmas.{ArePlain, IsPlain, all-free, plain-less, spec-less}
use Rattle.replayed_histories.specs.Shown.{ShownFile, ShowsMembers, catalog_shown, file_shown, held_shown, is_held_in, kind_in, memberless}
use Rattle.replayed_histories.specs.Replayed.{IsHeldWithin, IsReplayed, MemberStands, StandsAs}
use Rattle.replayed_histories.specs.Deposits.{MayBeDeposited}
use Rattle.replayed_histories.specs.Requests.{AreReplaysKeptBy}
use Rattle.replayed_histories.proofs.DepositLemmas.{replays-kept}
use Rattle.replayed_histories.proofs.FreeLemmas.{unused-free}
use Rattle.replayed_histories.proofs.GrownLemmas.{each-both, left-plain, plain-fields}
use Rattle.replayed_histories.proofs.HomeLemmas.{IsHomed, all-homed, catalog-named}
use Rattle.replayed_histories.proofs.LessLemmas.{left-alone, left-described}
use Rattle.replayed_histories.proofs.QuietLemmas.{members-stay, no-records, standing-same}
use Rattle.replayed_histories.proofs.StandsLemmas.{cycles-later}

-- ---- lists without some

module _ {X : Type 0} (test : X → Bool) where
  each-unfiltered : (P : X → Type 0) (xs : List X) → AllByRecursion P (filter test xs) → AllByRecursion (λ (x : X). test x ≡ true → P x) xs
  each-unfiltered P [] all = tt
  each-unfiltered P (x ∷ xs) all = by (test x) refl all (λ rest. each-unfiltered P xs rest) where
    by : (b : Bool) → test x ≡ b → AllByRecursion P (cond b (x ∷ filter test xs) (filter test xs)) → (AllByRecursion P (filter test xs) → AllByRecursion (λ (y : X). test y ≡ true → P y) xs)
        → (test x ≡ true → P x) × AllByRecursion (λ (y : X). test y ≡ true → P y) xs
    by true is all more = ((λ so. all.0), more all.1)
    by false is all more = ((λ so. absurd (let clash : ◌≡◌ {A = Bool} true false = sym so ∙ is in cc)), more all)

  each-filtered : (P : X → Type 0) (xs : List X) → AllByRecursion (λ (x : X). test x ≡ true → P x) xs → AllByRecursion P (filter test xs)
  each-filtered P [] all = tt
  each-filtered P (x ∷ xs) all = by (test x) refl (each-filtered P xs all.1) where
    by : (b : Bool) → test x ≡ b → AllByRecursion P (filter test xs) → AllByRecursion P (cond b (x ∷ filter test xs) (filter test xs))
    by true is rest = (all.0 is, rest)
    by false is rest = rest

filter-both : (p q t : ℕ → Bool) (xs : List ℕ) → ((n : ℕ) → t n ≡ cond (q n) (p n) false) → filter p (filter q xs) ≡ filter t xs
filter-both p q t [] each = refl
filter-both p q t (x ∷ xs) each =
    by (q x) (filter-both p q t xs each) ∙ sym (ap (λ (b : Bool). cond b (x ∷ filter t xs) (filter t xs)) (each x))
  where
    by : (b : Bool) → filter p (filter q xs) ≡ filter t xs → filter p (cond b (x ∷ filter q xs) (filter q xs)) ≡ cond (cond b (p x) false) (x ∷ filter t xs) (filter t xs)
    by true rest = ap (λ (ys : List ℕ). cond (p x) (x ∷ ys) ys) rest
    by false rest = rest

filter-none : (t : ℕ → Bool) (xs : List ℕ) → ((n : ℕ) → t n ≡ true) → filter t xs ≡ xs
filter-none t [] all = refl
filter-none t (x ∷ xs) all = ap (λ (b : Bool). cond b (x ∷ filter t xs) (filter t xs)) (all x) ∙ ap (λ (ys : List ℕ). x ∷ ys) (filter-none t xs all)

-- ---- numbers of the members that stay

abbrev stays_number : Named MemberStatus → ℕ → Bool
stays_number gone n = not (has_number n gone)

numbers-without : (k : ℕ) (members : NumberedMembers) → map (λ entry. entry.number) (without_member k members) ≡ filter (λ (n : ℕ). not (n == k)) (map (λ entry. entry.number) members)
numbers-without k [] = refl
numbers-without k (entry ∷ members) =
    elim (entry.number == k) as (λ b. map (λ x. x.number) (cond (not b) (entry ∷ without_member k members) (without_member k members))
    ≡ cond (not b) (entry.number ∷ filter (λ (n : ℕ). not (n == k)) (map (λ x. x.number) members)) (filter (λ (n : ℕ). not (n == k)) (map (λ x. x.number) members)))
    [ true ↦ numbers-without k members | false ↦ ap (λ (t : List ℕ). entry.number ∷ t) (numbers-without k members) ]

numbers-gone : (gone : Named MemberStatus) (members : NumberedMembers) → map (λ entry. entry.number) (without_members gone members) ≡ filter (stays_number gone) (map (λ entry. entry.number) members)
numbers-gone [] members = sym (filter-none (stays_number []) (map (λ entry. entry.number) members) (λ n. refl))
numbers-gone (status ∷ gone) members =
    numbers-gone gone (without_member status.1.number members) ∙ ap (filter (stays_number gone)) (numbers-without status.1.number members)
    ∙ filter-both (stays_number gone) (λ (n : ℕ). not (n == status.1.number)) (stays_number (status ∷ gone)) (map (λ entry. entry.number) members) each
  where
    turned : (n : ℕ) → (status.1.number == n) ≡ (n == status.1.number)
    turned n = grind (arith, nat_tests)

    by : (a b : Bool) → not (a || b) ≡ cond (not a) (not b) false
    by true b = refl
    by false b = refl

    each : (n : ℕ) → stays_number (status ∷ gone) n ≡ cond (not (n == status.1.number)) (stays_number gone n) false
    each n = ap not (has_number-cons n status gone) ∙ by (status.1.number == n) (has_number n gone) ∙ ap (λ (b : Bool). cond (not b) (stays_number gone n) false) (turned n)

at-gone : (n : ℕ) (gone : Named MemberStatus) (members : NumberedMembers) → has_number n gone ≡ false → member_at n (without_members gone members) ≡ member_at n members
at-gone n [] members lacks = refl
at-gone n (status ∷ gone) members lacks =
    let parts = or_parts (status.1.number == n) (has_number n gone) (sym (has_number-cons n status gone) ∙ lacks) in
    let differs : n ≢ status.1.number = (let other = parts.0 in λ e. absurd (eqb-false status.1.number n other (sym e))) in
    at-gone n gone (without_member status.1.number members) parts.1 ∙ item_at-without_item_other n status.1.number members differs

-- ---- the entry

module _ (author : Author) (name : List ℕ) (left : Standing) where
  abbrev gone_entry : Entry
  gone_entry = numbered (library_draft author (FileDeleted name)) left.next

  abbrev keeps : HeldMember → Bool
  keeps m = not (bytes_eq m.file name)

  abbrev stays : CatalogFile → Bool
  stays file = not (is_named name file)

  abbrev gone_left : Standing
  gone_left = record left { next = left.next + 1; begun = None; files = filter stays left.files; members = filter keeps left.members }

  gone-after : standing_after gone_entry left ≡ gone_left
  gone-after =
      standing-same (left.next + 1) None None (filter stays left.files) (filter stays left.files) _ (filter keeps left.members) left.next_member left.next_member left.cycles left.cycles left.undos
      left.undos refl refl
      (append-nil (filter keeps (members_by left.begun gone_entry left.members)) ∙ ap (filter keeps) (members-stay left.begun gone_entry left.members (λ m. refl))) refl refl refl

  abbrev IsUnchanged : CatalogMember → Type 0
  IsUnchanged m = of_member m.number left.undos ≡ []

  gone-may : left.begun ≡ None → MayDelete descriptions name (catalogue_in left) → AllByRecursion IsUnchanged (members_of name (catalogue_in left))
      → AllByRecursion (IsHeldWithin gone_left) (filter keeps left.members) → MayBeDeposited left gone_entry
  gone-may none enters free within = record {
    next = record {
      sequence = refl;
      enters = enters;
      replays = λ member. tt;
      names = λ no. tt;
      deletes = λ other is. let same : name ≡ other = cc in subst (λ (n : List ℕ). AllByRecursion IsUnchanged (members_of n (catalogue_in left))) same free;
      pairs = subst (λ (o : Option Entry). EndsPair o gone_entry) (sym none) refl;
      records = no-records (catalogue_in left) (member_numbered None (catalogue_in left));
    };
    within = subst (λ (l : Standing). AllByRecursion (IsHeldWithin l) l.members) (sym gone-after) within;
    placed = refl;
    journaled = λ of. absurd cc;
  }

-- ---- the other files

module _ (name : List ℕ) (catalog : List CatalogFile) (apart : AreNamesApart catalog) (plain : ArePlain (described_files catalog) catalog)
    (alone : list_any (depends_on descriptions name) catalog ≡ false) where
  abbrev stay : CatalogFile → Bool
  stay file = not (is_named name file)

  abbrev less : List CatalogFile
  less = filter stay catalog

  abbrev KeepsFields : CatalogFile → Type 0
  KeepsFields file = bytes_eq file.name name ≡ false → file.kind ≡ Physical → fields_beside less file.source ≡ fields_beside catalog file.source

  keep-fields : AllByRecursion KeepsFields catalog
  keep-fields =
      each-both (λ (file : CatalogFile). file.kind ≡ Physical → IsPlain (described_files catalog) file)
      (λ (file : CatalogFile). stay file ≡ true → file.kind ≡ Physical → IsPlain (described_files less) file) KeepsFields catalog each plain
      (each-unfiltered stay (λ (file : CatalogFile). file.kind ≡ Physical → IsPlain (described_files less) file) catalog (plain-less name catalog apart (all-free name catalog alone) plain))
    where
      each : (file : CatalogFile) → (file.kind ≡ Physical → IsPlain (described_files catalog) file) → (stay file ≡ true → file.kind ≡ Physical → IsPlain (described_files less) file)
          → KeepsFields file
      each file was is other physical =
          let one = was physical in
          let two = is (ap not other) physical in
          let alike : spec_named (described_files less) file.name ≡ spec_named (described_files catalog) file.name =
          spec-less name catalog apart (all-free name catalog alone) file.name (same_name-symm name file.name ∙ other) in
          let both : ◌≡◌ {A = Option PhysicalSpec} (Some two.spec) (Some one.spec) = sym two.found ∙ alike ∙ one.found in
          let same : two.spec ≡ one.spec = cc in
          plain-fields less file two ∙ ap (λ (p : PhysicalSpec). p.format.fields) same ∙ sym (plain-fields catalog file one)

  -- a file of another name is found as it was
  find-less : (other : List ℕ) (files : List CatalogFile) (its : CatalogFile) → bytes_eq other name ≡ false → find (is_named other) files ≡ Some its
      → find (is_named other) (filter stay files) ≡ Some its
  find-less other [] its differs found = absurd cc
  find-less other (file ∷ files) its differs found = by (is_named other file) (is_named name file) refl refl found (λ later. find-less other files its differs later) where
    clash : is_named other file ≡ true → is_named name file ≡ true → ⊥
    clash one two =
        let same : file.name ≡ other = same_name-equal file.name other one in
        let off : bytes_eq file.name name ≡ false = ap (λ (x : List ℕ). bytes_eq x name) same ∙ differs in
        let both : ◌≡◌ {A = Bool} true false = sym two ∙ off in
        absurd cc

    by : (a b : Bool) → is_named other file ≡ a → is_named name file ≡ b → cond a (Some file) (find (is_named other) files) ≡ Some its
        → (find (is_named other) files ≡ Some its → find (is_named other) (filter stay files) ≡ Some its)
        → find (is_named other) (cond (not b) (file ∷ filter stay files) (filter stay files)) ≡ Some its
    by true true one two h more = absurd (clash one two)
    by true false one two h more = ap (λ (b : Bool). cond b (Some file) (find (is_named other) (filter stay files))) one ∙ h
    by false true one two h more = more h
    by false false one two h more = ap (λ (b : Bool). cond b (Some file) (find (is_named other) (filter stay files))) one ∙ more h

  found-each : (P : CatalogFile → Type 0) (test : CatalogFile → Bool) (files : List CatalogFile) (its : CatalogFile) → find test files ≡ Some its → AllByRecursion P files → P its × (test its ≡ true)
  found-each P test [] its found all = absurd cc
  found-each P test (file ∷ files) its found all = by (test file) refl found (λ later. found-each P test files its later all.1) where
    by : (b : Bool) → test file ≡ b → cond b (Some file) (find test files) ≡ Some its → (find test files ≡ Some its → P its × (test its ≡ true)) → P its × (test its ≡ true)
    by true is h more = let same : file ≡ its = cc in (subst P same all.0, ap test (sym same) ∙ is)
    by false is h more = more h

  -- members of other files stay within their limits
  within-less : (left to : Standing) (files : Named FileState) (m : HeldMember) → left.files ≡ catalog → to.files ≡ less → bytes_eq m.file name ≡ false → IsHomed catalog files m → IsHeldWithin left m
      → IsHeldWithin to m
  within-less left to files m left_files to_files differs home fits =
      let its = found-each KeepsFields (is_named m.file) catalog home.its home.there keep-fields in
      let called : home.its.name ≡ m.file = same_name-equal home.its.name m.file its.1 in
      let stays : fields_beside less home.its.source ≡ fields_beside catalog home.its.source = its.0 (ap (λ (x : List ℕ). bytes_eq x name) called ∙ differs) home.physical in
      let now : length_in descriptions (catalogue_in to) (find (is_named m.file) to.files) ≡ layout.record_length (fields_beside to.files home.its.source) =
      ap (length_in descriptions (catalogue_in to)) (ap (find (is_named m.file)) to_files ∙ find-less m.file catalog home.its differs home.there) in
      let was : length_in descriptions (catalogue_in left) (find (is_named m.file) left.files) ≡ layout.record_length (fields_beside left.files home.its.source) =
      ap (length_in descriptions (catalogue_in left)) (ap (find (is_named m.file)) left_files ∙ home.there) in
      let same : layout.record_length (fields_beside left.files home.its.source) ≡ layout.record_length (fields_beside to.files home.its.source) =
      ap (λ (c : List CatalogFile). layout.record_length (fields_beside c home.its.source)) left_files ∙ ap layout.record_length (sym stays)
      ∙ ap (λ (c : List CatalogFile). layout.record_length (fields_beside c home.its.source)) (sym to_files)
      in
      subst (λ (n : ℕ). IsMember (record { record_length = n; slots = m.slots })) (was ∙ same ∙ sym now) fits

  abbrev HasFields : List CatalogFile → List ℕ × FileState → Type 0
  HasFields all entry = kind_in entry.1.spec ≡ Physical → fields_beside all entry.1.source ≡ fields_of entry.1

  test-same : (file : CatalogFile) (entry : List ℕ × FileState) → catalog_shown file ≡ file_shown entry → is_named name file ≡ same_name name entry.0
  test-same file entry heads = same_name-symm file.name name ∙ ap (λ (shown : ShownFile). same_name name shown.name) heads

  -- what both show, without the file
  shown-less : (some : List CatalogFile) (files : Named FileState) → map catalog_shown some ≡ map file_shown files
      → map catalog_shown (filter stay some) ≡ map file_shown (without_file name files)
  shown-less [] [] same = refl
  shown-less [] (entry ∷ files) same = absurd cc
  shown-less (file ∷ some) [] same = absurd cc
  shown-less (file ∷ some) (entry ∷ files) same =
      ap (λ (b : Bool). map catalog_shown (cond (not b) (file ∷ filter stay some) (filter stay some))) (test-same file entry heads) ∙ by (same_name name entry.0) (shown-less some files tails)
    where
      heads : catalog_shown file ≡ file_shown entry
      heads = cc

      tails : map catalog_shown some ≡ map file_shown files
      tails = cc

      by : (b : Bool) → map catalog_shown (filter stay some) ≡ map file_shown (without_file name files)
          → map catalog_shown (cond (not b) (file ∷ filter stay some) (filter stay some)) ≡ map file_shown (cond (not b) (entry ∷ without_file name files) (without_file name files))
      by true rest = rest
      by false rest = ap (λ (x : ShownFile). x ∷ map catalog_shown (filter stay some)) heads ∙ ap (λ (t : List ShownFile). file_shown entry ∷ t) rest

  fields-less : (some : List CatalogFile) (files : Named FileState) → map catalog_shown some ≡ map file_shown files → AllByRecursion KeepsFields some → AllByRecursion (HasFields catalog) files
      → AllByRecursion (HasFields less) (without_file name files)
  fields-less some [] same keep all = tt
  fields-less [] (entry ∷ files) same keep all = absurd cc
  fields-less (file ∷ some) (entry ∷ files) same keep all = by (same_name name entry.0) refl (fields-less some files tails keep.1 all.1) where
    heads : catalog_shown file ≡ file_shown entry
    heads = cc

    tails : map catalog_shown some ≡ map file_shown files
    tails = cc

    one : same_name name entry.0 ≡ false → HasFields less entry
    one other physical =
        let source = ap (λ (x : ShownFile). x.source) heads in
        let kind = ap (λ (x : ShownFile). x.kind) heads in
        ap (fields_beside less) (sym source) ∙ keep.0 (test-same file entry heads ∙ other) (kind ∙ physical) ∙ ap (fields_beside catalog) source ∙ all.0 physical

    by : (b : Bool) → same_name name entry.0 ≡ b → AllByRecursion (HasFields less) (without_file name files)
        → AllByRecursion (HasFields less) (cond (not b) (entry ∷ without_file name files) (without_file name files))
    by true is rest = rest
    by false is rest = (one is, rest)

-- ---- members of other files

kept-same : (name other : List ℕ) (held : List HeldMember) → same_name name other ≡ false
    → filter (is_held_in other) (filter (λ (m : HeldMember). not (bytes_eq m.file name)) held) ≡ filter (is_held_in other) held
kept-same name other [] differs = refl
kept-same name other (m ∷ held) differs = by (bytes_eq m.file name) (bytes_eq m.file other) refl refl (kept-same name other held differs) where
  clash : bytes_eq m.file name ≡ true → bytes_eq m.file other ≡ true → ⊥
  clash one two =
      let a : m.file ≡ name = same_name-equal m.file name one in
      let b : m.file ≡ other = same_name-equal m.file other two in
      let on : same_name name other ≡ true = ap (same_name name) (sym b ∙ a) ∙ same_name-self name in
      let both : ◌≡◌ {A = Bool} true false = sym on ∙ differs in
      absurd cc

  by : (a b : Bool) → bytes_eq m.file name ≡ a → bytes_eq m.file other ≡ b
      → filter (is_held_in other) (filter (λ (x : HeldMember). not (bytes_eq x.file name)) held) ≡ filter (is_held_in other) held
      → filter (is_held_in other) (cond (not a) (m ∷ filter (λ (x : HeldMember). not (bytes_eq x.file name)) held) (filter (λ (x : HeldMember). not (bytes_eq x.file name)) held))
      ≡ cond b (m ∷ filter (is_held_in other) held) (filter (is_held_in other) held)
  by true true one two rest = absurd (clash one two)
  by true false one two rest = rest
  by false b one two rest =
      ap (λ (c : Bool). cond c (m ∷ filter (is_held_in other) (filter (λ (x : HeldMember). not (bytes_eq x.file name)) held))
      (filter (is_held_in other) (filter (λ (x : HeldMember). not (bytes_eq x.file name)) held))) two
      ∙ ap (λ (t : List HeldMember). cond b (m ∷ t) t) rest

numbers-kept : (keep : HeldMember → Bool) (t : ℕ → Bool) (held : List HeldMember) → AllByRecursion (λ (m : HeldMember). keep m ≡ t m.number) held
    → map (λ (m : HeldMember). m.number) (filter keep held) ≡ filter t (map (λ (m : HeldMember). m.number) held)
numbers-kept keep t [] all = refl
numbers-kept keep t (m ∷ held) all =
    ap (λ (b : Bool). map (λ (x : HeldMember). x.number) (cond b (m ∷ filter keep held) (filter keep held))) all.0
    ∙ elim (t m.number) as (λ b. map (λ (x : HeldMember). x.number) (cond b (m ∷ filter keep held) (filter keep held))
    ≡ cond b (m.number ∷ filter t (map (λ (x : HeldMember). x.number) held)) (filter t (map (λ (x : HeldMember). x.number) held)))
    [ true ↦ ap (λ (ns : List ℕ). m.number ∷ ns) (numbers-kept keep t held all.1) | false ↦ numbers-kept keep t held all.1 ]

members-less : (name : List ℕ) (held : List HeldMember) (files : Named FileState) → AllByRecursion (ShowsMembers held) files
    → AllByRecursion (ShowsMembers (filter (λ (m : HeldMember). not (bytes_eq m.file name)) held)) (without_file name files)
members-less name held [] all = tt
members-less name held (entry ∷ files) all = by (same_name name entry.0) refl (members-less name held files all.1) where
  by : (b : Bool) → same_name name entry.0 ≡ b → AllByRecursion (ShowsMembers (filter (λ (m : HeldMember). not (bytes_eq m.file name)) held)) (without_file name files)
      → AllByRecursion (ShowsMembers (filter (λ (m : HeldMember). not (bytes_eq m.file name)) held)) (cond (not b) (entry ∷ without_file name files) (without_file name files))
  by true is rest = rest
  by false is rest = (ap (map held_shown) (kept-same name entry.0 held is) ∙ all.0, rest)

-- ---- nobody has changed a member of the file

narrower : (wide narrow : ℕ → JobState → Bool) (number : ℕ) (jobs : List JobState) → ((n : ℕ) (job : JobState) → wide n job ≡ false → narrow n job ≡ false) → first_job wide number jobs ≡ None
    → first_job narrow number jobs ≡ None
narrower wide narrow number [] each none = refl
narrower wide narrow number (job ∷ jobs) each none = by (wide number job) refl none (λ later. narrower wide narrow (number + 1) jobs each later) where
  by : (b : Bool) → wide number job ≡ b → cond b (Some number) (first_job wide (number + 1) jobs) ≡ None → (first_job wide (number + 1) jobs ≡ None → first_job narrow (number + 1) jobs ≡ None)
      → cond (narrow number job) (Some number) (first_job narrow (number + 1) jobs) ≡ None
  by true is h more = absurd cc
  by false is h more = ap (λ (b : Bool). cond b (Some number) (first_job narrow (number + 1) jobs)) (each number job is) ∙ more h

one-of-them : (test : ℕ → Bool) (n : ℕ) (members : Named MemberStatus) → has_number n members ≡ true
    → list_any (λ (entry : List ℕ × MemberStatus). test entry.1.number) members ≡ false → test n ≡ false
one-of-them test n [] has none = absurd cc
one-of-them test n (entry ∷ members) has none = by (entry.1.number == n) refl (sym (has_number-cons n entry members) ∙ has) (λ later. one-of-them test n members later parts.1) where
  parts : (test entry.1.number ≡ false) × (list_any (λ (x : List ℕ × MemberStatus). test x.1.number) members ≡ false)
  parts = or_parts (test entry.1.number) (list_any (λ (x : List ℕ × MemberStatus). test x.1.number) members) none

  by : (b : Bool) → (entry.1.number == n) ≡ b → (b || has_number n members) ≡ true → (has_number n members ≡ true → test n ≡ false) → test n ≡ false
  by true is h more = ap test (sym (eqb-true entry.1.number n is)) ∙ parts.0
  by false is h more = more h

-- ---- the request

module _ (s : State) (r : IsReplayed s) (sound : IsSound s) (job timestamp : ℕ) (args : DeleteFile) (file : FileState) (there : named args.file s.files ≡ Some file)
    (unused : user_by file.spec args.file file (memory_of s) ≡ None) (alone : list_any (depends_on descriptions args.file) r.left.files ≡ false) where
  abbrev name : List ℕ
  name = args.file

  abbrev author : Author
  author = author_of (memory_of s) job timestamp

  abbrev to : Standing
  to = gone_left author name r.left

  abbrev files : Named FileState
  files = without_file name s.files

  abbrev members : NumberedMembers
  members = without_members file.members s.members

  abbrev keep : HeldMember → Bool
  keep m = not (bytes_eq m.file name)

  names-apart : AreNamesApart r.left.files
  names-apart =
      (subst IsCatalogue (sym r.journal.replays.catalogue) (entries-are descriptions s.entries empty_catalogue empty-is r.journal.replays.so_far.enters)).names

  homed : AllByRecursion (IsHomed r.left.files s.files) r.left.members
  homed = all-homed r.left s.files s.members s.next_member s.jobs r.stands sound.library.bases

  -- the members of the file are those of its name
  is-its : (m : HeldMember) → IsHomed r.left.files s.files m → bytes_eq m.file name ≡ has_number m.number file.members
  is-its m home = by (bytes_eq m.file name) (has_number m.number file.members) refl refl where
    by : (a b : Bool) → bytes_eq m.file name ≡ a → has_number m.number file.members ≡ b → a ≡ b
    by true true one two = refl
    by false false one two = refl
    by true false one two =
        let same : m.file ≡ name = same_name-equal m.file name one in
        let both : ◌≡◌ {A = Option FileState} (Some home.file) (Some file) = sym home.owns.there ∙ ap (λ (x : List ℕ). named x s.files) same ∙ there in
        let its : home.file ≡ file = cc in
        let on : has_number m.number file.members ≡ true = subst (λ (x : FileState). has_number m.number x.members ≡ true) its home.owns.has in
        sym on ∙ two
    by false true one two =
        let same : name ≡ m.file = sound.apart.apart name m.file file home.file m.number (record { there = there; has = two }) home.owns in
        let on : bytes_eq m.file name ≡ true = ap (bytes_eq m.file) same ∙ same_name-self m.file in
        sym one ∙ on

  its-free : (spec : FileSpec) → IsBased s.files name file.members spec → user_by spec name file (memory_of s) ≡ None → (n : ℕ) → has_number n file.members ≡ true → user_of n (memory_of s) ≡ None
  its-free (PhysicalFile spec) based none n has =
      narrower (λ number j. list_any (λ (entry : List ℕ × MemberStatus). uses entry.1.number s.locks number j) file.members) (uses n s.locks) 1 s.jobs
      (λ number j h. one-of-them (λ (k : ℕ). uses k s.locks number j) n file.members has h) none
  its-free (LogicalFile spec) based none n has =
      let off : has_number n file.members ≡ false = ap (λ (ms : Named MemberStatus). has_number n ms) based.none in
      let both : ◌≡◌ {A = Bool} true false = sym has ∙ off in
      absurd cc

  free-members : (held : List HeldMember) → AllByRecursion (IsHomed r.left.files s.files) held
      → AllByRecursion (λ (m : CatalogMember). of_member m.number r.left.undos ≡ []) (filter (is_in_file name) (map catalog_member held))
  free-members [] all = tt
  free-members (m ∷ held) all = by (bytes_eq m.file name) refl (free-members held all.1) where
    by : (b : Bool) → bytes_eq m.file name ≡ b → AllByRecursion (λ (x : CatalogMember). of_member x.number r.left.undos ≡ []) (filter (is_in_file name) (map catalog_member held))
        → AllByRecursion (λ (x : CatalogMember). of_member x.number r.left.undos ≡ [])
        (cond b (catalog_member m ∷ filter (is_in_file name) (map catalog_member held)) (filter (is_in_file name) (map catalog_member held)))
    by true is rest =
        (unused-free s r m.number (its-free file.spec (sound.library.bases name file there) unused m.number (sym (is-its m all.0) ∙ is)), rest)
    by false is rest = rest

  stands-kept : (m : HeldMember) → bytes_eq m.file name ≡ false → IsHomed r.left.files s.files m → MemberStands s.files s.members m → MemberStands files members m
  stands-kept m other home stands =
      let lacks : has_number m.number file.members ≡ false = sym (is-its m home) ∙ other in
      let same : member_of m.number members ≡ member_of m.number s.members = ap (λ (o : Option MemberState). unwrap_or o (empty_member 0)) (at-gone m.number file.members s.members lacks) in
      let slots = ap (λ (x : MemberState). x.slots) (sym same) in
      record {
        counted = stands.counted;
        status = stands.status;
        found = among-without m.number name file s.files sound.names there lacks ∙ stands.found;
        images = stands.images;
        journaled = λ on. stands.journaled on ∙ slots;
        ended = λ off. record { records_then = (stands.ended off).records_then; unchanged = λ so. (stands.ended off).unchanged so ∙ slots };
      }

  not-its : (m : HeldMember) → keep m ≡ true → bytes_eq m.file name ≡ false
  not-its m kept = by (bytes_eq m.file name) kept where
    by : (b : Bool) → not b ≡ true → b ≡ false
    by true h = absurd cc
    by false h = refl

  within : AllByRecursion (IsHeldWithin to) (filter keep r.left.members)
  within =
      each-filtered keep (IsHeldWithin to) r.left.members
      (each-both (IsHomed r.left.files s.files) (IsHeldWithin r.left) (λ (m : HeldMember). keep m ≡ true → IsHeldWithin to m) r.left.members
      (λ m home fits kept. within-less name r.left.files names-apart (left-plain s r) alone r.left to s.files m refl refl (not-its m kept) home fits) homed r.journal.within)

  module _ (described : described_files to.files ≡ map memberless files) where
    stands-then : StandsAs to files members s.next_member s.jobs
    stands-then = record {
      files_are = shown-less name r.left.files names-apart (left-plain s r) alone r.left.files s.files r.stands.files_are;
      described = described;
      fields_are = fields-less name r.left.files names-apart (left-plain s r) alone r.left.files s.files r.stands.files_are
          (keep-fields name r.left.files names-apart (left-plain s r) alone) r.stands.fields_are;
      members_are = members-less name r.left.members s.files r.stands.members_are;
      homes = each-filtered keep (λ (m : HeldMember). is_some (named m.file files) ≡ true) r.left.members
          (each-both (IsHomed r.left.files s.files) (λ (m : HeldMember). is_some (named m.file s.files) ≡ true) (λ (m : HeldMember). keep m ≡ true → is_some (named m.file files) ≡ true) r.left.members
          (λ m home some kept. ap is_some (named-without_other name m.file s.files (same_name-symm name m.file ∙ not-its m kept)) ∙ some) homed r.stands.homes);
      numbers = numbers-kept keep (stays_number file.members) r.left.members
          (each-both (IsHomed r.left.files s.files) (IsHomed r.left.files s.files) (λ (m : HeldMember). keep m ≡ stays_number file.members m.number) r.left.members
          (λ m home again. ap not (is-its m home)) homed homed)
          ∙ ap (filter (stays_number file.members)) r.stands.numbers ∙ sym (numbers-gone file.members s.members);
      next_is = r.stands.next_is;
      slots = each-filtered keep (MemberStands files members) r.left.members
          (each-both (IsHomed r.left.files s.files) (MemberStands s.files s.members) (λ (m : HeldMember). keep m ≡ true → MemberStands files members m) r.left.members
          (λ m home stands kept. stands-kept m (not-its m kept) home stands) homed r.stands.slots);
      cycles_are = cycles-later r.left.next r.left.cycles r.left.undos s.jobs r.stands.cycles_are;
    }

    gone-replayed : IsReplayed (after s (delete_change (memory_of s) job timestamp args file))
    gone-replayed =
        let over = catalog-named name r.left.files s.files file r.stands.files_are there in
        replays-kept s r (library_draft author (FileDeleted name) ∷ []) true Done (deleted args file (memory_of s)) to refl r.checkpoint refl
        (gone-may author name r.left r.whole (record { file = over.0; named = over.1; alone = alone }) (free-members r.left.members homed) within, sym (gone-after author name r.left)) refl stands-then

pub delete_file-replayed : (args : DeleteFile) → AreReplaysKeptBy (λ m job timestamp. delete_file m job timestamp args)
delete_file-replayed args s sound r job timestamp done running h =
    does-each (delete_change (memory_of s) job timestamp args) (delete_plan (memory_of s) args) done (λ c. IsReplayed (after s c)) h
    (λ file is.
    let its = delete-file s args file is in
    gone-replayed s r sound job timestamp args file its.0 its.2 (left-alone s r args.file its.1) (left-described s r args.file its.1))
