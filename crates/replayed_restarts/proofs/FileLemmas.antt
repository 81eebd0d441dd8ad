-- Each file of a journal that can be replayed is described beside those before it, whatever files were deleted.
use Rattle.std.proofs.Common.{◌≡◌, ℕ, ◌&&◌, ◌||◌, not, Bool, true, false, cond, inl, inr, Option, Some, Result, Ok, List, [], ◌∷◌, ◌++◌, refl, sym, ap, ◌∙◌, subst}
use Rattle.std.specs.List.{AllByRecursion, filter, list_any}
use Rattle.std.specs.Option.{option_and_then, option_map}
use Rattle.std.specs.Str.{bytes_eq}
use Rattle.std.proofs.lemmas.Bool.{or_parts}
use Rattle.std.proofs.lemmas.List.{append-nil}
use Rattle.std.proofs.lemmas.List.Elements.{filter-append}
use Rattle.std.proofs.Math.Seq.{append_snoc}
use Rattle.entry_codec.specs.declared.entries.Entry.{Entry}
use Rattle.entry_codec.specs.declared.kinds.EntryKind.{EntryKind}
use Rattle.entry_codec.specs.declared.kinds.EntryKind.TheVariants.{FileCreated, FileDeleted, MemberAdded, JournalingStarted, InitialSlot, JournalingEnded, MemberCleared, MemberReorganized, ChangesApplied, ChangesRemoved, RecordAdded, RecordAddedAtNumber, BeforeImage, AfterImage, RecordDeleted, UndoBeforeImage, UndoAfterImage, UndoDelete, CommitmentStarted, CommitCycleStarted, CommitCycleCommitted, CommitCycleRolledBack, CommitmentEnded, AbnormalEnd, NextReceiver, PreviousReceiver}
use Rattle.entry_codec.specs.declared.kinds.FileKind.{FileKind}
use Rattle.entry_codec.specs.declared.kinds.FileKind.TheVariants.{Physical, Logical}
use Rattle.record_fmt.specs.declared.formats.Format.{Format}
use Rattle.dds_source.specs.declared.faults.DdsFault.{DdsFault}
use Rattle.dds_source.specs.declared.specifications.Source.{Source}
use Rattle.dds_source.specs.Reading.{source_of}
use Rattle.dds_physical.specs.declared.physical_files.PhysicalSpec.{PhysicalSpec}
use Rattle.logical_model.specs.Bases.{FileSpec}
use Rattle.journal_model.specs.Catalogue.{Catalogue, CatalogFile, MayCreate, MayEnterAll, MayEnterBy, catalogue_after, catalogue_by, depends_on, empty_catalogue, is_named}
use Rattle.lawful_states.proofs.BaseLemmas.{some-of}
use Rattle.lawful_states.proofs.NameLemmas.{named-without_other, same_name-symm}
use Rattle.library_model.specs.Named.{Named, same_name}
use Rattle.library_steps.specs.CreateLogicalFile.{logical_by}
use Rattle.library_steps.specs.CreatePhysicalFile.{described_by}
use Rattle.library_steps.specs.DeleteFile.{without_file}
use Rattle.library_steps.specs.State.{FileState, physical_in}
use Rattle.restart_model.specs.Sources.{described_behind, described_files, descriptions, format_named, if_logical, if_physical, names_by, names_if, spec_beside, spec_named, with_described}
use Rattle.replayed_histories.proofs.DescribedLemmas.{IsBy, IsLogicalBy, IsPhysicalBy, described_state, kind-by}
use Rattle.replayed_histories.proofs.ReferenceLemmas.{NamesOnly, physical-stays}
use Rattle.replayed_histories.proofs.StableLemmas.{NotGone, all-free}
use Rattle.replayed_histories.proofs.ViewLemmas.{logical-same}
use Rattle.replayed_restarts.proofs.NamesLemmas.{names-back}

-- ---- each file is described beside those before it

abbrev pub AreDescribed : (before : Named FileState) → List CatalogFile → Named FileState → Type 0
AreDescribed before [] [] = Unit {0}
AreDescribed before [] (entry ∷ files) = ⊥
AreDescribed before (file ∷ catalog) [] = ⊥
AreDescribed before (file ∷ catalog) (entry ∷ files) =
    (◌≡◌ {A = List ℕ × FileState} entry (file.name, described_state file entry.1.spec)) × (spec_beside before file.kind file.source ≡ Some entry.1.spec)
    × AreDescribed (before ++ entry ∷ []) catalog files

pub described-is : (catalog : List CatalogFile) (before files : Named FileState) → AreDescribed before catalog files → described_behind before catalog ≡ before ++ files
described-is [] before [] are = sym (append-nil before)
described-is [] before (entry ∷ files) are = absurd are
described-is (file ∷ catalog) before [] are = absurd are
described-is (file ∷ catalog) before (entry ∷ files) are =
    ap (λ (o : Option FileSpec). described_behind (with_described file o before) catalog) are.1
    ∙ ap (λ (e : List ℕ × FileState). described_behind (before ++ e ∷ []) catalog) (sym are.0)
    ∙ described-is catalog (before ++ entry ∷ []) files are.2
    ∙ append_snoc before entry files

-- ---- a file more

described-push : (catalog : List CatalogFile) (before files : Named FileState) (new : CatalogFile) (spec : FileSpec) → AreDescribed before catalog files
    → spec_beside (before ++ files) new.kind new.source ≡ Some spec → AreDescribed before (catalog ++ new ∷ []) (files ++ (new.name, described_state new spec) ∷ [])
described-push [] before [] new spec are gives = (refl, subst (λ (b : Named FileState). spec_beside b new.kind new.source ≡ Some spec) (append-nil before) gives, tt)
described-push [] before (entry ∷ files) new spec are gives = absurd are
described-push (file ∷ catalog) before [] new spec are gives = absurd are
described-push (file ∷ catalog) before (entry ∷ files) new spec are gives = (
  are.0,
  are.1,
  described-push catalog (before ++ entry ∷ []) files new spec are.2 (subst (λ (b : Named FileState). spec_beside b new.kind new.source ≡ Some spec) (sym (append_snoc before entry files)) gives),
)

-- ---- a file less

each-not : (test : List ℕ → Bool) (names : List (List ℕ)) → list_any test names ≡ false → AllByRecursion (λ (n : List ℕ). test n ≡ false) names
each-not test [] none = tt
each-not test (n ∷ names) none = let parts = or_parts (test n) (list_any test names) none in (parts.0, each-not test names parts.1)

-- where the test is as said, the file is one of them or not
without-push : (name : List ℕ) (before : Named FileState) (new : List ℕ × FileState) (b : Bool) → same_name name new.0 ≡ b
    → without_file name (before ++ new ∷ []) ≡ without_file name before ++ cond (not b) (new ∷ []) []
without-push name before new b is =
    filter-append (λ (entry : List ℕ × FileState). not (same_name name entry.0)) before (new ∷ []) ∙ ap (λ (t : Bool). without_file name before ++ cond (not t) (new ∷ []) []) is

module _ (name : List ℕ) where
  spec-without : (before : Named FileState) (other : List ℕ) → NotGone name other → spec_named (without_file name before) other ≡ spec_named before other
  spec-without before other differs = ap (λ (o : Option FileState). option_and_then (λ (f : FileState). physical_in f.spec) o) (named-without_other name other before differs)

  -- one that doesn't depend on the file is described without it as it was
  module _ (before : Named FileState) (file : CatalogFile) (spec : FileSpec) (free : depends_on descriptions name file ≡ false) (differs : bytes_eq file.name name ≡ false) where
    physical-alike : file.kind ≡ Physical → IsPhysicalBy before file.source spec → spec_beside (without_file name before) Physical file.source ≡ Some spec
    physical-alike physical p =
        let only : NamesOnly (NotGone name) p.source = (all-free name (file ∷ []) (λ i. free i || false)).0 differs physical p.source p.read in
        ap (λ (r : Result Source DdsFault). if_physical (described_by (format_named (without_file name before)) r)) p.read
        ∙ ap if_physical (physical-stays (NotGone name) (format_named before) (format_named (without_file name before)) stay p.source p.its only p.gives)
        ∙ ap (λ (s : FileSpec). Some s) p.is
      where
        stay : (other : List ℕ) (format : Format) → NotGone name other → format_named before other ≡ Some format → format_named (without_file name before) other ≡ Some format
        stay other format not_gone e = ap (λ (o : Option PhysicalSpec). option_map (λ (p : PhysicalSpec). p.format) o) (spec-without before other not_gone) ∙ e

    logical-names : file.kind ≡ Logical → (source : Source) → source_of file.source ≡ Ok source → list_any (bytes_eq name) (names_by Logical source) ≡ false
    logical-names logical source read =
        ap (λ (r : Result Source DdsFault). list_any (bytes_eq name) (names_if Logical r)) (sym read)
        ∙ ap (λ (k : FileKind). list_any (bytes_eq name) (descriptions.names k file.source)) (sym logical)
        ∙ sym (ap (λ (b : Bool). not b && list_any (bytes_eq name) (descriptions.names file.kind file.source)) differs) ∙ free

    logical-alike : file.kind ≡ Logical → IsLogicalBy before file.source spec → spec_beside (without_file name before) Logical file.source ≡ Some spec
    logical-alike logical l =
        let alike = names-back (λ other. spec_named (without_file name before) other ≡ spec_named before other) (spec_named before) l.source l.its l.gives
        (each-alike (names_by Logical l.source) (each-not (bytes_eq name) (names_by Logical l.source) (logical-names logical l.source l.read))) in
        ap (λ (r : Result Source DdsFault). if_logical (logical_by (spec_named (without_file name before)) r)) l.read
        ∙ ap if_logical (logical-same (spec_named before) (spec_named (without_file name before)) l.source alike ∙ l.gives)
        ∙ ap (λ (s : FileSpec). Some s) l.is
      where
        each-alike : (names : List (List ℕ)) → AllByRecursion (NotGone name) names → AllByRecursion (λ other. spec_named (without_file name before) other ≡ spec_named before other) names
        each-alike [] all = tt
        each-alike (other ∷ names) all = (spec-without before other all.0, each-alike names all.1)

    described-alike : spec_beside before file.kind file.source ≡ Some spec → spec_beside (without_file name before) file.kind file.source ≡ Some spec
    described-alike made = by (kind-by before file.kind file.source spec made) where
      by : IsBy before file.kind file.source spec → spec_beside (without_file name before) file.kind file.source ≡ Some spec
      by (inl p) = ap (λ (k : FileKind). spec_beside (without_file name before) k file.source) p.0 ∙ physical-alike p.0 p.1
      by (inr l) = ap (λ (k : FileKind). spec_beside (without_file name before) k file.source) l.0 ∙ logical-alike l.0 l.1

  abbrev stays : CatalogFile → Bool
  stays file = not (is_named name file)

  described-less : (catalog : List CatalogFile) (before files : Named FileState) → AreDescribed before catalog files → list_any (depends_on descriptions name) catalog ≡ false
      → AreDescribed (without_file name before) (filter stays catalog) (without_file name files)
  described-less [] before [] are alone = tt
  described-less [] before (entry ∷ files) are alone = absurd are
  described-less (file ∷ catalog) before [] are alone = absurd are
  described-less (file ∷ catalog) before (entry ∷ files) are alone =
      subst (λ (b : Bool). AreDescribed (without_file name before) (cond (not (is_named name file)) (file ∷ filter stays catalog) (filter stays catalog))
      (cond (not b) (entry ∷ without_file name files) (without_file name files))) same-test
      (by (is_named name file) refl (described-less catalog (before ++ entry ∷ []) files are.2 frees.1))
    where
      frees : (depends_on descriptions name file ≡ false) × (list_any (depends_on descriptions name) catalog ≡ false)
      frees = or_parts (depends_on descriptions name file) (list_any (depends_on descriptions name) catalog) alone

      same-test : is_named name file ≡ same_name name entry.0
      same-test = same_name-symm file.name name ∙ ap (λ (e : List ℕ × FileState). same_name name e.0) (sym are.0)

      by : (b : Bool) → is_named name file ≡ b → AreDescribed (without_file name (before ++ entry ∷ [])) (filter stays catalog) (without_file name files)
          → AreDescribed (without_file name before) (cond (not b) (file ∷ filter stays catalog) (filter stays catalog)) (cond (not b) (entry ∷ without_file name files) (without_file name files))
      by true is rest =
          subst (λ (w : Named FileState). AreDescribed w (filter stays catalog) (without_file name files))
          (without-push name before entry true (sym same-test ∙ is) ∙ append-nil (without_file name before)) rest
      by false is rest = (
        are.0,
        described-alike before file entry.1.spec frees.0 is are.1,
        subst (λ (w : Named FileState). AreDescribed w (filter stays catalog) (without_file name files)) (without-push name before entry false (sym same-test ∙ is)) rest,
      )

-- ---- an entry more

pub record IsDescribed (catalog : List CatalogFile) : Type 0 where
  pub files : Named FileState
  pub are : AreDescribed [] catalog files

pub whole-is : (catalog : List CatalogFile) (d : IsDescribed catalog) → described_files catalog ≡ d.files
whole-is catalog d = described-is catalog [] d.files d.are

created-described : (c : Catalogue) → IsDescribed c.files → (kind : FileKind) (name source : List ℕ) (e : Entry) → MayCreate descriptions kind name source e c
    → IsDescribed (c.files ++ record { created = e.sequence; kind = kind; name = name; source = source } ∷ [])
created-described c d kind name source e may =
    let its = some-of (spec_beside (described_files c.files) kind source) may.accepted in
    let new : CatalogFile = record { created = e.sequence; kind = kind; name = name; source = source } in record {
      files = d.files ++ (name, described_state new its.0) ∷ [];
      are = described-push c.files [] d.files new its.0 d.are (subst (λ (b : Named FileState). spec_beside b kind source ≡ Some its.0) (whole-is c.files d) its.1);
    }

entry-described : (kind : EntryKind) (e : Entry) (c : Catalogue) → IsDescribed c.files → MayEnterBy descriptions kind e c → IsDescribed (catalogue_by kind e c).files
entry-described (FileCreated Physical name source) e c d may = created-described c d Physical name source e may
entry-described (FileCreated Logical name source) e c d may = created-described c d Logical name source e may
entry-described (FileDeleted name) e c d may = record { files = without_file name d.files; are = described-less name c.files [] d.files d.are may.alone }
entry-described (MemberAdded file name) e c d may = d
entry-described (JournalingStarted images slots) e c d may = d
entry-described (InitialSlot image) e c d may = d
entry-described JournalingEnded e c d may = d
entry-described MemberCleared e c d may = d
entry-described MemberReorganized e c d may = d
entry-described (ChangesApplied first last changes) e c d may = d
entry-described (ChangesRemoved first last changes) e c d may = d
entry-described (RecordAdded image) e c d may = d
entry-described (RecordAddedAtNumber image) e c d may = d
entry-described (BeforeImage image) e c d may = d
entry-described (AfterImage has_before image) e c d may = d
entry-described (RecordDeleted before) e c d may = d
entry-described (UndoBeforeImage image) e c d may = d
entry-described (UndoAfterImage has_before image) e c d may = d
entry-described (UndoDelete image) e c d may = d
entry-described (CommitmentStarted level) e c d may = d
entry-described CommitCycleStarted e c d may = d
entry-described CommitCycleCommitted e c d may = d
entry-described CommitCycleRolledBack e c d may = d
entry-described CommitmentEnded e c d may = d
entry-described AbnormalEnd e c d may = d
entry-described (NextReceiver number) e c d may = d
entry-described (PreviousReceiver number) e c d may = d

pub entries-described : (entries : List Entry) (c : Catalogue) → IsDescribed c.files → MayEnterAll descriptions c entries → IsDescribed (catalogue_after c entries).files
entries-described [] c d may = d
entries-described (e ∷ entries) c d may = entries-described entries (catalogue_by e.kind e c) (entry-described e.kind e c d may.0) may.1

pub nothing-described : IsDescribed empty_catalogue.files
nothing-described = record { files = []; are = tt }
