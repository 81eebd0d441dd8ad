-- Files by their places, the last one first.
use Rattle.std.proofs.Common.{◌≡◌, ◌<◌, ◌≤◌, ℕ, ◌+◌, if◌then◌else◌, Bool, true, false, Option, Some, None, List, [], ◌∷◌, ◌++◌, length, take, drop, get_or, refl, sym, ◌∙◌, ap, arith, append_assoc}
use Rattle.std.specs.Prelude.{reverse, slice_get}
use Rattle.std.specs.List.{cons_option}
use Rattle.std.proofs.lemmas.List.{append-nil, drop_all, drop_more, reverse-append, take_all, take_more}
use Rattle.std.proofs.lemmas.List.Elements.{filter_map-append}
use Rattle.std.proofs.lemmas.Option.{get_or_from_slice_get, slice_get-get_or, slice_get_within}
use Rattle.entry_codec.specs.declared.kinds.FileKind.{FileKind}
use Rattle.entry_codec.specs.declared.kinds.FileKind.TheVariants.{Physical, Logical}
use Rattle.dds_source.specs.declared.specifications.Source.{Source}
use Rattle.journal_model.specs.Catalogue.{CatalogFile}
use Rattle.journal_replay.specs.Tests.{is_physical}
use Rattle.library_model.specs.Named.{Named}
use Rattle.library_steps.specs.State.{FileState}
use Rattle.named_bases.specs.Sources.{described_behind}
use Rattle.described_journals.specs.Files.{described_upon}
use Rattle.described_journals.specs.Needed.{found, found_before, if_records, is_wanted, needed, with_source}
use Rattle.described_journals.proofs.FileLemmas.{upon-append}

module _ (files : List CatalogFile) (place : ℕ) (file : CatalogFile) (there : slice_get files place ≡ Some file) where
  place-first : reverse (take (place + 1) files) ≡ file ∷ reverse (take place files)
  place-first =
      ap reverse (take_more files place file (slice_get_within files place file there) ∙ ap (λ (x : CatalogFile). take place files ++ x ∷ []) (get_or_from_slice_get files place file file there))
      ∙ reverse-append (take place files) (file ∷ [])

  -- it isn't named
  pub place-passed : (places : List ℕ) (wanted : List Source) → is_wanted file.name wanted ≡ false
      → found_before files places (needed (reverse (take (place + 1) files)) wanted) ≡ found_before files places (needed (reverse (take place files)) wanted)
  place-passed places wanted passes =
      ap (λ (fs : List CatalogFile). found_before files places (needed fs wanted)) place-first
      ∙ ap (λ (b : Bool). found_before files places
      (if b then if_records file.kind file (needed (reverse (take place files)) (with_source file.source wanted)) else needed (reverse (take place files)) wanted)) passes

  named-there : (wanted : List Source) → is_wanted file.name wanted ≡ true
      → needed (reverse (take (place + 1) files)) wanted ≡ if_records file.kind file (needed (reverse (take place files)) (with_source file.source wanted))
  named-there wanted wants =
      ap (λ (fs : List CatalogFile). needed fs wanted) place-first
      ∙ ap (λ (b : Bool). if b then if_records file.kind file (needed (reverse (take place files)) (with_source file.source wanted)) else needed (reverse (take place files)) wanted) wants

  found-one : (places : List ℕ) (more : List CatalogFile) → found files places ++ file ∷ more ≡ found files (places ++ place ∷ []) ++ more
  found-one places more =
      sym (append_assoc (found files places) (file ∷ []) more)
      ∙ ap (λ (o : Option CatalogFile). (found files places ++ cons_option o []) ++ more) (sym there)
      ∙ ap (λ (l : List CatalogFile). l ++ more) (sym (filter_map-append (slice_get files) places (place ∷ [])))

  before-one : (places : List ℕ) (o : Option (List CatalogFile)) → found_before files places (if_records Physical file o) ≡ found_before files (places ++ place ∷ []) o
  before-one places None = refl
  before-one places (Some more) = ap (λ (l : List CatalogFile). Some l) (found-one places more)

  physical-kind : (kind : FileKind) (o : Option (List CatalogFile)) → is_physical kind ≡ true → if_records kind file o ≡ if_records Physical file o
  physical-kind Physical o is = refl
  physical-kind Logical o is = absurd cc

  logical-kind : (kind : FileKind) (o : Option (List CatalogFile)) → is_physical kind ≡ false → if_records kind file o ≡ None
  logical-kind Physical o is = absurd cc
  logical-kind Logical o is = refl

  -- it is named, and physical
  pub place-taken : (places : List ℕ) (wanted : List Source) → is_wanted file.name wanted ≡ true → is_physical file.kind ≡ true
      → found_before files places (needed (reverse (take (place + 1) files)) wanted) ≡ found_before files (places ++ place ∷ []) (needed (reverse (take place files)) (with_source file.source wanted))
  place-taken places wanted wants physical =
      ap (found_before files places) (named-there wanted wants ∙ physical-kind file.kind (needed (reverse (take place files)) (with_source file.source wanted)) physical)
      ∙ before-one places (needed (reverse (take place files)) (with_source file.source wanted))

  -- it is named, and isn't
  pub place-stops : (wanted : List Source) → is_wanted file.name wanted ≡ true → is_physical file.kind ≡ false → needed (reverse (take (place + 1) files)) wanted ≡ None
  place-stops wanted wants logical = named-there wanted wants ∙ logical-kind file.kind (needed (reverse (take place files)) (with_source file.source wanted)) logical

-- there is no such place
pub no-place : (files : List CatalogFile) (place : ℕ) → place < length files → slice_get files place ≡ None → ⊥
no-place [] place below none = absurd (omega (arith, below))
no-place (file ∷ files) place below none = by (slice_get (file ∷ files) place) (slice_get-get_or (file ∷ files) place file below) none
  where
    by : (o : Option CatalogFile) → o ≡ Some (get_or (file ∷ files) place file) → o ≡ None → ⊥
    by None some h = absurd cc
    by (Some x) some h = absurd cc

-- ---- before the first place, and behind the last

pub places-begin : (files : List CatalogFile) (count : ℕ) (wanted : List Source) → count ≡ length files
    → found_before files [] (needed (reverse (take count files)) wanted) ≡ needed (reverse files) wanted
places-begin files count wanted all =
    ap (λ (fs : List CatalogFile). found_before files [] (needed (reverse fs) wanted)) (take_all count files (omega (arith, all))) ∙ none (needed (reverse files) wanted)
  where
    none : (o : Option (List CatalogFile)) → found_before files [] o ≡ o
    none None = refl
    none (Some more) = refl

pub places-end : (files : List CatalogFile) (places : List ℕ) (all : Option (List CatalogFile)) → found_before files places (Some []) ≡ all → Some (found files places) ≡ all
places-end files places all is = ap (λ (l : List CatalogFile). Some l) (sym (append-nil (found files places))) ∙ is

-- ---- described one after the other

pub upon-popped : (files : List CatalogFile) (before : Named FileState) (places rest : List ℕ) (place : ℕ) → places ≡ rest ++ place ∷ []
    → described_upon before (found files places) ≡ described_upon (described_upon before (found files (place ∷ []))) (found files rest)
upon-popped files before places rest place is =
    ap (λ (ps : List ℕ). described_upon before (found files ps)) is
    ∙ ap (described_upon before) (filter_map-append (slice_get files) rest (place ∷ []))
    ∙ upon-append before (found files rest) (found files (place ∷ []))

pub behind-next : (files : List CatalogFile) (place : ℕ) (now next all : Named FileState) → place < length files → next ≡ described_upon now (found files (place ∷ []))
    → described_behind now (drop place files) ≡ all → described_behind next (drop (place + 1) files) ≡ all
behind-next files place now next all below is so_far = by (slice_get files place) refl
  where
    by : (o : Option CatalogFile) → slice_get files place ≡ o → described_behind next (drop (place + 1) files) ≡ all
    by None none = absurd (no-place files place below none)
    by (Some file) there =
        ap (λ (before : Named FileState). described_behind before (drop (place + 1) files)) (is ∙ ap (λ (o : Option CatalogFile). described_upon now (cons_option o [])) there)
        ∙ ap (described_behind now) (sym (drop_more files place file below ∙ ap (λ (x : CatalogFile). x ∷ drop (place + 1) files) (get_or_from_slice_get files place file file there)))
        ∙ so_far

pub behind-end : (files : List CatalogFile) (place count : ℕ) (now all : Named FileState) → count ≡ length files → count ≤ place → described_behind now (drop place files) ≡ all → now ≡ all
behind-end files place count now all long past so_far = ap (described_behind now) (sym (drop_all place files (omega (arith, long, past)))) ∙ so_far
