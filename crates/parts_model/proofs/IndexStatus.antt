-- The kept paths are those of a library still, when files change in what doesn't tell their paths.
use Rattle.std.proofs.Common.{◌≡◌, ℕ, List, [], ◌∷◌, map, Some, refl, ap, sym, subst}
use Rattle.library_steps.below.dds_logical.specs.declared.views.View.{View}
use Rattle.std.specs.List.{AllByRecursion}
use Rattle.member_slots.specs.Members.{NumberedMembers}
use Rattle.library_steps.below.dds_logical.specs.declared.views.LogicalSpec.{LogicalSpec}
use Rattle.library_steps.below.dds_logical.specs.declared.views.LogicalSpec.TheVariants.{Simple, Multi, Join}
use Rattle.library_steps.specs.Bases.{Base, Bases, FileSpec, PhysicalFile, LogicalFile, base_names}
use Rattle.library_paths.specs.Mapped.{AreSameBases}
use Rattle.library_paths.proofs.SameLemmas.{same-mapped}
use Rattle.view_records.specs.KeyedViews.{IsKeyedView, IsViewOver, IsFileOver, IsKeyedFile, IsKeyedJoin, IsPartOver}
use Rattle.library_paths.specs.AllPaths.{all_paths, count_in}
use Rattle.library_paths.proofs.BaseLemmas.{AllAlike, AreAlike, all-alike-status}
use Rattle.library_paths.proofs.NameLemmas.{each-named}
use Rattle.library_paths.proofs.PathsLemmas.{paths-status}
use Rattle.path_set.specs.declared.moves.PathMove.{PathMove}
use Rattle.path_set.specs.KeptPaths.{KeptPaths}
use Rattle.lawful_states.specs.Statuses.{after}
use Rattle.lawful_states.specs.declared.changes.StatusChange.{StatusChange}
use Rattle.lawful_states.proofs.StatusLemmas.{after-number}
use Rattle.job_table.specs.Opens.{OpenOrder}
use Rattle.library_model.specs.Named.{Named, named}
use Rattle.library_steps.specs.LogicalFiles.{bases_in}
use Rattle.library_steps.specs.State.{FileState, JobState, status_changed}
use Rattle.parts_model.specs.Indexed.{AreSameBasesBy, AreViewsBeside, IsIndexed, IsView, IsViewBeside}
use Rattle.lawful_states.proofs.BaseLemmas.{IsKept, Keeps-status, kept-each}
use Rattle.parts_model.proofs.IndexPaths.{FilesStay}
use Rattle.parts_model.proofs.IndexShared.{IsIndexed-files, opens-stay}
use Rattle.library_steps.below.dds_logical.specs.declared.join_views.JoinView.{JoinView}
use Rattle.library_steps.below.dds_logical.specs.declared.join_views.JoinedFile.{JoinedFile}
use Rattle.record_fmt.specs.Layout.{IsLaidOut}
use Rattle.view_records.specs.Steps.{shown_in_join}
use Rattle.join_records.proofs.SameLemmas.{same-linked}

-- ---- files whose bases are what they were

turned-names : (bases other : Bases) (names : List (List ℕ)) → AllByRecursion (λ name. other name ≡ bases name) names → AllByRecursion (λ name. bases name ≡ other name) names
turned-names bases other [] all = tt
turned-names bases other (name ∷ names) all = (sym all.0, turned-names bases other names all.1)

pub turned-bases : (bases other : Bases) (spec : FileSpec) → AreAlike other bases spec → AreSameBasesBy bases other spec
turned-bases bases other (PhysicalFile spec) alike = tt
turned-bases bases other (LogicalFile spec) alike = turned-names bases other (base_names spec) alike

pub files-alike : (files others : Named FileState) → AllAlike files others files → ((name : List ℕ) (file : FileState) → named name files ≡ Some file → IsKept others name file) → FilesStay files others
files-alike files others alike kept name file here = record {
  kept = kept name file here;
  bases = turned-bases (bases_in files) (bases_in others) file.spec
      (each-named (λ (n : List ℕ) (f : FileState). AreAlike (bases_in others) (bases_in files) f.spec) name files file alike here);
}

-- ---- logical files beside them

views-keyed : (bases other : Bases) (views : List View) → AreSameBases bases other (Multi views) → AllByRecursion (IsViewOver bases) views → AllByRecursion (IsViewOver other) views
views-keyed bases other [] same all = tt
views-keyed bases other (view ∷ views) same all = (subst (λ (b : Base). IsKeyedView b.fields view) same.0 all.0, views-keyed bases other views same.1 all.1)

files-keyed : (bases other : Bases) (files : List JoinedFile) → AllByRecursion (λ name. bases name ≡ other name) (map (λ joined. joined.file) files) → AllByRecursion (IsFileOver bases) files
    → AllByRecursion (IsFileOver other) files
files-keyed bases other [] same all = tt
files-keyed bases other (joined ∷ files) same all = (subst (λ (b : Base). IsKeyedFile b.fields joined) same.0 all.0, files-keyed bases other files same.1 all.1)

join-keyed : (bases other : Bases) (view : JoinView) → AreSameBases bases other (Join view) → IsKeyedJoin bases view → IsKeyedJoin other view
join-keyed bases other view same is = record {
  laid = subst (λ (b : Base). IsLaidOut b.fields) same.0 is.laid;
  parts = subst (λ (b : Base). AllByRecursion (IsPartOver b.fields (shown_in_join view.fields)) view.keys.parts) same.0 is.parts;
  few = is.few;
  secondaries = files-keyed bases other view.secondaries same.1 is.secondaries;
}

view-alike : (bases other : Bases) (spec : LogicalSpec) → AreSameBases bases other spec → IsView bases spec → IsView other spec
view-alike bases other (Simple view) same is = record {
  some = is.some;
  several = is.several;
  keyed = subst (λ (b : Base). IsKeyedView b.fields view) same.0 is.keyed;
  mapped = same-mapped bases other (Simple view) same is.mapped;
  rises = is.rises;
  formats = is.formats;
  bytes = is.bytes;
  linked = tt;
}
view-alike bases other (Multi views) same is = record {
  some = is.some;
  several = is.several;
  keyed = record { each = views-keyed bases other views same is.keyed.each; few = is.keyed.few; match = is.keyed.match };
  mapped = same-mapped bases other (Multi views) same is.mapped;
  rises = is.rises;
  formats = is.formats;
  bytes = is.bytes;
  linked = tt;
}
view-alike bases other (Join view) same is = record {
  some = is.some;
  several = is.several;
  keyed = join-keyed bases other view same is.keyed;
  mapped = tt;
  rises = is.rises;
  formats = is.formats;
  bytes = is.bytes;
  linked = same-linked bases other (Join view) same is.linked;
}

pub beside-alike : (files others : Named FileState) (spec : FileSpec) → AreAlike (bases_in others) (bases_in files) spec → IsViewBeside files spec → IsViewBeside others spec
beside-alike files others (PhysicalFile spec) alike is = tt
beside-alike files others (LogicalFile spec) alike is =
    view-alike (bases_in files) (bases_in others) spec (turned-bases (bases_in files) (bases_in others) (LogicalFile spec) alike) is

pub views-alike : (files others some : Named FileState) → AllAlike files others some → AreViewsBeside files some → AreViewsBeside others some
views-alike files others [] alike views = tt
views-alike files others (entry ∷ some) alike views = (beside-alike files others entry.1.spec alike.0 views.0, views-alike files others some alike.1 views.1)

-- files changed in what doesn't tell what they are
pub views-each : (change : FileState → FileState) → ((file : FileState) → (change file).spec ≡ file.spec) → (all files : Named FileState) → AreViewsBeside all files
    → AreViewsBeside all (map (λ entry. (entry.0, change entry.1)) files)
views-each change same all [] views = tt
views-each change same all (entry ∷ files) views = (subst (IsViewBeside all) (sym (same entry.1)) views.0, views-each change same all files views.1)

-- ---- the status of a member changed

pub IsIndexed-status : (files : Named FileState) (members : NumberedMembers) (jobs : List JobState) (orders : List (Named OpenOrder)) (moves : List (List (List PathMove))) (kept : KeptPaths)
    (number : ℕ) (change : StatusChange) → IsIndexed files members jobs orders moves kept
    → IsIndexed (map (λ entry. (entry.0, status_changed number (after change) entry.1)) files) members jobs orders moves kept
IsIndexed-status files members jobs orders moves kept number change indexed =
    IsIndexed-files (all_paths files) files members jobs orders moves (all_paths others) others kept
    (opens-stay files others
    (files-alike files others (all-alike-status number (after change) (after-number change) files files)
    (kept-each (status_changed number (after change)) (Keeps-status number (after change) (after-number change)) files)) jobs)
    (views-alike files others others (all-alike-status number (after change) (after-number change) files others)
    (views-each (status_changed number (after change)) (λ file. refl) files files indexed.views))
    (λ path. ap (count_in path) (sym (paths-status number (after change) (after-number change) files))) indexed
  where
    others : Named FileState
    others = map (λ entry. (entry.0, status_changed number (after change) entry.1)) files
