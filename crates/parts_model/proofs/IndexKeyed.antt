-- The keys of all physical files are by their fields still, with a file or a member more, a file less, or a status changed; and a library with nothing in it.
use Rattle.std.proofs.Common.{ℕ, ◌≡◌, ◌⊎◌, inl, inr, true, false, cond, List, [], ◌∷◌, ◌++◌, map, Some, refl, sym, ap, arith, ◌∙◌, subst}
use Rattle.std.specs.List.{AllByRecursion}
use Rattle.std.specs.Option.{option_map}
use Rattle.library_steps.below.dds_physical.specs.declared.physical_files.PhysicalSpec.{PhysicalSpec}
use Rattle.library_steps.specs.Bases.{FileSpec, PhysicalFile}
use Rattle.file_catalogue.specs.KeyedFiles.{IsKeyed}
use Rattle.lawful_states.specs.Statuses.{after}
use Rattle.lawful_states.specs.declared.changes.StatusChange.{StatusChange}
use Rattle.lawful_states.proofs.ChangeLemmas.{changed-from, named-each_changed, named-file_changed}
use Rattle.lawful_states.proofs.NameLemmas.{named-append, named-without, some-equal}
use Rattle.library_model.specs.Named.{Named, named, same_name}
use Rattle.library_steps.specs.DeleteFile.{without_file}
use Rattle.library_steps.specs.MemberCommands.{file_changed, with_member_name}
use Rattle.library_steps.specs.State.{FileState, status_changed}
use Rattle.library_paths.proofs.KeptLemmas.{none-kept}
use Rattle.parts_model.specs.Indexed.{IsIndexed}
use Rattle.parts_model.specs.Keyed.{IsKeyedFile, AllAreKeyed}

-- a library with nothing in it
pub IsIndexed-empty : IsIndexed [] [] [] [] [] (record { paths = []; rooms = [] })
IsIndexed-empty = record {
  paths = none-kept [];
  orders = tt;
  moves = refl;
  room = λ k d low. absurd (omega (arith, low));
  bytes = tt;
  views = tt;
}

pub AllAreKeyed-empty : AllAreKeyed []
AllAreKeyed-empty name file spec there is = absurd cc

-- a file more
pub AllAreKeyed-with_file : (files : Named FileState) (name : List ℕ) (file : FileState) → IsKeyedFile file.spec → AllAreKeyed files → AllAreKeyed (files ++ (name, file) ∷ [])
AllAreKeyed-with_file files name file own keyed other another spec there is = by (named-append other name files file another there)
  where
    by : (named other files ≡ Some another) ⊎ ((other ≡ name) × (file ≡ another)) → IsKeyed spec
    by (inl here) = keyed other another spec here is
    by (inr same) = own spec (ap (λ (f : FileState). f.spec) same.1 ∙ is)

-- all files changed in what doesn't tell what they are
keyed-each : (change : FileState → FileState) → ((file : FileState) → (change file).spec ≡ file.spec) → (files : Named FileState) → AllAreKeyed files
    → AllAreKeyed (map (λ entry. (entry.0, change entry.1)) files)
keyed-each change same files keyed name file spec there is =
    let was = changed-from change (named name files) file (sym (named-each_changed name change files) ∙ there) in
    keyed name was.0 spec was.1 (sym (same was.0) ∙ ap (λ (f : FileState). f.spec) was.2 ∙ is)

pub AllAreKeyed-status : (files : Named FileState) (number : ℕ) (change : StatusChange) → AllAreKeyed files → AllAreKeyed (map (λ entry. (entry.0, status_changed number (after change) entry.1)) files)
AllAreKeyed-status files number change keyed = keyed-each (status_changed number (after change)) (λ file. refl) files keyed

-- a member more
pub AllAreKeyed-with_member : (files : Named FileState) (name member : List ℕ) (number : ℕ) → AllAreKeyed files → AllAreKeyed (file_changed name (with_member_name member number) files)
AllAreKeyed-with_member files name member number keyed other another spec there is =
    elim (same_name name other) as (λ b. cond b (option_map (with_member_name member number) (named other files)) (named other files) ≡ Some another → IsKeyed spec) [
      | true ↦ λ e. (let was = changed-from (with_member_name member number) (named other files) another e in
          keyed other was.0 spec was.1 (ap (λ (f : FileState). f.spec) was.2 ∙ is))
      | false ↦ λ e. keyed other another spec e is
    ] (sym (named-file_changed name other (with_member_name member number) files) ∙ there)

-- a file less
pub AllAreKeyed-without_file : (files : Named FileState) (name : List ℕ) → AllAreKeyed files → AllAreKeyed (without_file name files)
AllAreKeyed-without_file files name keyed other another spec there is = keyed other another spec (named-without name other files another there).0 is

-- whatever says it of each file
pub keyed-from : (P : FileSpec → Type 0) → ((spec : PhysicalSpec) → P (PhysicalFile spec) → IsKeyed spec) → (files : Named FileState) → AllByRecursion (λ (entry : List ℕ × FileState). P entry.1.spec) files
    → AllAreKeyed files
keyed-from P each [] all name file spec there is = absurd cc
keyed-from P each (entry ∷ files) all name file spec there is =
    elim (same_name name entry.0) as (λ b. cond b (Some entry.1) (named name files) ≡ Some file → IsKeyed spec) [
      | true ↦ λ e. each spec (subst P (ap (λ (f : FileState). f.spec) (some-equal e) ∙ is) all.0)
      | false ↦ λ e. keyed-from P each files all.1 name file spec e is
    ] there
