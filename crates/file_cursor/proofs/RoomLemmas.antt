-- How many bytes the keys of a path have.
use Rattle.std.proofs.Common.{◌≡◌, ℕ, ◌+◌, ◌≤◌, List, [], ◌∷◌, length, map, ap, ◌∙◌, arith}
use Rattle.std.specs.Prelude.{All}
use Rattle.std.specs.List.{AllByRecursion}
use Rattle.std.proofs.lemmas.List.Elements.{All-from_recursion, recursion_from_All}
use Rattle.key_spec.specs.declared.KeyPart.{KeyPart}
use Rattle.member_slots.specs.Members.{NumberedMembers, member_of}
use Rattle.file_model.specs.declared.paths.PathFormat.{PathFormat}
use Rattle.file_model.specs.declared.paths.PathSpec.{PathSpec}
use Rattle.file_model.specs.Views.{view_of}
use Rattle.file_model.specs.Paths as paths
use Rattle.file_model.specs.Paths.{PathEntry, compare_entries, entry_of, selected_of, path, path_key}
use Rattle.file_model.proofs.PathLemmas.{weaker, all-map, all-append}
use Rattle.access_path.specs.KeyBytes.{key_bytes}
use Rattle.access_path.specs.KeyFields.{HasKey, key_width}
use Rattle.access_path.proofs.WidthLemmas.{length-encoded}
use Rattle.access_path.specs.PathBytes.{parts_of, in_bytes}
use Rattle.access_path.proofs.OrderedLemmas.{all-in_order}
use Rattle.file_cursor.specs.PositionBytes.{HasKeysWithin}
use Rattle.file_cursor.proofs.EntryLemmas.{AreParts, parts-from}

module _ (most : ℕ) (formats : List PathFormat) (members : NumberedMembers) where
  abbrev IsWithin : PathEntry → Type 0
  IsWithin e = length (key_bytes (parts_of formats e.format) e.key) ≤ most

  of-format : (number : ℕ) (format : PathFormat) → parts_of formats number ≡ format.key → HasKeysWithin most members format
      → AllByRecursion IsWithin (paths.entries_of number format members)
  of-format number format own has =
      let low = has.width in
      all-map IsWithin (entry_of number format) (selected_of format (member_of format.member members).slots)
      (weaker (λ pair. HasKey format.key (view_of format.fields pair.1)) (λ pair. IsWithin (entry_of number format pair))
      (λ pair key.
      let long : length (key_bytes (parts_of formats number) (path_key format pair.1)) ≡ key_width format.key =
      ap (λ (parts : List KeyPart). length (key_bytes parts (path_key format pair.1))) own ∙ length-encoded format.key (view_of format.fields pair.1) key in
      omega (arith, long, low))
      (selected_of format (member_of format.member members).slots)
      (recursion_from_All (λ pair. HasKey format.key (view_of format.fields pair.1)) (selected_of format (member_of format.member members).slots) has.keys))

  pub of-formats : (number : ℕ) (others : List PathFormat) → AreParts formats members number others → AllByRecursion (HasKeysWithin most members) others
      → AllByRecursion IsWithin (paths.entries_from number others members)
  of-formats number [] own has = tt
  of-formats number (format ∷ others) own has =
      all-append IsWithin (paths.entries_of number format members) (paths.entries_from (number + 1) others members)
      (of-format number format own.0 has.0)
      (of-formats (number + 1) others own.1 has.1)

pub keys-fit : (most : ℕ) (spec : PathSpec) (members : NumberedMembers) → All (HasKeysWithin most members) spec.formats
    → All (λ entry. length entry.key ≤ most) (map (in_bytes spec.formats) (path spec members))
keys-fit most spec members has =
    All-from_recursion (λ entry. length entry.key ≤ most) (map (in_bytes spec.formats) (path spec members))
    (all-map (λ entry. length entry.key ≤ most) (in_bytes spec.formats) (path spec members)
    (all-in_order (compare_entries spec.ties) (λ e. length (key_bytes (parts_of spec.formats e.format) e.key) ≤ most) (paths.entries_from 0 spec.formats members)
    (of-formats most spec.formats members 0 spec.formats
    (parts-from spec.formats members 0 spec.formats (λ k. ap (parts_of spec.formats) (let e : 0 + k ≡ k = omega arith in e)))
    (recursion_from_All (HasKeysWithin most members) spec.formats has))))
