-- What settling keeps stands for the row that was found.
use Rattle.std.proofs.Common.{◌≡◌, ℕ, suc, Option, Some, None, List, [], ◌∷◌, length, map, refl, sym, ◌∙◌, ap}
use Rattle.key_spec.specs.declared.KeyPart.{KeyPart}
use Rattle.member_slots.specs.Members.{NumberedMembers, member_of}
use Rattle.file_model.specs.declared.joins.Secondary.{Secondary}
use Rattle.file_model.specs.KeyOrder.{KeyValue, key_value}
use Rattle.file_model.specs.declared.joins.JoinSpec.{JoinSpec}
use Rattle.file_model.specs.Joins.{Match, RecordAt}
use Rattle.file_model.specs.Positions.{On}
use Rattle.join_rows.specs.Numbers.{image_at, matched_number}
use Rattle.join_rows.specs.declared.rows.Row.{Row}
use Rattle.open_position.specs.KeyValues.{values_in}
use Rattle.join_position.specs.declared.position.Stand.{Stand}
use Rattle.join_position.specs.declared.position.Stand.TheVariants as stands
use Rattle.join_position.specs.RowStand.{JoinStand}
use Rattle.join_position.specs.Kept.{MatchKept, match_in, number_kept, numbers_kept, stand_of}
use Rattle.join_position.specs.RowReads.{IsNumber, AreNumbers, CanBeKept, matches_by, place_of}
use Rattle.join_position.proofs.BackLemmas.{sequence-back}
use Rattle.join_position.proofs.PlaceLemmas.{no-cons, cons-no, same-first, same-rest}

module _ (members : NumberedMembers) where
  one-kept : (file : Secondary) (n : Option ℕ) (m : MatchKept) → file.sequence ≡ m.part → IsNumber members file n → match_in (number_kept members file n m) ≡ (matched_number file members n).match
  one-kept file None m same there = refl
  one-kept file (Some rrn) m same there =
      ap (λ (v : KeyValue). RecordAt v rrn)
      (sequence-back m.part (image_at (member_of file.member members) rrn) there.2.bytes ∙ ap (λ (p : KeyPart). key_value p (image_at (member_of file.member members) rrn)) (sym same))

  pub all-kept : (files : List Secondary) (numbers : List (Option ℕ)) (matches : List MatchKept) → map (λ file. file.sequence) files ≡ map (λ m. m.part) matches → AreNumbers members files numbers
      → map match_in (numbers_kept members files numbers matches) ≡ matches_by members files numbers
  all-kept [] numbers [] same there = refl
  all-kept [] numbers (m ∷ matches) same there = no-cons m.part (map (λ m. m.part) matches) same
  all-kept (file ∷ files) [] matches same there = absurd there
  all-kept (file ∷ files) (n ∷ numbers) [] same there = cons-no file.sequence (map (λ file. file.sequence) files) same
  all-kept (file ∷ files) (n ∷ numbers) (m ∷ matches) same there =
      ap (λ (x : Match). x ∷ map match_in (numbers_kept members files numbers matches))
      (one-kept file n m (same-first file.sequence m.part (map (λ file. file.sequence) files) (map (λ m. m.part) matches) same) there.0)
      ∙ ap (λ (xs : List Match). (matched_number file members n).match ∷ xs)
      (all-kept files numbers matches (same-rest file.sequence m.part (map (λ file. file.sequence) files) (map (λ m. m.part) matches) same) there.1)

  one-part : (file : Secondary) (n : Option ℕ) (m : MatchKept) → (number_kept members file n m).part ≡ m.part
  one-part file None m = refl
  one-part file (Some rrn) m = refl

  pub parts-kept : (files : List Secondary) (numbers : List (Option ℕ)) (matches : List MatchKept) → map (λ m. m.part) (numbers_kept members files numbers matches) ≡ map (λ m. m.part) matches
  parts-kept [] numbers matches = refl
  parts-kept (file ∷ files) [] matches = refl
  parts-kept (file ∷ files) (n ∷ numbers) [] = refl
  parts-kept (file ∷ files) (n ∷ numbers) (m ∷ matches) =
      ap (λ (p : KeyPart). p ∷ map (λ m. m.part) (numbers_kept members files numbers matches)) (one-part file n m) ∙ ap (λ (ps : List KeyPart). m.part ∷ ps) (parts-kept files numbers matches)

  pub length-kept : (files : List Secondary) (numbers : List (Option ℕ)) (matches : List MatchKept) → length (numbers_kept members files numbers matches) ≡ length matches
  length-kept [] numbers matches = refl
  length-kept (file ∷ files) [] matches = refl
  length-kept (file ∷ files) (n ∷ numbers) [] = refl
  length-kept (file ∷ files) (n ∷ numbers) (m ∷ matches) = ap (λ k. suc k) (length-kept files numbers matches)

-- ---- the position

module _ (parts : List KeyPart) (rrn : ℕ) where
  abbrev made : (key : List ℕ) (format : ℕ) → List Match → List KeyPart → JoinStand
  made key format matches sequences =
      record { position = On (record { primary = record { key = values_in parts key; format = format; rrn = rrn }; matches = matches }); parts = parts; sequences = sequences }

abbrev on_row : JoinSpec → NumberedMembers → Row → JoinStand → JoinStand
on_row spec members row s = record { position = On (place_of s.parts spec members row); parts = s.parts; sequences = s.sequences }

pub settled : (parts : List KeyPart) (stand : Stand) (key : List ℕ) (matches : List MatchKept) (now : JoinStand) → stand_of parts stand key matches ≡ now
    → (spec : JoinSpec) (members : NumberedMembers) (row : Row) → map (λ file. file.sequence) spec.secondaries ≡ now.sequences → CanBeKept now.parts spec members row
    → (new : List ℕ) → new ≡ row.primary.now.key → (kept : List MatchKept) → kept ≡ numbers_kept members spec.secondaries row.numbers.items matches
    → stand_of parts (stands.On row.primary.now.rrn) new kept ≡ record { position = On (place_of now.parts spec members row); parts = now.parts; sequences = now.sequences }
settled parts stand key matches now is spec members row sequences can new new-is kept kept-is =
    let rrn : ℕ = row.primary.now.rrn in
    let numbers : List (Option ℕ) = row.numbers.items in
    let same : map (λ file. file.sequence) spec.secondaries ≡ map (λ m. m.part) matches = sequences ∙ sym (ap (λ (s : JoinStand). s.sequences) is) in
    ap (λ (k : List ℕ). made parts rrn k 0 (map match_in kept) (map (λ m. m.part) kept)) new-is
    ∙ ap (λ (f : ℕ). made parts rrn row.primary.now.key f (map match_in kept) (map (λ m. m.part) kept)) (sym can.first)
    ∙ ap (λ (ms : List Match). made parts rrn row.primary.now.key row.primary.now.format ms (map (λ m. m.part) kept))
    (ap (map match_in) kept-is ∙ all-kept members spec.secondaries numbers matches same can.numbers)
    ∙ ap (λ (ps : List KeyPart). made parts rrn row.primary.now.key row.primary.now.format (matches_by members spec.secondaries numbers) ps)
    (ap (map (λ m. m.part)) kept-is ∙ parts-kept members spec.secondaries numbers matches)
    ∙ ap (on_row spec members row) is
