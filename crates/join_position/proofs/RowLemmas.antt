-- What holds of each entry of the primary's path, and of each record of a secondary file, holds of each row.
use Rattle.std.proofs.Common.{◌≡◌, ℕ, suc, ◌+◌, ◌-◌, ◌≤◌, ◌==◌, Bool, true, false, Some, None, List, [], ◌∷◌, ◌++◌, length, map, refl, sym, ◌∙◌, ap, subst, arith, append_assoc, append-nil}
use Rattle.std.specs.Prelude.{filter, flat_map, All}
use Rattle.std.specs.List.{AllByRecursion, list_all, slice_get}
use Rattle.std.proofs.lemmas.Bool.{cond-false, ne_eqb}
use Rattle.std.proofs.lemmas.List.Elements.{recursion_from_All, All-from_recursion}
use Rattle.key_pages.specs.declared.entries.Entry.{Entry}
use Rattle.key_pages.specs.EntryList.{EntryList}
use Rattle.member_slots.specs.declared.slot.Slot.{Slot}
use Rattle.member_slots.specs.declared.slot.Slot.TheVariants.{Live, Deleted}
use Rattle.member_slots.specs.Member.{MemberState, records, records_from, slot_at}
use Rattle.member_slots.specs.Members.{NumberedMembers, member_of}
use Rattle.file_model.specs.declared.paths.PathFormat.{PathFormat}
use Rattle.file_model.specs.declared.joins.Secondary.{Secondary}
use Rattle.file_model.specs.declared.joins.JoinSpec.{JoinSpec}
use Rattle.file_model.specs.KeyOrder.{key_value}
use Rattle.file_model.specs.Joins.{Match, NoRecord, RecordAt, Matched, JoinRow, image_in, is_joined, matched, compare_matched, matches_of, or_missing, row_with, joined_rows, rows_of}
use Rattle.file_model.specs.Paths.{PathEntry, path}
use Rattle.file_model.proofs.PathLemmas.{weaker, all-filter, all-map, all-append}
use Rattle.access_path.specs.KeyFields.{AreBytes, HasPosition, key_width}
use Rattle.access_path.specs.PathBytes.{in_bytes}
use Rattle.access_path.proofs.OrderedLemmas.{all-in_order}
use Rattle.join_rows.specs.PositionBytes.{HasKeysWithin}
use Rattle.join_rows.proofs.RoomLemmas.{keys-fit}
use Rattle.join_rows.specs.NextRow.{row_of_entry}
use Rattle.join_rows.specs.Numbers.{image_of}
use Rattle.join_rows.specs.Reading.{AreReadable}
use Rattle.join_rows.specs.Rows.{CanBeRead, parts_in}
use Rattle.join_position.specs.RowReads.{HasSequences, IsHeld}

all-flat : {A B : Type 0} (P : A → Type 0) (Q : B → Type 0) (f : A → List B) → ((x : A) → P x → AllByRecursion Q (f x)) → (xs : List A) → AllByRecursion P xs → AllByRecursion Q (flat_map f xs)
all-flat P Q f each [] all = tt
all-flat P Q f each (x ∷ xs) all = all-append Q (f x) (flat_map f xs) (each x all.0) (all-flat P Q f each xs all.1)

all-each : {A B : Type 0} (Q : B → Type 0) (f : A → List B) → ((x : A) → AllByRecursion Q (f x)) → (xs : List A) → AllByRecursion Q (flat_map f xs)
all-each Q f each [] = tt
all-each Q f each (x ∷ xs) = all-append Q (f x) (flat_map f xs) (each x) (all-each Q f each xs)

pub all-unmap : {A B : Type 0} (Q : B → Type 0) (f : A → B) (xs : List A) → AllByRecursion Q (map f xs) → AllByRecursion (λ x. Q (f x)) xs
all-unmap Q f [] all = tt
all-unmap Q f (x ∷ xs) all = (all.0, all-unmap Q f xs all.1)

pub both-all : {A : Type 0} (P Q R : A → Type 0) → ((x : A) → P x → Q x → R x) → (xs : List A) → AllByRecursion P xs → AllByRecursion Q xs → AllByRecursion R xs
both-all P Q R so [] all also = tt
both-all P Q R so (x ∷ xs) all also = (so x all.0 also.0, both-all P Q R so xs all.1 also.1)

-- ---- the records of a member

abbrev IsAt : MemberState → ℕ × List ℕ → Type 0
IsAt member pair = slot_at member pair.0 ≡ Some (Live pair.1)

records-at : (n : ℕ) (member : MemberState) (slots : List Slot) → ((i : ℕ) → slice_get slots i ≡ slice_get member.slots (n + i)) → AllByRecursion (IsAt member) (records_from (n + 1) slots)
records-at n member [] given = tt
records-at n member (Deleted ∷ slots) given =
    records-at (n + 1) member slots (λ i. given (suc i) ∙ ap (slice_get member.slots) (let e : n + suc i ≡ n + 1 + i = omega arith in e))
records-at n member (Live image ∷ slots) given = (
  here,
  records-at (n + 1) member slots (λ i. given (suc i) ∙ ap (slice_get member.slots) (let e : n + suc i ≡ n + 1 + i = omega arith in e)),
)
  where
    here : slot_at member (n + 1) ≡ Some (Live image)
    here =
        cond-false (n + 1 == 0) None (slice_get member.slots (n + 1 - 1)) (ne_eqb (n + 1) 0 (λ e. absurd (omega arith)))
        ∙ ap (slice_get member.slots) (let e : n + 1 - 1 ≡ n + 0 = omega arith in e)
        ∙ sym (given 0)

all-records : (member : MemberState) → AllByRecursion (IsAt member) (records member)
all-records member = records-at 0 member member.slots (λ i. ap (slice_get member.slots) (let e : i ≡ 0 + i = omega arith in e))

-- ---- one of each file

abbrev pub AreAll : (Secondary → Match → Type 0) → List Secondary → List Match → Type 0
AreAll Q [] [] = Unit {0}
AreAll Q [] (m ∷ matches) = ⊥
AreAll Q (file ∷ files) [] = ⊥
AreAll Q (file ∷ files) (m ∷ matches) = Q file m × AreAll Q files matches

-- the rows below a row have its entry
pub same-entry : (keeps_missing : Bool) (files : List Secondary) (members : NumberedMembers) (row : JoinRow)
    → AllByRecursion (λ leaf. leaf.place.primary ≡ row.place.primary) (joined_rows keeps_missing files members row)
same-entry keeps_missing [] members row = (refl, tt)
same-entry keeps_missing (file ∷ files) members row =
    all-each (λ (leaf : JoinRow). leaf.place.primary ≡ row.place.primary) (λ m. joined_rows keeps_missing files members (row_with row m))
    (λ m. same-entry keeps_missing files members (row_with row m))
    (or_missing keeps_missing file (matches_of file members row))

module _ (Q : Secondary → Match → Type 0) (none : (file : Secondary) → Q file NoRecord) (members : NumberedMembers) where
  abbrev AllRecords : Secondary → Type 0
  AllRecords file = AllByRecursion (λ pair. Q file (RecordAt (key_value file.sequence pair.1) pair.0)) (records (member_of file.member members))

  abbrev IsGood : Secondary → Matched → Type 0
  IsGood file m = Q file m.match

  good-matches : (file : Secondary) → AllRecords file → (row : JoinRow) → AllByRecursion (IsGood file) (matches_of file members row)
  good-matches file all row =
      let joins : ℕ × List ℕ → Bool = λ pair. list_all (is_joined (image_in file.from row.images) pair.1) file.pairs in
      all-in_order compare_matched (IsGood file) (map (matched file) (filter joins (records (member_of file.member members))))
      (all-map (IsGood file) (matched file) (filter joins (records (member_of file.member members)))
      (all-filter (λ pair. IsGood file (matched file pair)) joins (records (member_of file.member members)) all))

  good-level : (keeps_missing : Bool) (file : Secondary) (found : List Matched) → AllByRecursion (IsGood file) found → AllByRecursion (IsGood file) (or_missing keeps_missing file found)
  good-level keeps_missing file (m ∷ found) all = all
  good-level true file [] all = (none file, tt)
  good-level false file [] all = tt

  record IsAbove (files : List Secondary) (row leaf : JoinRow) : Type 0 where
    same : leaf.place.primary ≡ row.place.primary
    further : List Match
    is : leaf.place.matches ≡ row.place.matches ++ further
    good : AreAll Q files further

  above : (keeps_missing : Bool) (files : List Secondary) → AllByRecursion AllRecords files → (row : JoinRow) → AllByRecursion (IsAbove files row) (joined_rows keeps_missing files members row)
  above keeps_missing [] all row = (record { same = refl; further = []; is = sym (append-nil row.place.matches); good = tt }, tt)
  above keeps_missing (file ∷ files) all row =
      all-flat (IsGood file) (IsAbove (file ∷ files) row) (λ m. joined_rows keeps_missing files members (row_with row m))
      (λ m good-match. weaker (IsAbove files (row_with row m)) (IsAbove (file ∷ files) row)
      (λ leaf is. record {
        same = is.same;
        further = m.match ∷ is.further;
        is = is.is ∙ append_assoc row.place.matches (m.match ∷ []) is.further;
        good = (good-match, is.good);
      })
      (joined_rows keeps_missing files members (row_with row m)) (above keeps_missing files all.1 (row_with row m)))
      (or_missing keeps_missing file (matches_of file members row))
      (good-level keeps_missing file (matches_of file members row) (good-matches file all.0 row))

  pub all-rows : (spec : JoinSpec) (P : PathEntry → Type 0) → AllByRecursion P (path spec.primary members) → AllByRecursion AllRecords spec.secondaries
      → AllByRecursion (λ row. P row.place.primary × AreAll Q spec.secondaries row.place.matches) (rows_of spec members)
  all-rows spec P entries all =
      all-flat P (λ (row : JoinRow). P row.place.primary × AreAll Q spec.secondaries row.place.matches)
      (λ p. joined_rows spec.keeps_missing spec.secondaries members (row_of_entry spec members p))
      (λ p good. weaker (IsAbove spec.secondaries (row_of_entry spec members p)) (λ (row : JoinRow). P row.place.primary × AreAll Q spec.secondaries row.place.matches)
      (λ row is. (subst P (sym is.same) good, subst (AreAll Q spec.secondaries) (sym is.is) is.good))
      (joined_rows spec.keeps_missing spec.secondaries members (row_of_entry spec members p))
      (above spec.keeps_missing spec.secondaries all (row_of_entry spec members p)))
      (path spec.primary members) entries

-- ---- the records of a join file

abbrev pub IsImage : NumberedMembers → Secondary → Match → Type 0
IsImage members file NoRecord = Unit {0}
IsImage members file (RecordAt v rrn) = IsHeld members file rrn

module _ (members : NumberedMembers) where
  held-records : (file : Secondary) → All (λ pair. AreBytes pair.1) (records (member_of file.member members)) → HasSequences members file
      → AllByRecursion (λ pair. IsImage members file (RecordAt (key_value file.sequence pair.1) pair.0)) (records (member_of file.member members))
  held-records file bytes has =
      both-all (λ pair. AreBytes pair.1 × HasPosition file.sequence pair.1)
      (IsAt (member_of file.member members))
      (λ pair. IsHeld members file pair.0)
      (λ pair good there. record {
        bytes = subst AreBytes (sym (ap image_of there)) good.0;
        there = subst (HasPosition file.sequence) (sym (ap image_of there)) good.1;
      })
      (records (member_of file.member members))
      (both-all (λ pair. AreBytes pair.1) (λ pair. HasPosition file.sequence pair.1) (λ pair. AreBytes pair.1 × HasPosition file.sequence pair.1) (λ pair one two. (one, two))
      (records (member_of file.member members))
      (recursion_from_All (λ pair. AreBytes pair.1) (records (member_of file.member members)) bytes)
      (recursion_from_All (λ pair. HasPosition file.sequence pair.1) (records (member_of file.member members)) has))
      (all-records (member_of file.member members))

  held-files : (number : ℕ) (files : List Secondary) (lists : List EntryList) → AreReadable members number files lists → AllByRecursion (HasSequences members) files
      → AllByRecursion (λ file. AllByRecursion (λ pair. IsImage members file (RecordAt (key_value file.sequence pair.1) pair.0)) (records (member_of file.member members))) files
  held-files number [] lists readable has = tt
  held-files number (file ∷ files) [] readable has = absurd readable
  held-files number (file ∷ files) (list ∷ lists) readable has =
      (held-records file readable.0.joinable.bytes has.0, held-files (number + 1) files lists readable.1 has.1)

  fit-own : (most : ℕ) (format : PathFormat) (formats : List PathFormat) → formats ≡ format ∷ [] → All (HasKeysWithin most members) formats
      → All (HasKeysWithin (key_width (parts_in formats)) members) formats
  fit-own most format formats one has =
      subst (λ (fs : List PathFormat). All (HasKeysWithin (key_width (parts_in fs)) members) fs) (sym one)
      (All-from_recursion (HasKeysWithin (key_width format.key) members) (format ∷ []) (
        record {
          width = omega arith;
          keys = (recursion_from_All (HasKeysWithin most members) (format ∷ []) (subst (All (HasKeysWithin most members)) one has)).0.keys;
        },
        tt,
      ))

  abbrev IsShort : JoinSpec → PathEntry → Type 0
  IsShort spec e = length (in_bytes spec.primary.formats e).key ≤ key_width (parts_in spec.primary.formats)

  abbrev pub IsWithin : JoinSpec → JoinRow → Type 0
  IsWithin spec row = IsShort spec row.place.primary × AreAll (IsImage members) spec.secondaries row.place.matches

  pub rows-within : (spec : JoinSpec) (primary : EntryList) (secondaries : List EntryList) → CanBeRead spec members primary secondaries
      → (most : ℕ) → All (HasKeysWithin most members) spec.primary.formats → All (HasSequences members) spec.secondaries
      → AllByRecursion (IsWithin spec) (rows_of spec members)
  rows-within spec primary secondaries can most has sequenced =
      all-rows (IsImage members) (λ file. tt) members spec (IsShort spec)
      (all-unmap (λ (e : Entry). length e.key ≤ key_width (parts_in spec.primary.formats)) (in_bytes spec.primary.formats) (path spec.primary members)
      (recursion_from_All (λ (e : Entry). length e.key ≤ key_width (parts_in spec.primary.formats)) (map (in_bytes spec.primary.formats) (path spec.primary members))
      (keys-fit (key_width (parts_in spec.primary.formats)) spec.primary members (fit-own most can.format spec.primary.formats can.one has))))
      (held-files 1 spec.secondaries secondaries can.files (recursion_from_All (HasSequences members) spec.secondaries sequenced))
