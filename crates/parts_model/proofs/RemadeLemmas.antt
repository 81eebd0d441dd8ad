-- The paths of a member can be made anew over other slots of records, and a copy of a member without its deleted slots is made slot by slot.
use Rattle.std.proofs.Common.{ℕ, zero, suc, ◌+◌, ◌-◌, ◌≤◌, ◌≡◌, inl, inr, List, [], ◌∷◌, ◌++◌, drop, length, slice_get, Option, Some, None, IsSome, refl, sym, ap, arith, ◌∙◌, subst}
use Rattle.std.specs.Prelude.{All, MatchOption, filter, unwrap_or}
use Rattle.std.specs.List.{AllByRecursion, IsDistinct}
use Rattle.std.specs.Map.{keys_of}
use Rattle.std.proofs.lemmas.Bool.{cases_eq}
use Rattle.std.proofs.lemmas.List.Elements.{All-filter, recursion_from_All}
use Rattle.record_fmt.specs.declared.formats.Field.{Field}
use Rattle.library_steps.below.dds_physical.specs.declared.physical_files.PhysicalSpec.{PhysicalSpec}
use Rattle.library_steps.below.dds_logical.specs.declared.views.LogicalSpec.{LogicalSpec}
use Rattle.library_steps.specs.Bases.{PhysicalFile, LogicalFile}
use Rattle.library_steps.specs.FilePaths.{logical_paths}
use Rattle.member_slots.specs.declared.slot.Slot.{Slot}
use Rattle.member_slots.specs.declared.slot.Slot.TheVariants.{Live, Deleted}
use Rattle.member_slots.specs.Member.{MemberState, cleared, empty_member, is_live, reorganized, slot_at}
use Rattle.member_slots.specs.Members.{NumberedMembers, AreMembers, member_at, member_of, with_member}
use Rattle.file_model.specs.declared.paths.PathSpec.{PathSpec}
use Rattle.file_model.specs.FilePaths.{physical_path}
use Rattle.path_set.specs.declared.moves.PathMove.{PathMove}
use Rattle.path_set.specs.KeptPaths.{KeptPaths, AreShared}
use Rattle.path_set.specs.RebuiltPaths.{CanBeRebuilt}
use Rattle.path_set.specs.Sharing.{CanBeKept}
use Rattle.path_set.proofs.MemberStepLemmas.{same-with}
use Rattle.file_catalogue.specs.KeyedFiles.{IsRecordSlot, HasRecordsOf}
use Rattle.lawful_states.specs.Owners.{Owns}
use Rattle.job_table.specs.Opens.{OpenOrder}
use Rattle.library_model.specs.Named.{Named, named, same_name}
use Rattle.library_steps.specs.LogicalFiles.{bases_in}
use Rattle.library_steps.specs.State.{State, FileState, fields_of}
use Rattle.parts_model.specs.Indexed.{IsIndexed}
use Rattle.parts_model.specs.Keyed.{AllAreKeyed}
use Rattle.lawful_states.specs.Lawful.{IsLibrary}
use Rattle.lawful_states.specs.Slots.{with_live}
use Rattle.parts_model.proofs.IndexLooks.{bases-have, each-kept, fields-are, records-of, view-of}
use Rattle.parts_model.proofs.IndexLaws.{laws}
use Rattle.parts_model.proofs.IndexMoves.{at-place}
use Rattle.lawful_states.proofs.MemberLemmas.{member_of-with, is_some-IsSome}

-- ---- the paths over a member with other records

module _ (s : State) (member : ℕ) (orders : List (Named OpenOrder)) (moves : List (List (List PathMove))) (kept : KeptPaths) (keyed : AllAreKeyed s.files)
    (distinct : IsDistinct same_name (keys_of s.files)) (lawful : IsLibrary s) (are : AreMembers s.members) (shared : AreShared kept.paths)
    (indexed : IsIndexed s.files s.members s.jobs orders moves kept) (there : IsSome (member_at member s.members)) where
  module _ (after : MemberState)
      (records : (name : List ℕ) (file : FileState) → Owns s.files name file member → All (IsRecordSlot (fields_of file)) after.slots) where
    abbrev later : NumberedMembers
    later = with_member member after s.members

    -- each member has records of its file then
    pub remade-records : (name : List ℕ) (file : FileState) (number : ℕ) → Owns s.files name file number → HasRecordsOf (fields_of file) number (with_member member after s.members)
    remade-records name file number owns =
        elim (cases_eq number member) [
          | inl same ↦ subst (λ (n : ℕ). HasRecordsOf (fields_of file) n later) (sym same)
              (subst (λ (m : MemberState). All (IsRecordSlot (fields_of file)) m.slots) (sym (member_of-with member after s.members (is_some-IsSome (member_at member s.members) there)))
              (records name file (subst (Owns s.files name file) same owns)))
          | inr differs ↦ subst (λ (slots : List Slot). All (IsRecordSlot (fields_of file)) slots) (sym (same-with member after s.members number differs))
              (records-of s name file number orders moves kept lawful are indexed owns)
        ]

    remade-physical : (name : List ℕ) (file : FileState) (number : ℕ) (spec : PhysicalSpec) → Owns s.files name file number → file.spec ≡ PhysicalFile spec
        → CanBeKept (physical_path number spec.format.fields spec.keys) (with_member member after s.members)
    remade-physical name file number spec owns is =
        laws.kept spec number later (keyed name file spec owns.there is)
        (subst (λ (fs : List Field). HasRecordsOf fs number later) (fields-are file spec is) (remade-records name file number owns))

    remade-logical : (name : List ℕ) (file : FileState) (spec : LogicalSpec) → named name s.files ≡ Some file → file.spec ≡ LogicalFile spec
        → AllByRecursion (λ (path : PathSpec). CanBeKept path (with_member member after s.members)) (logical_paths (bases_in s.files) spec)
    remade-logical name file spec here is =
        recursion_from_All (λ (path : PathSpec). CanBeKept path later) (logical_paths (bases_in s.files) spec)
        (laws.view_kept (bases_in s.files) spec later (view-of s.files name file spec indexed.views here is).keyed
        (bases-have s.files later lawful.bases remade-records name file spec here is))

    pub remade-can : CanBeRebuilt member (with_member member after s.members) kept.paths
    remade-can k d low over = each-kept s.files (λ (path : PathSpec). CanBeKept path later) remade-physical remade-logical distinct s.members kept.paths shared indexed.paths k d low

  pub cleared-can : CanBeRebuilt member (with_member member (cleared (member_of member s.members)) s.members) kept.paths
  cleared-can = remade-can (cleared (member_of member s.members)) (λ name file owns k d low. absurd (omega (arith, low)))

  pub reorganized-can : CanBeRebuilt member (with_member member (reorganized (member_of member s.members)) s.members) kept.paths
  reorganized-can =
      remade-can (reorganized (member_of member s.members))
      (λ name file owns. All-filter is_live (IsRecordSlot (fields_of file)) (member_of member s.members).slots (records-of s name file member orders moves kept lawful are indexed owns))

-- the member that is found
pub found-member : {X : Type 0} (number : ℕ) (members : NumberedMembers) (state : X → MemberState) (o : Option X) (x : X)
    → MatchOption o (member_at number members ≡ None) (λ m. member_at number members ≡ Some (state m)) → o ≡ Some x → state x ≡ member_of number members
found-member number members state None x found is = absurd cc
found-member number members state (Some y) x found is =
    let same : y ≡ x = cc in ap state (sym same) ∙ sym (ap (λ (o : Option MemberState). unwrap_or o (empty_member 0)) found)

-- ---- a copy without the deleted slots

pub at-next : {A : Type 0} (xs : List A) (place : ℕ) (x : A) → slice_get xs place ≡ Some x → drop place xs ≡ x ∷ drop (suc place) xs
at-next [] place x at = absurd cc
at-next (y ∷ xs) zero x at = cc
at-next (y ∷ xs) (suc place) x at = at-next xs place x at

filter-cons : (slot : Slot) (rest : List Slot) → filter is_live (slot ∷ rest) ≡ filter is_live (slot ∷ []) ++ filter is_live rest
filter-cons (Live image) rest = refl
filter-cons Deleted rest = refl

append-joined : (xs ys zs : List Slot) → (xs ++ ys) ++ zs ≡ xs ++ (ys ++ zs)
append-joined [] ys zs = refl
append-joined (x ∷ xs) ys zs = ap (λ (w : List Slot). x ∷ w) (append-joined xs ys zs)

-- the records before a place are copied, and those from it on are still to be
pub record IsCopying (whole : MemberState) (place : ℕ) (now : MemberState) : Type 0 where
  pub long : now.record_length ≡ whole.record_length
  pub slots : now.slots ++ filter is_live (drop place whole.slots) ≡ filter is_live whole.slots

pub copying-first : (whole now : MemberState) → now.record_length ≡ whole.record_length → now.slots ≡ [] → IsCopying whole 0 now
copying-first whole now long none = record { long = long; slots = ap (λ (w : List Slot). w ++ filter is_live whole.slots) none }

pub copying-next : (whole now later : MemberState) (place rrn : ℕ) (slot : Slot) → rrn ≡ place + 1 → slot_at whole rrn ≡ Some slot → later ≡ with_live slot now → IsCopying whole place now
    → IsCopying whole (place + 1) later
copying-next whole now later place rrn slot next at made is =
    let first : 1 ≤ rrn = omega (arith, next) in
    let before : rrn - 1 ≡ place = omega (arith, next) in
    let stands : slice_get whole.slots place ≡ Some slot = ap (slice_get whole.slots) (sym before) ∙ sym (at-place whole rrn first) ∙ at in
    let number : suc place ≡ place + 1 = omega arith in
    subst (λ (m : MemberState). IsCopying whole (place + 1) m) (sym made) (record {
      long = is.long;
      slots = append-joined now.slots (filter is_live (slot ∷ [])) (filter is_live (drop (place + 1) whole.slots))
          ∙ ap (λ (w : List Slot). now.slots ++ w) (ap (λ (n : ℕ). filter is_live (slot ∷ []) ++ filter is_live (drop n whole.slots)) (sym number)
          ∙ sym (filter-cons slot (drop (suc place) whole.slots)) ∙ ap (filter is_live) (sym (at-next whole.slots place slot stands)))
          ∙ is.slots;
    })

nothing-left : (slots : List Slot) (place : ℕ) → place ≡ length slots → drop place slots ≡ []
nothing-left [] zero all = refl
nothing-left [] (suc place) all = refl
nothing-left (s ∷ slots) zero all = absurd (omega (arith, all))
nothing-left (s ∷ slots) (suc place) all = nothing-left slots place (omega (arith, all))

append-none : (xs : List Slot) → xs ++ [] ≡ xs
append-none [] = refl
append-none (x ∷ xs) = ap (λ (w : List Slot). x ∷ w) (append-none xs)

pub copying-end : (whole now : MemberState) (place : ℕ) → place ≡ length whole.slots → IsCopying whole place now → now ≡ reorganized whole
copying-end whole now place all is =
    let slots : now.slots ≡ filter is_live whole.slots =
    sym (append-none now.slots) ∙ ap (λ (w : List Slot). now.slots ++ filter is_live w) (sym (nothing-left whole.slots place all)) ∙ is.slots in
    λ i. record { record_length = is.long i; slots = slots i }
