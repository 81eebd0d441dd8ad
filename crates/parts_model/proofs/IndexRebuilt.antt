-- The kept paths are those of a library still, when a member is given other slots and its paths are made anew.
use Rattle.std.proofs.Common.{ℕ, ◌*◌, ◌≤◌, ◌≡◌, ◌==◌, Bool, true, false, cond, List, [], ◌∷◌, length, map, Option, Some, None, refl, sym, ap, arith, ◌∙◌, subst}
use Rattle.std.specs.Prelude.{Any, filter, unwrap_or}
use Rattle.std.specs.List.{AllByRecursion, AllZip}
use Rattle.std.specs.Option.{option_map}
use Rattle.std.proofs.lemmas.Bool.{eqb-true}
use Rattle.std.proofs.lemmas.List.Elements.{All-map, All-from_recursion, recursion_from_All}
use Rattle.std.proofs.Math.Nat.{mul-le-mul_right}
use Rattle.key_pages.specs.declared.entries.Entry.{Entry}
use Rattle.key_pages.specs.EntryList.{EntryList}
use Rattle.member_slots.specs.declared.slot.Slot.{Slot}
use Rattle.member_slots.specs.Member.{MemberState, cleared, is_live, reorganized}
use Rattle.member_slots.specs.Members.{Numbered, NumberedMembers, item_at, with_member}
use Rattle.file_model.specs.declared.paths.PathFormat.{PathFormat}
use Rattle.file_model.specs.declared.paths.PathSpec.{PathSpec}
use Rattle.path_set.specs.declared.moves.PathMove.{PathMove}
use Rattle.path_set.specs.KeptPaths.{KeptPath, KeptPaths, NumberedPaths, PathRoom, AreShared, spare_of}
use Rattle.path_set.specs.RecordChanges.{HaveRoom, moves_in}
use Rattle.path_set.specs.MemberSteps.{is_over, paths_over}
use Rattle.path_set.specs.RebuiltPaths.{AreRebuilt, HaveRooms, entries_or, kept_with, path_with, room_or, room_with}
use Rattle.path_set.proofs.MemberStepLemmas.{same-with}
use Rattle.path_set.proofs.RebuildLemmas.{IsChosen, all-chosen, rebuilt-over, rebuilt-room}
use Rattle.path_set.proofs.RecordLemmas.{ascend-from}
use Rattle.library_paths.specs.AllPaths.{all_paths}
use Rattle.library_paths.specs.KeptOnce.{with_entries}
use Rattle.library_paths.proofs.KeptLemmas.{kept-with}
use Rattle.job_table.specs.Opens.{OpenOrder}
use Rattle.library_model.specs.Named.{Named}
use Rattle.library_steps.specs.State.{FileState, JobState}
use Rattle.parts_model.specs.Indexed.{HasBytes, MemberHasBytes, ArePaths, HaveSpares, OpensRead, changes_over, IsIndexed}
use Rattle.parts_model.proofs.IndexPaths.{any-with, moves-stay, moves-with, orders-stay, over-any}
use Rattle.parts_model.proofs.IndexShared.{files-stay}
use Rattle.parts_model.proofs.IndexRecords.{bytes-with}

pub bytes-cleared : (member : MemberState) → MemberHasBytes (cleared member)
bytes-cleared member = tt

pub bytes-reorganized : (member : MemberState) → MemberHasBytes member → MemberHasBytes (reorganized member)
bytes-reorganized member all = those member.slots all
  where
    those : (slots : List Slot) → AllByRecursion HasBytes slots → AllByRecursion HasBytes (filter is_live slots)
    those [] own = tt
    those (slot ∷ slots) own =
        elim (is_live slot) as (λ b. AllByRecursion HasBytes (cond b (slot ∷ filter is_live slots) (filter is_live slots))) [
          | true ↦ (own.0, those slots own.1)
          | false ↦ those slots own.1
        ]

-- ---- the room of the other paths

abbrev spare_in : Option PathRoom → ℕ
spare_in o = unwrap_or (option_map (λ (room : PathRoom). room.spare) o) 0

-- a path that isn't made anew has the room that it had
room-same : (rebuilt : List (Numbered EntryList)) (n : ℕ) → item_at n rebuilt ≡ None → (rooms : List (Numbered PathRoom))
    → spare_in (item_at n (map (room_with rebuilt) rooms)) ≡ spare_in (item_at n rooms)
room-same rebuilt n none [] = refl
room-same rebuilt n none (room ∷ rooms) =
    elim (room.number == n) as (λ b. (room.number == n) ≡ b
    → spare_in (cond b (Some (room_or (item_at room.number rebuilt) room.item)) (item_at n (map (room_with rebuilt) rooms))) ≡ spare_in (cond b (Some room.item) (item_at n rooms))) [
      | true ↦ λ same. ap (λ (o : Option EntryList). (room_or o room.item).spare) (ap (λ (k : ℕ). item_at k rebuilt) (eqb-true room.number n same) ∙ none)
      | false ↦ λ differs. room-same rebuilt n none rooms
    ] refl

of-map : {X Y : Type 0} (P : Y → Type 0) (f : X → Y) (xs : List X) → AllByRecursion P (map f xs) → AllByRecursion (λ (x : X). P (f x)) xs
of-map P f [] all = tt
of-map P f (x ∷ xs) all = (all.0, of-map P f xs all.1)

module _ (members : NumberedMembers) (old : KeptPaths) (rebuilt : List (Numbered EntryList)) (number held : ℕ) (count : PathSpec → ℕ) (few : (spec : PathSpec) → count spec ≤ held) where
  -- the paths over the member were made with room for all changes that are held
  abbrev IsRoomy : Numbered KeptPath → Type 0
  IsRoomy path = Any (λ (f : PathFormat). f.member ≡ number) path.item.spec.formats → held * length path.item.spec.formats ≤ spare_of path.number (kept_with rebuilt old)

  one-room : (path : Numbered KeptPath) (b : Bool) → is_over number path.item.spec ≡ b → IsChosen members held b path (item_at path.number rebuilt) → IsRoomy path
      → count path.item.spec * length path.item.spec.formats ≤ spare_of path.number old → count path.item.spec * length path.item.spec.formats ≤ spare_of path.number (kept_with rebuilt old)
  one-room path true over chosen roomy had =
      let h = roomy (over-any number path.item.spec.formats over) in
      let fewer = few path.item.spec in
      let m = mul-le-mul_right (length path.item.spec.formats) fewer in
      omega (arith, h, m)
  one-room path false other chosen roomy had =
      let same : spare_of path.number (kept_with rebuilt old) ≡ spare_of path.number old = room-same rebuilt path.number chosen old.rooms in
      omega (arith, same, had)

  all-room : (paths : NumberedPaths) → AllByRecursion (λ (path : Numbered KeptPath). IsChosen members held (is_over number path.item.spec) path (item_at path.number rebuilt)) paths
      → AllByRecursion IsRoomy paths → AllByRecursion (λ (path : Numbered KeptPath). count path.item.spec * length path.item.spec.formats ≤ spare_of path.number old) paths
      → AllByRecursion (λ (path : Numbered KeptPath). count path.item.spec * length path.item.spec.formats ≤ spare_of path.number (kept_with rebuilt old)) paths
  all-room [] chosen roomy had = tt
  all-room (path ∷ paths) chosen roomy had = (one-room path (is_over number path.item.spec) refl chosen.0 roomy.0 had.0, all-room paths chosen.1 roomy.1 had.1)

-- ---- the paths of a member made anew

pub IsIndexed-rebuilt : (files : Named FileState) (members : NumberedMembers) (jobs : List JobState) (orders : List (Named OpenOrder)) (moves : List (List (List PathMove))) (old new : KeptPaths)
    (number held : ℕ) (member : MemberState) (rebuilt : List (Numbered EntryList)) → AreShared old.paths → HaveRooms old → new ≡ kept_with rebuilt old
    → AreRebuilt (with_member number member members) held (paths_over number old.paths) rebuilt → MemberHasBytes member → ((spec : PathSpec) → changes_over spec jobs ≤ held)
    → IsIndexed files members jobs orders moves old → IsIndexed files (with_member number member members) jobs orders moves new
IsIndexed-rebuilt files members jobs orders moves old new number held member rebuilt shared rooms is made bytes few indexed = record {
  paths = subst (ArePaths files (with_member number member members)) (sym paths_are)
      (kept-with entries old.paths (all_paths files) members (with_member number member members)
      (rebuilt-over number held members (with_member number member members) old.paths rebuilt (same-with number member members) shared indexed.paths.over made) indexed.paths);
  orders = subst (λ (p : NumberedPaths). AllZip (OpensRead files p) jobs orders) (sym paths_are)
      (orders-stay files files old.paths (map (with_entries entries) old.paths) (files-stay files) (any-with entries old.paths) jobs orders indexed.orders);
  moves = indexed.moves ∙ sym (moves-stay old.paths new.paths (λ c. ap (moves_in c) paths_are ∙ moves-with entries c old.paths) jobs);
  room = subst (HaveSpares (λ spec. changes_over spec jobs)) (sym is)
      (All-map (λ (path : Numbered KeptPath). changes_over path.item.spec jobs * length path.item.spec.formats ≤ spare_of path.number (kept_with rebuilt old)) (path_with rebuilt) old.paths
      (All-from_recursion (λ (path : Numbered KeptPath). changes_over path.item.spec jobs * length path.item.spec.formats ≤ spare_of path.number (kept_with rebuilt old)) old.paths
      (all-room (with_member number member members) old rebuilt number held (λ spec. changes_over spec jobs) few old.paths
      (all-chosen (with_member number member members) number held old.paths rebuilt (ascend-from old.paths shared.ascend) made)
      (of-map (IsRoomy (with_member number member members) old rebuilt number held (λ spec. changes_over spec jobs) few) (path_with rebuilt) old.paths
      (recursion_from_All (IsRoomy (with_member number member members) old rebuilt number held (λ spec. changes_over spec jobs) few) (kept_with rebuilt old).paths
      (subst (HaveRoom number held) is (rebuilt-room old new rebuilt shared rooms is number held (with_member number member members) made))))
      (recursion_from_All (λ (path : Numbered KeptPath). changes_over path.item.spec jobs * length path.item.spec.formats ≤ spare_of path.number old) old.paths indexed.room))));
  bytes = bytes-with number member members bytes indexed.bytes;
  views = indexed.views;
}
  where
    entries : Numbered KeptPath → List Entry
    entries = λ path. entries_or (item_at path.number rebuilt) path.item.entries

    paths_are : new.paths ≡ map (with_entries entries) old.paths
    paths_are = ap (λ (k : KeptPaths). k.paths) is
