-- The kept paths are those of a library still, when a record of a member changes and the moves of the change are made in them.
use Rattle.std.proofs.Common.{ℕ, zero, suc, ◌+◌, ◌-◌, ◌*◌, ◌≤◌, ◌≡◌, ◌==◌, if◌then◌else◌, Bool, true, false, cond, List, [], ◌∷◌, ◌++◌, length, map, get_or, Some, IsSome, slice_set}
use Rattle.std.proofs.Common.{sym, ap, arith, ◌∙◌, subst}
use Rattle.std.specs.Prelude.{All, unwrap_or}
use Rattle.std.specs.List.{AllByRecursion, AllZip}
use Rattle.std.proofs.lemmas.List.Elements.{All-map}
use Rattle.std.proofs.Math.Nat.{add-mul, mul-le-mul_left}
use Rattle.access_path.specs.KeyFields.{AreBytes}
use Rattle.key_pages.specs.declared.entries.Entry.{Entry}
use Rattle.member_slots.specs.declared.slot.Slot.{Slot}
use Rattle.member_slots.specs.declared.slot.Slot.TheVariants.{Live}
use Rattle.member_slots.specs.Member.{MemberState, empty_member, slot_at, appended, changed}
use Rattle.member_slots.specs.Members.{Numbered, NumberedMembers, item_at, member_at, member_of, with_member}
use Rattle.file_model.specs.declared.paths.PathSpec.{PathSpec}
use Rattle.access_path.specs.PathBytes.{is_falling}
use Rattle.path_set.specs.declared.moves.PathMove.{PathMove}
use Rattle.path_set.specs.KeptPaths.{KeptPath, KeptPaths, NumberedPaths, AreShared, spare_of}
use Rattle.path_set.specs.RecordChanges.{RecordChange, moves_in, entries_after, paths_after, count_in}
use Rattle.path_set.specs.MemberChanges.{IsRecordChange}
use Rattle.path_set.specs.MemberSteps.{record_added, slot_replaced, is_over}
use Rattle.path_set.proofs.MemberStepLemmas.{added-changes, replaced-changes}
use Rattle.path_set.proofs.RecordLemmas.{paths-over}
use Rattle.path_set.proofs.RoomLemmas.{moves-few}
use Rattle.library_paths.specs.AllPaths.{all_paths}
use Rattle.library_paths.specs.KeptOnce.{with_entries}
use Rattle.library_paths.proofs.KeptLemmas.{kept-with}
use Rattle.job_table.specs.Opens.{OpenOrder}
use Rattle.library_model.specs.Named.{Named}
use Rattle.library_steps.specs.State.{FileState, JobState}
use Rattle.parts_model.specs.Indexed.{HasBytes, MemberHasBytes, AreOfBytes, ArePaths, HaveSpares, OpensRead, changes_over, IsIndexed}
use Rattle.parts_model.proofs.IndexPaths.{any-with, moves-stay, moves-with, orders-stay, so_many}
use Rattle.parts_model.proofs.IndexShared.{files-stay}

-- ---- bytes

pub bytes-member : (number : ℕ) (members : NumberedMembers) → AreOfBytes members → MemberHasBytes (member_of number members)
bytes-member number [] all = tt
bytes-member number (entry ∷ members) all =
    elim (entry.number == number) as (λ b. MemberHasBytes (unwrap_or (if b then Some entry.item else item_at number members) (empty_member 0))) [
      | true ↦ all.0
      | false ↦ bytes-member number members all.1
    ]

pub bytes-with : (number : ℕ) (member : MemberState) (members : NumberedMembers) → MemberHasBytes member → AreOfBytes members → AreOfBytes (with_member number member members)
bytes-with number member [] own all = tt
bytes-with number member (entry ∷ members) own all =
    elim (entry.number == number) as (λ b. AreOfBytes (if b then record { number = number; item = member } ∷ members else entry ∷ with_member number member members)) [
      | true ↦ (own, all.1)
      | false ↦ (all.0, bytes-with number member members own all.1)
    ]

bytes-push : (slots : List Slot) (slot : Slot) → AllByRecursion HasBytes slots → HasBytes slot → AllByRecursion HasBytes (slots ++ slot ∷ [])
bytes-push [] slot all own = (own, tt)
bytes-push (s ∷ slots) slot all own = (all.0, bytes-push slots slot all.1 own)

bytes-set : (slots : List Slot) (place : ℕ) (slot : Slot) → AllByRecursion HasBytes slots → HasBytes slot → AllByRecursion HasBytes (slice_set slots place slot)
bytes-set [] place slot all own = tt
bytes-set (s ∷ slots) zero slot all own = (own, all.1)
bytes-set (s ∷ slots) (suc place) slot all own = (all.0, bytes-set slots place slot all.1 own)

pub bytes-changed : (member : MemberState) (rrn : ℕ) (slot : Slot) → MemberHasBytes member → HasBytes slot → MemberHasBytes (changed member rrn slot)
bytes-changed member rrn slot all own =
    elim (rrn == 0) as (λ b. MemberHasBytes (if b then member else record member { slots = slice_set member.slots (rrn - 1) slot })) [
      | true ↦ all
      | false ↦ bytes-set member.slots (rrn - 1) slot all own
    ]

-- ---- a change of one record

-- so much is left of what was there for more changes
pub left-over : (more many formats most count old new : ℕ) → (more + many) * formats ≤ old → count ≤ many * most → most ≤ formats → old ≤ new + count → more * formats ≤ new
left-over more many formats most count old new had few fits spare =
    let product = add-mul more many formats in
    let fewer = mul-le-mul_left many fits in
    omega (arith, had, few, spare, product, fewer)

-- a path has the memory that is counted once the moves of a change were made, of which there are some in paths over its member alone
pub spares-fall : (c : RecordChange) (count : PathSpec → ℕ) (old new : KeptPaths) → AreShared old.paths → new.paths ≡ paths_after (moves_in c old.paths) old.paths
    → ((id : ℕ) → spare_of id old ≤ spare_of id new + count_in id (moves_in c old.paths)) → HaveSpares (λ spec. count spec + so_many (is_over c.member spec) 1) old → HaveSpares count new
spares-fall c count old new shared is spare had =
    subst (λ (paths : NumberedPaths). All (λ (path : Numbered KeptPath). count path.item.spec * length path.item.spec.formats ≤ spare_of path.number new) paths) (sym is)
    (All-map (λ (path : Numbered KeptPath). count path.item.spec * length path.item.spec.formats ≤ spare_of path.number new)
    (with_entries (λ path. entries_after (is_falling path.item.spec.ties) path.number (moves_in c old.paths) path.item.entries)) old.paths
    (λ k d low. one (get_or old.paths k d) (is_over c.member (get_or old.paths k d).item.spec) (had k d low) (moves-few c old.paths shared k d low)))
  where
    one : (path : Numbered KeptPath) (b : Bool) → (count path.item.spec + so_many b 1) * length path.item.spec.formats ≤ spare_of path.number old
        → count_in path.number (moves_in c old.paths) ≤ cond b (length path.item.spec.formats) 0 → count path.item.spec * length path.item.spec.formats ≤ spare_of path.number new
    one path true h few =
        left-over (count path.item.spec) 1 (length path.item.spec.formats) (length path.item.spec.formats) (count_in path.number (moves_in c old.paths)) (spare_of path.number old)
        (spare_of path.number new) h (omega (arith, few)) (omega arith) (spare path.number)
    one path false h few =
        left-over (count path.item.spec) 0 (length path.item.spec.formats) 0 (count_in path.number (moves_in c old.paths)) (spare_of path.number old) (spare_of path.number new) h
        (omega (arith, few)) (omega arith) (spare path.number)

module _ (files : Named FileState) (before after : NumberedMembers) (jobs : List JobState) (orders : List (Named OpenOrder)) (moves : List (List (List PathMove))) (old new : KeptPaths) where
  -- the moves of the change were made
  pub record IsMade (c : RecordChange) (made : List PathMove) : Type 0 where
    pub same : made ≡ moves_in c old.paths
    pub paths : new.paths ≡ paths_after made old.paths
    pub spares : (id : ℕ) → spare_of id old ≤ spare_of id new + count_in id made

  pub IsIndexed-record : (c : RecordChange) → AreShared old.paths → IsRecordChange c before after → new.paths ≡ paths_after (moves_in c old.paths) old.paths
      → ((id : ℕ) → spare_of id old ≤ spare_of id new + count_in id (moves_in c old.paths)) → HaveSpares (λ spec. changes_over spec jobs + so_many (is_over c.member spec) 1) old → AreOfBytes after
      → IsIndexed files before jobs orders moves old → IsIndexed files after jobs orders moves new
  IsIndexed-record c shared changes is spare room bytes indexed = record {
    paths = subst (ArePaths files after) (sym is)
        (kept-with entries old.paths (all_paths files) before after (paths-over c before after old.paths changes shared indexed.paths.over) indexed.paths);
    orders = subst (λ (p : NumberedPaths). AllZip (OpensRead files p) jobs orders) (sym is)
        (orders-stay files files old.paths (map (with_entries entries) old.paths) (files-stay files) (any-with entries old.paths) jobs orders indexed.orders);
    moves = indexed.moves ∙ sym (moves-stay old.paths new.paths (λ d. ap (moves_in d) is ∙ moves-with entries d old.paths) jobs);
    room = spares-fall c (λ spec. changes_over spec jobs) old new shared is spare room;
    bytes = bytes;
    views = indexed.views;
  }
    where
      entries : Numbered KeptPath → List Entry
      entries = λ path. entries_after (is_falling path.item.spec.ties) path.number (moves_in c old.paths) path.item.entries

  -- the same, with the moves as they were prepared
  pub IsIndexed-made : (c : RecordChange) (made : List PathMove) → AreShared old.paths → IsRecordChange c before after → IsMade c made → HaveSpares (λ spec. changes_over spec jobs + so_many (is_over c.member spec) 1) old
      → AreOfBytes after → IsIndexed files before jobs orders moves old → IsIndexed files after jobs orders moves new
  IsIndexed-made c made shared changes is =
      IsIndexed-record c shared changes (is.paths ∙ ap (λ (w : List PathMove). paths_after w old.paths) is.same)
      (λ id. subst (λ (w : List PathMove). spare_of id old ≤ spare_of id new + count_in id w) is.same (is.spares id))

module _ (files : Named FileState) (members : NumberedMembers) (jobs : List JobState) (orders : List (Named OpenOrder)) (moves : List (List (List PathMove))) (old new : KeptPaths) (number : ℕ) where
  -- a record behind the last slot
  pub IsIndexed-appended : (image : List ℕ) (made : List PathMove) → AreShared old.paths → IsSome (member_at number members) → AreBytes image
      → made ≡ moves_in (record_added number image members) old.paths → new.paths ≡ paths_after made old.paths → ((id : ℕ) → spare_of id old ≤ spare_of id new + count_in id made)
      → HaveSpares (λ spec. changes_over spec jobs + so_many (is_over number spec) 1) old → IsIndexed files members jobs orders moves old
      → IsIndexed files (with_member number (appended (member_of number members) image) members) jobs orders moves new
  IsIndexed-appended image made shared there bytes same is spare room indexed =
      IsIndexed-made files members (with_member number (appended (member_of number members) image) members) jobs orders moves old new (record_added number image members) made shared
      (added-changes number image members there) (record { same = same; paths = is; spares = spare }) room
      (bytes-with number (appended (member_of number members) image) members
      (bytes-push (member_of number members).slots (Live image) (bytes-member number members indexed.bytes) bytes) indexed.bytes) indexed

  -- another slot in the place of one
  pub IsIndexed-replaced : (rrn : ℕ) (was slot : Slot) (made : List PathMove) → AreShared old.paths → slot_at (member_of number members) rrn ≡ Some was → HasBytes slot
      → made ≡ moves_in (slot_replaced number rrn was slot) old.paths → new.paths ≡ paths_after made old.paths → ((id : ℕ) → spare_of id old ≤ spare_of id new + count_in id made)
      → HaveSpares (λ spec. changes_over spec jobs + so_many (is_over number spec) 1) old → IsIndexed files members jobs orders moves old
      → IsIndexed files (with_member number (changed (member_of number members) rrn slot) members) jobs orders moves new
  IsIndexed-replaced rrn was slot made shared at bytes same is spare room indexed =
      IsIndexed-made files members (with_member number (changed (member_of number members) rrn slot) members) jobs orders moves old new (slot_replaced number rrn was slot) made shared
      (replaced-changes number rrn was slot members at) (record { same = same; paths = is; spares = spare }) room
      (bytes-with number (changed (member_of number members) rrn slot) members (bytes-changed (member_of number members) rrn slot
      (bytes-member number members indexed.bytes) bytes) indexed.bytes) indexed
