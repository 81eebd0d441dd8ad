-- The paths of the member follow its changes.
use Rattle.std.proofs.Common.{◌≡◌, ℕ, zero, suc, ◌+◌, ◌-◌, ◌*◌, ◌<◌, ◌≤◌, ◌==◌, ◌⊎◌, inl, inr, if◌then◌else◌, Bool, true, false, cond, Option, Some, None, IsSome, is_some, List, [], ◌∷◌, ◌++◌, length, slice_get, slice_set, nat_lt, refl, sym, ◌∙◌, ap, subst, arith}
use Rattle.std.specs.Prelude.{All, IfSome, unwrap_or, reverse}
use Rattle.std.specs.List.{AllByRecursion}
use Rattle.std.proofs.lemmas.List.{append-nil}
use Rattle.std.proofs.lemmas.List.Elements.{All-nil, All-cons, All-head, All-tail, All-push, All-weaker, All-map, All-from_recursion, recursion_from_All}
use Rattle.member_slots.specs.declared.slot.Slot.{Slot}
use Rattle.member_slots.specs.declared.slot.Slot.TheVariants.{Live, Deleted}
use Rattle.member_slots.specs.Member.{MemberState, FitsSlot, empty_member, slot_at, appended, changed}
use Rattle.member_slots.specs.Members.{Numbered, NumberedMembers, item_at, with_item, put_item, member_at, member_of, with_member, put_member}
use Rattle.file_model.specs.declared.paths.PathFormat.{PathFormat}
use Rattle.file_model.specs.declared.paths.PathSpec.{PathSpec}
use Rattle.access_path.specs.PathBytes.{members_of}
use Rattle.access_path.specs.Rebuilding.{TakesSlot, TakesAll, member_slots}
use Rattle.path_entrants.specs.Formats.{IsAskable, CanBeAsked}
use Rattle.path_set.specs.declared.moves.PathMove.{PathMove}
use Rattle.path_set.specs.KeptPaths.{KeptPath, KeptPaths, NumberedPaths, AreOver, AreShared, entries_of, spare_of}
use Rattle.path_set.specs.RecordChanges.{RecordChange, TakesImage, TakeImage, moves_in, opposites, path_after, paths_after, CanBeMade, HaveRoom, count_in}
use Rattle.path_set.specs.MemberChanges.{IsRecordChange}
use Rattle.path_set.specs.MemberSteps.{image_in, record_added, slot_replaced}
use Rattle.path_set.specs.Sharing.{CanBeKept, IsShared, IsPut, one_more, path_over}
use Rattle.path_set.proofs.ManyLemmas.{many-few}
use Rattle.path_set.proofs.MemberStepLemmas.{added-changes, replaced-changes}
use Rattle.path_set.proofs.NumberedLemmas.{at-with_same}
use Rattle.path_set.proofs.RecordLemmas.{paths-made, paths-over}
use Rattle.path_set.proofs.UndoLemmas.{moves-undone, over-ordered, undo-made}
use Rattle.index_tests.specs.MemberRecords.{IsRecord, IsRecordSlot, HasRecords, HaveRecords, IsFollowed, AreMovesOf}

-- ---- what paths can be asked

formats-taken : (image : List ℕ) → IsRecord image → (formats : List PathFormat) → HaveRecords formats → All (λ format. format.member ≡ 1 → IsAskable format image) formats
formats-taken image is [] have = absurd have
formats-taken image is (format ∷ []) have =
    All-cons (λ (f : PathFormat). f.member ≡ 1 → IsAskable f image) format [] (λ own. have.asked image is) (All-nil (λ (f : PathFormat). f.member ≡ 1 → IsAskable f image))
formats-taken image is (format ∷ other ∷ more) have = absurd have

slot-taken : (slot : Slot) (spec : PathSpec) → IsRecordSlot slot → HaveRecords spec.formats → TakesImage 1 (image_in slot) spec
slot-taken Deleted spec is have = tt
slot-taken (Live image) spec is have = formats-taken image is spec.formats have

pub slot-takes : (slot : Slot) (paths : NumberedPaths) → IsRecordSlot slot → All (λ path. HaveRecords path.item.spec.formats) paths → TakeImage 1 (image_in slot) paths
slot-takes slot paths is asked =
    All-weaker (λ (path : Numbered KeptPath). HaveRecords path.item.spec.formats) (λ (path : Numbered KeptPath). TakesImage 1 (image_in slot) path.item.spec)
    (λ path have. slot-taken slot path.item.spec is have) paths asked

first-asked : (formats : List PathFormat) (image : List ℕ) → HaveRecords formats → IsRecord image → CanBeAsked formats 0 image
first-asked [] image have is = absurd have
first-asked (format ∷ []) image have is = have.asked image is
first-asked (format ∷ other ∷ more) image have is = absurd have

-- a path that a number finds
item-there : (P : KeptPath → Type 0) (id : ℕ) (paths : NumberedPaths) → AllByRecursion (λ (path : Numbered KeptPath). P path.item) paths → IfSome (item_at id paths) P
item-there P id [] all = tt
item-there P id (path ∷ paths) all = elim (path.number == id) as (λ b. IfSome (if b then Some path.item else item_at id paths) P) [
  | true ↦ all.0
  | false ↦ item-there P id paths all.1
]

some-weaker : (P Q : KeptPath → Type 0) → ((path : KeptPath) → P path → Q path) → (o : Option KeptPath) → IfSome o P → IfSome o Q
some-weaker P Q more None is = tt
some-weaker P Q more (Some path) is = more path is

pub record-asked : (id : ℕ) (image : List ℕ) (paths : NumberedPaths) → IsRecord image → All (λ path. HaveRecords path.item.spec.formats) paths
    → IfSome (item_at id paths) (λ path. CanBeAsked path.spec.formats 0 image)
record-asked id image paths is asked =
    some-weaker (λ (path : KeptPath). HaveRecords path.spec.formats) (λ (path : KeptPath). CanBeAsked path.spec.formats 0 image) (λ path have. first-asked path.spec.formats image have is)
    (item_at id paths) (item-there (λ (path : KeptPath). HaveRecords path.spec.formats) id paths
    (recursion_from_All (λ (path : Numbered KeptPath). HaveRecords path.item.spec.formats) paths asked))

-- ---- the records of the member

record-got : (slots : List Slot) (place : ℕ) (old : Slot) → All IsRecordSlot slots → slice_get slots place ≡ Some old → IsRecordSlot old
record-got [] place old all at = absurd cc
record-got (slot ∷ slots) zero old all at = subst IsRecordSlot (let same : slot ≡ old = cc in same) (All-head IsRecordSlot slot slots all)
record-got (slot ∷ slots) (suc place) old all at = record-got slots place old (All-tail IsRecordSlot slot slots all) at

pub record-at : (member : MemberState) (rrn : ℕ) (old : Slot) → All IsRecordSlot member.slots → slot_at member rrn ≡ Some old → IsRecordSlot old
record-at member rrn old all = elim (rrn == 0) as (λ b. (if b then None else slice_get member.slots (rrn - 1)) ≡ Some old → IsRecordSlot old) [
  | true ↦ λ at. absurd cc
  | false ↦ λ at. record-got member.slots (rrn - 1) old all at
]

pub member-is : (members : NumberedMembers) (member : MemberState) → member_at 1 members ≡ Some member → member_of 1 members ≡ member
member-is members member at = ap (λ (o : Option MemberState). unwrap_or o (empty_member 0)) at

records-set : (slots : List Slot) (place : ℕ) (slot : Slot) → AllByRecursion IsRecordSlot slots → IsRecordSlot slot → AllByRecursion IsRecordSlot (slice_set slots place slot)
records-set [] place slot all own = tt
records-set (s ∷ slots) zero slot all own = (own, all.1)
records-set (s ∷ slots) (suc place) slot all own = (all.0, records-set slots place slot all.1 own)

-- ---- a path more

all-put : (P : KeptPath → Type 0) (id : ℕ) (item : KeptPath) (paths : NumberedPaths) → P item → AllByRecursion (λ (path : Numbered KeptPath). P path.item) paths
    → AllByRecursion (λ (path : Numbered KeptPath). P path.item) (put_item id item paths)
all-put P id item [] own all = (own, tt)
all-put P id item (path ∷ paths) own all =
    let placed : Numbered KeptPath = record { number = id; item = item } in
    elim (nat_lt path.number id) as (λ b. AllByRecursion (λ (p : Numbered KeptPath). P p.item)
    (if b then path ∷ put_item id item paths else (if path.number == id then placed ∷ paths else placed ∷ path ∷ paths))) [
      | true ↦ (all.0, all-put P id item paths own all.1)
      | false ↦ elim (path.number == id) as (λ b. AllByRecursion (λ (p : Numbered KeptPath). P p.item) (if b then placed ∷ paths else placed ∷ path ∷ paths)) [
        | true ↦ (own, all.1)
        | false ↦ (own, all)
      ]
    ]

all-with : (P : KeptPath → Type 0) (id : ℕ) (item : KeptPath) (paths : NumberedPaths) → P item → AllByRecursion (λ (path : Numbered KeptPath). P path.item) paths
    → AllByRecursion (λ (path : Numbered KeptPath). P path.item) (with_item id item paths)
all-with P id item [] own all = tt
all-with P id item (path ∷ paths) own all =
    elim (path.number == id) as (λ b. AllByRecursion (λ (p : Numbered KeptPath). P p.item) (if b then record { number = id; item = item } ∷ paths else path ∷ with_item id item paths)) [
      | true ↦ (own, all.1)
      | false ↦ (all.0, all-with P id item paths own all.1)
    ]

found-holds : (P : KeptPath → Type 0) (o : Option KeptPath) (path : KeptPath) → o ≡ Some path → IfSome o P → P path
found-holds P o path at is = subst (λ (w : Option KeptPath). IfSome w P) at is

-- what holds of each path and of a new one holds of all, where a path is attached
module _ (P : KeptPath → Type 0) (counted : (path : KeptPath) → P path → P (one_more path)) (spec : PathSpec) (members : NumberedMembers) (own : P (path_over spec members)) where
  attached-all : (id : ℕ) (old new : NumberedPaths) → IsShared spec id old new ⊎ IsPut spec members id old new → All (λ path. P path.item) old → All (λ path. P path.item) new
  attached-all id old new (inl shared) all =
      let each = recursion_from_All (λ (path : Numbered KeptPath). P path.item) old all in
      All-from_recursion (λ (path : Numbered KeptPath). P path.item) new
      (subst (λ (paths : NumberedPaths). AllByRecursion (λ (path : Numbered KeptPath). P path.item) paths) (sym shared.counted)
      (all-with P id (one_more shared.path) old (counted shared.path (found-holds P (item_at id old) shared.path shared.there (item-there P id old each))) each))
  attached-all id old new (inr put) all =
      All-from_recursion (λ (path : Numbered KeptPath). P path.item) new
      (subst (λ (paths : NumberedPaths). AllByRecursion (λ (path : Numbered KeptPath). P path.item) paths) (sym put.put)
      (all-put P id (path_over spec members) old own (recursion_from_All (λ (path : Numbered KeptPath). P path.item) old all)))

formats-asked : (formats : List PathFormat) (members : NumberedMembers) → HaveRecords formats → All IsRecordSlot (member_of 1 members).slots
    → TakesAll (CanBeAsked formats) 0 (member_slots (members_of formats) members)
formats-asked [] members have all = absurd have
formats-asked (format ∷ []) members have all = (
  subst (λ (n : ℕ). All (TakesSlot (CanBeAsked (format ∷ []) 0)) (member_of n members).slots) (sym have.member)
      (All-weaker IsRecordSlot (TakesSlot (CanBeAsked (format ∷ []) 0)) each (member_of 1 members).slots all),
  tt,
)
  where
    each : (slot : Slot) → IsRecordSlot slot → TakesSlot (CanBeAsked (format ∷ []) 0) slot
    each (Live image) is = have.asked image is
    each Deleted is = tt
formats-asked (format ∷ other ∷ more) members have all = absurd have

formats-few : (formats : List PathFormat) → HaveRecords formats → length formats ≤ 65535
formats-few [] have = absurd have
formats-few (format ∷ []) have = omega arith
formats-few (format ∷ other ∷ more) have = absurd have

pub can-keep : (spec : PathSpec) (members : NumberedMembers) (paths : NumberedPaths) → HaveRecords spec.formats → IsFollowed members paths → CanBeKept spec members
can-keep spec members paths have is = record { few = formats-few spec.formats have; asked = formats-asked spec.formats members have is.records }

pub followed-attached : (spec : PathSpec) (id : ℕ) (members : NumberedMembers) (old new : NumberedPaths) → HaveRecords spec.formats → IsShared spec id old new ⊎ IsPut spec members id old new
    → IsFollowed members old → IsFollowed members new
followed-attached spec id members old new have attached is = record {
  there = is.there;
  long = is.long;
  records = is.records;
  over = attached-all (λ (path : KeptPath). path.entries ≡ entries_of path.spec members) (λ path own. own) spec members refl id old new attached is.over;
  asked = attached-all (λ (path : KeptPath). HaveRecords path.spec.formats) (λ path own. own) spec members have id old new attached is.asked;
}

pub followed-moved : (members others : NumberedMembers) (paths later : NumberedPaths) → others ≡ members → later ≡ paths → IsFollowed members paths → IsFollowed others later
followed-moved members others paths later same stay is =
    subst (λ (m : NumberedMembers). IsFollowed m later) (sym same) (subst (IsFollowed members) (sym stay) is)

pub followed-new : (members none : NumberedMembers) (member : MemberState) (paths : NumberedPaths) → member ≡ empty_member 6 → none ≡ [] → members ≡ put_member 1 member none → paths ≡ []
    → IsFollowed members paths
followed-new members none member paths empty nothing put no_paths =
    subst (λ (m : NumberedMembers). IsFollowed m paths) (sym (put ∙ ap (put_member 1 member) nothing ∙ ap (λ (m : MemberState). put_member 1 m []) empty))
    (subst (IsFollowed (put_member 1 (empty_member 6) [])) (sym no_paths)
    (record {
      there = refl;
      long = refl;
      records = All-nil IsRecordSlot;
      over = All-nil (λ (path : Numbered KeptPath). path.item.entries ≡ entries_of path.item.spec (put_member 1 (empty_member 6) []));
      asked = All-nil (λ (path : Numbered KeptPath). HaveRecords path.item.spec.formats);
    }))

-- ---- what is prepared

module _ (members : NumberedMembers) (paths : NumberedPaths) (member : MemberState) (rrn : ℕ) (was slot : Slot) (followed : IsFollowed members paths) (found : member_at 1 members ≡ Some member)
    (there : slot_at member rrn ≡ Some was) (own : IsRecordSlot slot) where
  same-member : member_of 1 members ≡ member
  same-member = member-is members member found

  stands : slot_at (member_of 1 members) rrn ≡ Some was
  stands = ap (λ (m : MemberState). slot_at m rrn) same-member ∙ there

  pub old-takes : (old : Option (List ℕ)) → old ≡ image_in was → TakeImage 1 old paths
  old-takes old is =
      subst (λ (o : Option (List ℕ)). TakeImage 1 o paths) (sym is) (slot-takes was paths (record-at (member_of 1 members) rrn was followed.records stands) followed.asked)

  pub new-takes : (new : Option (List ℕ)) → new ≡ image_in slot → TakeImage 1 new paths
  new-takes new is = subst (λ (o : Option (List ℕ)). TakeImage 1 o paths) (sym is) (slot-takes slot paths own followed.asked)

  pub moves-prepared : (old new : Option (List ℕ)) (moves : List PathMove) → old ≡ image_in was → new ≡ image_in slot
      → moves ≡ moves_in (record { member = 1; rrn = rrn; old = old; new = new }) paths → AreMovesOf members paths rrn slot moves
  moves-prepared old new moves before after is = record {
    was = was;
    there = stands;
    same = is
        ∙ ap (λ (o : Option (List ℕ)). moves_in (record { member = 1; rrn = rrn; old = o; new = new }) paths) before
        ∙ ap (λ (o : Option (List ℕ)). moves_in (record { member = 1; rrn = rrn; old = image_in was; new = o }) paths) after;
  }

pub place-in : (members : NumberedMembers) (member : MemberState) (rrn : ℕ) → member_at 1 members ≡ Some member → (1 ≤ rrn) × (rrn ≤ length (member_of 1 members).slots)
    → (1 ≤ rrn) × (rrn ≤ length member.slots)
place-in members member rrn found = subst (λ (m : MemberState). (1 ≤ rrn) × (rrn ≤ length m.slots)) (member-is members member found)

pub slots-in : (members : NumberedMembers) (member : MemberState) (count : ℕ) → member_at 1 members ≡ Some member → count ≡ length member.slots → count ≡ length (member_of 1 members).slots
slots-in members member count found is = is ∙ ap (λ (m : MemberState). length m.slots) (sym (member-is members member found))

pub slots-none : (members : NumberedMembers) → member_at 1 members ≡ None → 0 ≡ length (member_of 1 members).slots
slots-none members none = sym (ap (λ (o : Option MemberState). length (unwrap_or o (empty_member 0)).slots) none)

pub slot-fits : (members : NumberedMembers) (paths : NumberedPaths) (slot : Slot) → IsFollowed members paths → IsRecordSlot slot → FitsSlot (member_of 1 members).record_length slot
slot-fits members paths (Live image) followed own = own.long ∙ sym followed.long
slot-fits members paths Deleted followed own = tt

pub image-fits : (members : NumberedMembers) (paths : NumberedPaths) (image : List ℕ) → IsFollowed members paths → IsRecord image → length image ≡ (member_of 1 members).record_length
image-fits members paths image followed own = own.long ∙ sym followed.long

pub image-takes : (paths : NumberedPaths) (image : List ℕ) (new : Option (List ℕ)) → IsRecord image → All (λ path. HaveRecords path.item.spec.formats) paths → new ≡ Some image → TakeImage 1 new paths
image-takes paths image new own asked is = subst (λ (o : Option (List ℕ)). TakeImage 1 o paths) (sym is) (slot-takes (Live image) paths own asked)

pub none-takes : (paths : NumberedPaths) → TakeImage 1 None paths
none-takes paths k d low = tt

pub record-moves : (members : NumberedMembers) (paths : NumberedPaths) (rrn : ℕ) (image : List ℕ) (old new : Option (List ℕ)) (moves : List PathMove) → rrn ≡ length (member_of 1 members).slots + 1
    → old ≡ None → new ≡ Some image → moves ≡ moves_in (record { member = 1; rrn = rrn; old = old; new = new }) paths → moves ≡ moves_in (record_added 1 image members) paths
record-moves members paths rrn image old new moves number before after is =
    is
    ∙ ap (λ (n : ℕ). moves_in (record { member = 1; rrn = n; old = old; new = new }) paths) number
    ∙ ap (λ (o : Option (List ℕ)). moves_in (record { member = 1; rrn = length (member_of 1 members).slots + 1; old = o; new = new }) paths) before
    ∙ ap (λ (o : Option (List ℕ)). moves_in (record { member = 1; rrn = length (member_of 1 members).slots + 1; old = None; new = o }) paths) after

pub added-same : (members others : NumberedMembers) (paths later : NumberedPaths) (image : List ℕ) (moves : List PathMove) → others ≡ members → later ≡ paths
    → moves ≡ moves_in (record_added 1 image members) paths → moves ≡ moves_in (record_added 1 image others) later
added-same members others paths later image moves same stay is =
    is
    ∙ ap (λ (m : NumberedMembers). moves_in (record_added 1 image m) paths) (sym same)
    ∙ ap (λ (p : NumberedPaths). moves_in (record_added 1 image others) p) (sym stay)

pub moves-same : (members : NumberedMembers) (paths later : NumberedPaths) (rrn : ℕ) (slot : Slot) (moves : List PathMove) → later ≡ paths → AreMovesOf members paths rrn slot moves
    → AreMovesOf members later rrn slot moves
moves-same members paths later rrn slot moves same = subst (λ (p : NumberedPaths). AreMovesOf members p rrn slot moves) (sym same)

-- ---- one change of a record

room-for-one : (kept : KeptPaths) → HaveRoom 1 2 kept → HaveRoom 1 1 kept
room-for-one kept room k d low any = let twice = room k d low any in omega (arith, twice)

module _ (c : RecordChange) (own : c.member ≡ 1) (moves : List PathMove) (before after : NumberedMembers) (kept : KeptPaths) (changes : IsRecordChange c before after) (shared : AreShared kept.paths)
    (over : AreOver before kept.paths) (is : moves ≡ moves_in c kept.paths) (room : HaveRoom 1 2 kept) where
  pub change-can : CanBeMade moves kept
  change-can =
      subst (λ (w : List PathMove). CanBeMade w kept) (sym is)
      (paths-made c before after kept
      (record { changes = changes; shared = shared; over = over; room = subst (λ (n : ℕ). HaveRoom n 1 kept) (sym own) (room-for-one kept room) }))

  -- in the paths after the moves
  over-after : (new : NumberedPaths) → new ≡ paths_after moves kept.paths → AreOver after new
  over-after new made =
      subst (AreOver after) (sym (made ∙ ap (λ (w : List PathMove). paths_after w kept.paths) is)) (paths-over c before after kept.paths changes shared over)

  asked-after : (new : NumberedPaths) → new ≡ paths_after moves kept.paths → All (λ path. HaveRecords path.item.spec.formats) kept.paths → All (λ path. HaveRecords path.item.spec.formats) new
  asked-after new made asked =
      subst (λ (paths : NumberedPaths). All (λ (path : Numbered KeptPath). HaveRecords path.item.spec.formats) paths) (sym made)
      (All-map (λ (path : Numbered KeptPath). HaveRecords path.item.spec.formats) (path_after moves) kept.paths asked)

  -- as many moves back have memory
  back-few : (now : KeptPaths) → ((id : ℕ) → spare_of id kept ≤ spare_of id now + count_in id moves) → (id : ℕ) → count_in id moves ≤ spare_of id now
  back-few now spares id =
      let one : All (λ (d : RecordChange). d.member ≡ 1) (c ∷ []) = All-cons (λ (d : RecordChange). d.member ≡ 1) c [] own (All-nil (λ (d : RecordChange). d.member ≡ 1)) in
      let twice = many-few 1 2 2 (c ∷ []) kept one shared (omega arith) room id in
      let alone : moves_in c kept.paths ++ [] ≡ moves = append-nil (moves_in c kept.paths) ∙ sym is in
      let few : 2 * count_in id moves ≤ spare_of id kept = subst (λ (w : List PathMove). 2 * count_in id w ≤ spare_of id kept) alone twice in
      let left = spares id in
      omega (arith, few, left)

  pub back-can : (back : List PathMove) (now : KeptPaths) → back ≡ opposites moves → now.paths ≡ paths_after moves kept.paths
      → ((id : ℕ) → spare_of id kept ≤ spare_of id now + count_in id moves) → CanBeMade (reverse back) now
  back-can back now opposite made spares =
      subst (λ (w : List PathMove). CanBeMade (reverse w) now) (sym opposite)
      (undo-made moves kept now change-can (over-ordered before kept.paths over) made (back-few now spares))

  pub back-there : (back : List PathMove) (now : KeptPaths) (last : NumberedPaths) → back ≡ opposites moves → now.paths ≡ paths_after moves kept.paths → last ≡ paths_after (reverse back) now.paths
      → last ≡ kept.paths
  back-there back now last opposite made again =
      again
      ∙ ap (λ (w : List PathMove). paths_after (reverse w) now.paths) opposite
      ∙ ap (paths_after (reverse (opposites moves))) made
      ∙ moves-undone moves kept change-can (over-ordered before kept.paths over)

  pub followed-changed : (new : NumberedPaths) → new ≡ paths_after moves kept.paths → IsSome (member_at 1 after) → (member_of 1 after).record_length ≡ 6 → All IsRecordSlot (member_of 1 after).slots
      → All (λ path. HaveRecords path.item.spec.formats) kept.paths → IsFollowed after new
  followed-changed new made there long records asked = record {
    there = there;
    long = long;
    records = records;
    over = over-after new made;
    asked = asked-after new made asked;
  }

-- ---- another slot

module _ (rrn : ℕ) (slot : Slot) (moves : List PathMove) (members : NumberedMembers) (kept : KeptPaths) (shared : AreShared kept.paths) (followed : IsFollowed members kept.paths)
    (is : AreMovesOf members kept.paths rrn slot moves) (room : HaveRoom 1 2 kept) where
  abbrev replaced : MemberState
  replaced = changed (member_of 1 members) rrn slot

  pub put-can : CanBeMade moves kept
  put-can =
      change-can (slot_replaced 1 rrn is.was slot) refl moves members (with_member 1 replaced members) kept (replaced-changes 1 rrn is.was slot members is.there) shared followed.over is.same room

  pub put-back-can : (back : List PathMove) (now : KeptPaths) → back ≡ opposites moves → now.paths ≡ paths_after moves kept.paths
      → ((id : ℕ) → spare_of id kept ≤ spare_of id now + count_in id moves) → CanBeMade (reverse back) now
  put-back-can =
      back-can (slot_replaced 1 rrn is.was slot) refl moves members (with_member 1 replaced members) kept (replaced-changes 1 rrn is.was slot members is.there) shared followed.over is.same room

  put-back : (back : List PathMove) (now : KeptPaths) (last : NumberedPaths) → back ≡ opposites moves → now.paths ≡ paths_after moves kept.paths → last ≡ paths_after (reverse back) now.paths
      → last ≡ kept.paths
  put-back =
      back-there (slot_replaced 1 rrn is.was slot) refl moves members (with_member 1 replaced members) kept (replaced-changes 1 rrn is.was slot members is.there) shared followed.over is.same room

  pub followed-back : (back : List PathMove) (now : KeptPaths) (last : NumberedPaths) → back ≡ opposites moves → now.paths ≡ paths_after moves kept.paths → last ≡ paths_after (reverse back) now.paths
      → IsFollowed members last
  followed-back back now last opposite made again = subst (IsFollowed members) (sym (put-back back now last opposite made again)) followed

  put-there : member_at 1 (with_member 1 replaced members) ≡ Some replaced
  put-there = at-with_same 1 replaced members followed.there

  put-long : replaced.record_length ≡ (member_of 1 members).record_length
  put-long = elim (rrn == 0) as (λ b. (if b then member_of 1 members else record (member_of 1 members) { slots = slice_set (member_of 1 members).slots (rrn - 1) slot }).record_length
      ≡ (member_of 1 members).record_length) [
        | true ↦ refl
        | false ↦ refl
      ]

  put-records : IsRecordSlot slot → All IsRecordSlot replaced.slots
  put-records own =
      let all = recursion_from_All IsRecordSlot (member_of 1 members).slots followed.records in
      All-from_recursion IsRecordSlot replaced.slots
      (elim (rrn == 0) as (λ b. AllByRecursion IsRecordSlot
      (if b then member_of 1 members else record (member_of 1 members) { slots = slice_set (member_of 1 members).slots (rrn - 1) slot }).slots) [
        | true ↦ all
        | false ↦ records-set (member_of 1 members).slots (rrn - 1) slot all own
      ])

  pub followed-put : (after : NumberedMembers) (new : NumberedPaths) → after ≡ with_member 1 replaced members → new ≡ paths_after moves kept.paths → IsRecordSlot slot → IsFollowed after new
  followed-put after new same made own =
      let now : member_of 1 (with_member 1 replaced members) ≡ replaced = member-is (with_member 1 replaced members) replaced put-there in
      subst (λ (m : NumberedMembers). IsFollowed m new) (sym same)
      (followed-changed (slot_replaced 1 rrn is.was slot) refl moves members (with_member 1 replaced members) kept (replaced-changes 1 rrn is.was slot members is.there) shared followed.over is.same room
      new made (ap (λ (o : Option MemberState). is_some o) put-there) (ap (λ (m : MemberState). m.record_length) now ∙ put-long ∙ followed.long)
      (subst (λ (m : MemberState). All IsRecordSlot m.slots) (sym now) (put-records own)) followed.asked)

-- ---- a record more

module _ (image : List ℕ) (moves : List PathMove) (members : NumberedMembers) (kept : KeptPaths) (shared : AreShared kept.paths) (followed : IsFollowed members kept.paths)
    (is : moves ≡ moves_in (record_added 1 image members) kept.paths) (room : HaveRoom 1 2 kept) where
  abbrev grown : MemberState
  grown = appended (member_of 1 members) image

  pub add-can : CanBeMade moves kept
  add-can = change-can (record_added 1 image members) refl moves members (with_member 1 grown members) kept (added-changes 1 image members followed.there) shared followed.over is room

  add-there : member_at 1 (with_member 1 grown members) ≡ Some grown
  add-there = at-with_same 1 grown members followed.there

  pub followed-added : (after : NumberedMembers) (new : NumberedPaths) → after ≡ with_member 1 grown members → new ≡ paths_after moves kept.paths → IsRecord image → IsFollowed after new
  followed-added after new same made own =
      let now : member_of 1 (with_member 1 grown members) ≡ grown = member-is (with_member 1 grown members) grown add-there in
      subst (λ (m : NumberedMembers). IsFollowed m new) (sym same)
      (followed-changed (record_added 1 image members) refl moves members (with_member 1 grown members) kept (added-changes 1 image members followed.there) shared followed.over is room
      new made (ap (λ (o : Option MemberState). is_some o) add-there) (ap (λ (m : MemberState). m.record_length) now ∙ followed.long)
      (subst (λ (m : MemberState). All IsRecordSlot m.slots) (sym now) (All-push IsRecordSlot (member_of 1 members).slots (Live image) followed.records own)) followed.asked)
