-- The kept paths are those of a library still, when slots are given to a member one after the other and the moves of all are made in them; and
-- when these are taken back.
use Rattle.std.proofs.Common.{ℕ, suc, ◌==◌, ◌+◌, ◌*◌, ◌<◌, ◌≤◌, ◌≡◌, Bool, true, false, cond, List, [], ◌∷◌, length, map, get_or, refl, sym, ap, arith, ◌∙◌, subst}
use Rattle.std.specs.Prelude.{All, filter, reverse}
use Rattle.std.specs.List.{AllByRecursion, AllZip}
use Rattle.std.proofs.lemmas.List.Elements.{All-from_recursion, All-map}
use Rattle.std.proofs.Math.Nat.{add-mul, suc-mul, mul-le-mul_left}
use Rattle.key_pages.specs.declared.entries.Entry.{Entry}
use Rattle.member_slots.specs.declared.slot.Slot.{Slot}
use Rattle.member_slots.specs.Members.{Numbered, NumberedMembers}
use Rattle.file_model.specs.declared.paths.PathSpec.{PathSpec}
use Rattle.journal_model.specs.Places.{slot_of, put_slot}
use Rattle.access_path.specs.Moves.{opposite}
use Rattle.access_path.specs.PathBytes.{is_falling}
use Rattle.path_set.specs.declared.moves.PathMove.{PathMove}
use Rattle.path_set.specs.KeptPaths.{KeptPath, KeptPaths, NumberedPaths, AreOver, AreShared, spare_of}
use Rattle.path_set.specs.RecordChanges.{RecordChange, moves_in, entries_after, paths_after, HaveRoom, CanBeMade, count_in, opposites}
use Rattle.path_set.specs.ManyChanges.{moves_of_all, LeadTo}
use Rattle.path_set.specs.MemberSteps.{is_over, slot_replaced}
use Rattle.path_set.proofs.ManyLemmas.{many-few, many-made, many-over}
use Rattle.path_set.proofs.RecordLemmas.{count-append}
use Rattle.path_set.proofs.RoomLemmas.{moves-few}
use Rattle.path_set.proofs.UndoLemmas.{moves-undone, over-ordered, undo-made}
use Rattle.job_table.specs.Opens.{OpenOrder}
use Rattle.job_table.specs.Table.{changes_held}
use Rattle.library_model.specs.Named.{Named}
use Rattle.library_paths.specs.AllPaths.{all_paths}
use Rattle.library_paths.specs.KeptOnce.{with_entries}
use Rattle.library_paths.proofs.KeptLemmas.{kept-with}
use Rattle.library_steps.specs.State.{FileState, JobState}
use Rattle.range_images.specs.declared.slot_given.SlotGiven.{SlotGiven}
use Rattle.range_images.specs.Given.{place_given}
use Rattle.given_changes.specs.GivenChanges.{changes_given}
use Rattle.parts_model.specs.Indexed.{AreOfBytes, ArePaths, OpensRead, HaveSpares, moves_of_job, changes_over, IsIndexed}
use Rattle.parts_model.proofs.IndexMoves.{changes-held}
use Rattle.parts_model.proofs.IndexPaths.{any-with, moves-stay, moves-with, orders-stay, room-fewer, room-of_spares, so_many, spares-fewer, spares-with}
use Rattle.parts_model.proofs.IndexRecords.{left-over}
use Rattle.parts_model.proofs.IndexShared.{files-stay}

-- ---- how many moves they have in a path

module _ (number : ℕ) (paths : NumberedPaths) (shared : AreShared paths) (k : ℕ) (d : Numbered KeptPath) (low : k < length paths) where
  abbrev path : Numbered KeptPath
  path = get_or paths k d

  -- a change has so many at most
  abbrev most : ℕ
  most = cond (is_over number path.item.spec) (length path.item.spec.formats) 0

  pub given-few : (given : List SlotGiven) (slots : List Slot) → count_in (get_or paths k d).number (moves_of_all (changes_given number given slots) paths)
      ≤ length given * cond (is_over number (get_or paths k d).item.spec) (length (get_or paths k d).item.spec.formats) 0
  given-few [] slots = omega arith
  given-few (g ∷ given) slots =
      let c : RecordChange = slot_replaced number g.rrn (slot_of slots (place_given g)) g.slot in
      let one = moves-few c paths shared k d low in
      let rest = given-few given (put_slot slots (place_given g) g.slot) in
      let both = count-append path.number (moves_in c paths) (moves_of_all (changes_given number given (put_slot slots (place_given g) g.slot)) paths) in
      let product = suc-mul (length given) most in
      omega (arith, one, rest, both, product)

module _ (number : ℕ) (given : List SlotGiven) (slots : List Slot) (old new : KeptPaths) (shared : AreShared old.paths)
    (is : new.paths ≡ paths_after (moves_of_all (changes_given number given slots) old.paths) old.paths)
    (spare : (id : ℕ) → spare_of id old ≤ spare_of id new + count_in id (moves_of_all (changes_given number given slots) old.paths)) where
  abbrev made : List PathMove
  made = moves_of_all (changes_given number given slots) old.paths

  abbrev entries : Numbered KeptPath → List Entry
  entries = λ path. entries_after (is_falling path.item.spec.ties) path.number made path.item.entries

  -- the paths over the member have the memory for so many more still
  pub room-given : (count : PathSpec → ℕ) → HaveSpares (λ spec. count spec + so_many (is_over number spec) (length given)) old → HaveSpares count new
  room-given count had =
      subst (λ (paths : NumberedPaths). All (λ (path : Numbered KeptPath). count path.item.spec * length path.item.spec.formats ≤ spare_of path.number new) paths) (sym is)
      (All-map (λ (path : Numbered KeptPath). count path.item.spec * length path.item.spec.formats ≤ spare_of path.number new) (with_entries entries) old.paths
      (λ k d low. one (get_or old.paths k d) (is_over number (get_or old.paths k d).item.spec) (had k d low) (given-few number old.paths shared k d low given slots)))
    where
      one : (path : Numbered KeptPath) (b : Bool) → (count path.item.spec + so_many b (length given)) * length path.item.spec.formats ≤ spare_of path.number old
          → count_in path.number (moves_of_all (changes_given number given slots) old.paths) ≤ length given * cond b (length path.item.spec.formats) 0
          → count path.item.spec * length path.item.spec.formats ≤ spare_of path.number new
      one path true h few =
          left-over (count path.item.spec) (length given) (length path.item.spec.formats) (length path.item.spec.formats)
          (count_in path.number (moves_of_all (changes_given number given slots) old.paths)) (spare_of path.number old) (spare_of path.number new) h few (omega arith) (spare path.number)
      one path false h few =
          left-over (count path.item.spec) 0 (length path.item.spec.formats) 0
          (count_in path.number (moves_of_all (changes_given number given slots) old.paths)) (spare_of path.number old) (spare_of path.number new) h (omega (arith, few)) (omega arith)
          (spare path.number)

  -- the paths are those of the members after the last slot
  pub IsIndexed-given : (files : Named FileState) (before after : NumberedMembers) (jobs : List JobState) (orders : List (Named OpenOrder)) (moves : List (List (List PathMove)))
      → LeadTo (changes_given number given slots) before after → HaveSpares (λ spec. changes_over spec jobs + so_many (is_over number spec) (length given)) old → AreOfBytes after → IsIndexed files before jobs orders moves old
      → IsIndexed files after jobs orders moves new
  IsIndexed-given files before after jobs orders moves lead room bytes indexed = record {
    paths = subst (ArePaths files after) (sym is)
        (kept-with entries old.paths (all_paths files) before after (many-over (changes_given number given slots) before after old.paths lead shared indexed.paths.over) indexed.paths);
    orders = subst (λ (p : NumberedPaths). AllZip (OpensRead files p) jobs orders) (sym is)
        (orders-stay files files old.paths (map (with_entries entries) old.paths) (files-stay files) (any-with entries old.paths) jobs orders indexed.orders);
    moves = indexed.moves ∙ sym (moves-stay old.paths new.paths (λ c. ap (moves_in c) is ∙ moves-with entries c old.paths) jobs);
    room = room-given (λ spec. changes_over spec jobs) room;
    bytes = bytes;
    views = indexed.views;
  }

-- ---- room for all of them, and for taking them back

-- where the paths over a member have room for all changes that are held, they have for those that they are over
module _ (files : Named FileState) (members : NumberedMembers) (jobs : List JobState) (orders : List (Named OpenOrder)) (moves : List (List (List PathMove))) (number : ℕ) (kept : KeptPaths) where
  pub room-of-all : (given : List SlotGiven) → (1 ≤ length given → HaveRoom number (changes_held jobs + 2 * length given) kept) → IsIndexed files members jobs orders moves kept
      → HaveSpares (λ spec. changes_over spec jobs + so_many (is_over number spec) (length given + length given)) kept
  room-of-all [] had indexed = spares-fewer (λ spec. changes_over spec jobs + so_many (is_over number spec) 0) (λ spec. changes_over spec jobs) kept (λ spec. none spec (is_over number spec)) indexed.room
    where
      none : (spec : PathSpec) (b : Bool) → changes_over spec jobs + so_many b 0 ≤ changes_over spec jobs
      none spec true = omega arith
      none spec false = omega arith
  room-of-all (g ∷ given) had indexed =
      spares-with number (length (g ∷ given) + length (g ∷ given)) (changes_held jobs + 2 * length (g ∷ given)) (λ spec. changes_over spec jobs) kept
      (λ spec. let fewer = changes-held spec jobs in omega (arith, fewer)) (had (omega arith)) indexed.room

-- half of that
pub half-room : (number given : ℕ) (count : PathSpec → ℕ) (kept : KeptPaths) → HaveSpares (λ spec. count spec + so_many (is_over number spec) (given + given)) kept
    → HaveSpares (λ spec. count spec + so_many (is_over number spec) given) kept
half-room number given count kept =
    spares-fewer (λ spec. count spec + so_many (is_over number spec) given) (λ spec. count spec + so_many (is_over number spec) (given + given)) kept (λ spec. fewer (count spec) (is_over number spec))
  where
    fewer : (n : ℕ) (b : Bool) → n + so_many b given ≤ n + so_many b (given + given)
    fewer n true = omega arith
    fewer n false = omega arith

-- and that of the member alone
pub own-room : (number most : ℕ) (count : PathSpec → ℕ) (kept : KeptPaths) → HaveSpares (λ spec. count spec + so_many (is_over number spec) most) kept → HaveRoom number most kept
own-room number most count kept =
    room-of_spares number most (λ spec. count spec + so_many (is_over number spec) most) kept
    (λ spec over. let own : so_many (is_over number spec) most ≡ most = ap (λ (b : Bool). so_many b most) over in omega (arith, own))

own-given : (number : ℕ) (given : List SlotGiven) (slots : List Slot) → AllByRecursion (λ (c : RecordChange). c.member ≡ number) (changes_given number given slots)
own-given number [] slots = tt
own-given number (g ∷ given) slots = (refl, own-given number given (put_slot slots (place_given g) g.slot))

pub long-given : (number : ℕ) (given : List SlotGiven) (slots : List Slot) → length (changes_given number given slots) ≡ length given
long-given number [] slots = refl
long-given number (g ∷ given) slots = let rest = long-given number given (put_slot slots (place_given g) g.slot) in omega (arith, rest)

module _ (number : ℕ) (given : List SlotGiven) (slots : List Slot) (before after : NumberedMembers) (kept : KeptPaths) (lead : LeadTo (changes_given number given slots) before after)
    (shared : AreShared kept.paths) (over : AreOver before kept.paths) where
  all-own : All (λ (c : RecordChange). c.member ≡ number) (changes_given number given slots)
  all-own = All-from_recursion (λ (c : RecordChange). c.member ≡ number) (changes_given number given slots) (own-given number given slots)

  -- the moves can be made
  pub given-made : HaveRoom number (length given) kept → CanBeMade (moves_of_all (changes_given number given slots) kept.paths) kept
  given-made room =
      many-made number (changes_given number given slots) before after kept all-own lead shared over
      (subst (λ (n : ℕ). HaveRoom number n kept) (sym (long-given number given slots)) room)

  -- and taken back
  pub given-back : (now : KeptPaths) → HaveRoom number (length given + length given) kept → now.paths ≡ paths_after (moves_of_all (changes_given number given slots) kept.paths) kept.paths
      → ((id : ℕ) → spare_of id kept ≤ spare_of id now + count_in id (moves_of_all (changes_given number given slots) kept.paths))
      → CanBeMade (reverse (opposites (moves_of_all (changes_given number given slots) kept.paths))) now
  given-back now room is spare =
      let long = long-given number given slots in
      undo-made (moves_of_all (changes_given number given slots) kept.paths) kept now (given-made (room-fewer number (length given) (length given + length given) kept (omega arith) room))
      (over-ordered before kept.paths over) is
      (λ id.
      let twice = many-few number 2 (length given + length given) (changes_given number given slots) kept all-own shared (omega (arith, long)) room id in
      let left = spare id in
      omega (arith, twice, left))

  pub given-undone : (now later : KeptPaths) → HaveRoom number (length given) kept → now.paths ≡ paths_after (moves_of_all (changes_given number given slots) kept.paths) kept.paths
      → later.paths ≡ paths_after (reverse (opposites (moves_of_all (changes_given number given slots) kept.paths))) now.paths → later.paths ≡ kept.paths
  given-undone now later room is undone =
      undone ∙ ap (paths_after (reverse (opposites (moves_of_all (changes_given number given slots) kept.paths)))) is
      ∙ moves-undone (moves_of_all (changes_given number given slots) kept.paths) kept (given-made room) (over-ordered before kept.paths over)

-- the moves back are as many
pub count-back : (id : ℕ) (xs : List PathMove) → count_in id (opposites xs) ≡ count_in id xs
count-back id [] = refl
count-back id (x ∷ xs) = by (x.id == id) (count-back id xs)
  where
    by : (b : Bool) → count_in id (opposites xs) ≡ count_in id xs
        → length (cond b (record { id = x.id; change = opposite x.change } ∷ filter (λ (m : PathMove). m.id == id) (opposites xs)) (filter (λ (m : PathMove). m.id == id) (opposites xs)))
        ≡ length (cond b (x ∷ filter (λ (m : PathMove). m.id == id) xs) (filter (λ (m : PathMove). m.id == id) xs))
    by true same = ap (λ (n : ℕ). suc n) same
    by false same = same

-- so much is left once the moves were made and taken back
left-twice : (more many formats most count old new : ℕ) → (more + (many + many)) * formats ≤ old → count ≤ many * most → most ≤ formats → old ≤ new + count + count → more * formats ≤ new
left-twice more many formats most count old new had few fits spare =
    let first = add-mul more (many + many) formats in
    let second = add-mul many many formats in
    let fewer = mul-le-mul_left many fits in
    omega (arith, had, few, spare, first, second, fewer)

module _ (number : ℕ) (given : List SlotGiven) (slots : List Slot) (old new : KeptPaths) (shared : AreShared old.paths) (same : new.paths ≡ old.paths)
    (spare : (id : ℕ) → spare_of id old ≤ spare_of id new + count_in id (moves_of_all (changes_given number given slots) old.paths) + count_in id (moves_of_all (changes_given number given slots) old.paths)) where
  twice-left : (count : PathSpec → ℕ) → HaveSpares (λ spec. count spec + so_many (is_over number spec) (length given + length given)) old → HaveSpares count new
  twice-left count had =
      subst (λ (paths : NumberedPaths). All (λ (path : Numbered KeptPath). count path.item.spec * length path.item.spec.formats ≤ spare_of path.number new) paths) (sym same)
      (λ k d low. one (get_or old.paths k d) (is_over number (get_or old.paths k d).item.spec) (had k d low) (given-few number old.paths shared k d low given slots))
    where
      one : (path : Numbered KeptPath) (b : Bool) → (count path.item.spec + so_many b (length given + length given)) * length path.item.spec.formats ≤ spare_of path.number old
          → count_in path.number (moves_of_all (changes_given number given slots) old.paths) ≤ length given * cond b (length path.item.spec.formats) 0
          → count path.item.spec * length path.item.spec.formats ≤ spare_of path.number new
      one path true h few =
          left-twice (count path.item.spec) (length given) (length path.item.spec.formats) (length path.item.spec.formats)
          (count_in path.number (moves_of_all (changes_given number given slots) old.paths)) (spare_of path.number old) (spare_of path.number new) h few (omega arith) (spare path.number)
      one path false h few =
          left-twice (count path.item.spec) 0 (length path.item.spec.formats) 0
          (count_in path.number (moves_of_all (changes_given number given slots) old.paths)) (spare_of path.number old) (spare_of path.number new) h (omega (arith, few)) (omega arith)
          (spare path.number)

  -- the paths are those of the members as they were
  pub IsIndexed-undone : (files : Named FileState) (members : NumberedMembers) (jobs : List JobState) (orders : List (Named OpenOrder)) (moves : List (List (List PathMove)))
      → HaveSpares (λ spec. changes_over spec jobs + so_many (is_over number spec) (length given + length given)) old → IsIndexed files members jobs orders moves old → IsIndexed files members jobs orders moves new
  IsIndexed-undone files members jobs orders moves room indexed = record {
    paths = subst (ArePaths files members) (sym same) indexed.paths;
    orders = subst (λ (p : NumberedPaths). AllZip (OpensRead files p) jobs orders) (sym same) indexed.orders;
    moves = indexed.moves ∙ ap (λ (p : NumberedPaths). map (moves_of_job p) jobs) (sym same);
    room = twice-left (λ spec. changes_over spec jobs) room;
    bytes = indexed.bytes;
    views = indexed.views;
  }
