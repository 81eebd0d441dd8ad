-- What a changed slot is to the kept paths: its moves can be made, what they give back takes it back, and room for the changes of open commit cycles is left.
use Rattle.std.proofs.Common.{ℕ, zero, suc, ◌+◌, ◌-◌, ◌<◌, ◌≤◌, ◌≡◌, ◌==◌, if◌then◌else◌, Bool, true, false, cond, List, [], ◌∷◌, length, Option, Some, None, is_some, IsSome, slice_get, slice_set, refl, sym, ap, arith, ◌∙◌, subst}
use Rattle.std.specs.Prelude.{filter, unwrap_or}
use Rattle.std.proofs.lemmas.Bool.{cond-false, ne_eqb}
use Rattle.std.proofs.lemmas.List.Sums.{sum_by-cons}
use Rattle.access_path.specs.KeyFields.{AreBytes}
use Rattle.journal_model.specs.Rollback.{MemberChange}
use Rattle.member_slots.specs.declared.slot.Slot.{Slot}
use Rattle.member_slots.specs.declared.slot.Slot.TheVariants.{Live, Deleted}
use Rattle.member_slots.specs.Member.{MemberState, empty_member, slot_at, appended, changed}
use Rattle.member_slots.specs.Members.{NumberedMembers, member_at, member_of, with_member}
use Rattle.file_model.specs.declared.paths.PathSpec.{PathSpec}
use Rattle.path_set.specs.declared.moves.PathMove.{PathMove}
use Rattle.path_set.specs.KeptPaths.{KeptPaths, NumberedPaths, AreShared, AreOver, spare_of}
use Rattle.path_set.specs.RecordChanges.{RecordChange, reversed, moves_in, opposites, paths_after, HaveRoom, CanBeMade, count_in}
use Rattle.path_set.specs.MemberSteps.{is_over, record_added, slot_replaced}
use Rattle.path_set.proofs.MemberStepLemmas.{added-changes, added-there, replaced-changes}
use Rattle.path_set.proofs.NumberedLemmas.{at-with_same}
use Rattle.path_set.proofs.RecordLemmas.{moves-later, moves-opposite, paths-made}
use Rattle.path_set.proofs.RoomLemmas.{room-falls}
use Rattle.job_table.specs.Opens.{OpenOrder}
use Rattle.job_table.specs.Changes.{change_of}
use Rattle.job_table.specs.Table.{changes_held}
use Rattle.library_model.specs.Named.{Named}
use Rattle.library_steps.specs.Records.{slot_there}
use Rattle.library_steps.specs.SlotChange.{with_slot}
use Rattle.library_steps.specs.State.{Memory, FileState, JobState}
use Rattle.library_steps.specs.Uses.{changes_in}
use Rattle.parts_model.specs.Indexed.{HasBytes, HaveSpares, moves_back, changes_over, IsIndexed}
use Rattle.lawful_states.proofs.MemberLemmas.{slot_put-appended, slot_put-changed}
use Rattle.parts_model.proofs.IndexChanges.{record_change-of}
use Rattle.parts_model.proofs.IndexPaths.{counted_in, changes_over-cons, so_many, spares-with}
use Rattle.parts_model.proofs.IndexRecords.{IsIndexed-appended, IsIndexed-replaced}

-- ---- room for all changes that are held

filter-shorter : (test : MemberChange → Bool) (undos : List MemberChange) → length (filter test undos) ≤ length undos
filter-shorter test [] = omega arith
filter-shorter test (undo ∷ undos) =
    let rest = filter-shorter test undos in
    elim (test undo) as (λ b. length (cond b (undo ∷ filter test undos) (filter test undos)) ≤ suc (length undos)) [
      | true ↦ omega (arith, rest)
      | false ↦ omega (arith, rest)
    ]

pub changes-held : (spec : PathSpec) (jobs : List JobState) → changes_over spec jobs ≤ changes_held jobs
changes-held spec [] = omega arith
changes-held spec (job ∷ jobs) =
    let some = changes_over-cons spec job jobs in
    let all : changes_held (job ∷ jobs) ≡ length (changes_in job.cycle) + changes_held jobs = sum_by-cons (λ (j : JobState). length (changes_in j.cycle)) job jobs in
    let own : counted_in spec job ≤ length (changes_in job.cycle) = filter-shorter (λ (undo : MemberChange). is_over undo.member spec) (changes_in job.cycle) in
    let rest = changes-held spec jobs in
    omega (arith, some, all, own, rest)

-- where the paths over a member have room for all of them and more, they have for those that they are over and as many more
pub spares-held : (member more : ℕ) (jobs : List JobState) (kept : KeptPaths) → HaveRoom member (changes_held jobs + more) kept → HaveSpares (λ spec. changes_over spec jobs) kept
    → HaveSpares (λ spec. changes_over spec jobs + so_many (is_over member spec) more) kept
spares-held member more jobs kept =
    spares-with member more (changes_held jobs + more) (λ spec. changes_over spec jobs) kept (λ spec. let fewer = changes-held spec jobs in omega (arith, fewer))

-- after a change there is room for one fewer
pub room-left : (c : RecordChange) (made : List PathMove) (member held more : ℕ) (old new : KeptPaths) → AreShared old.paths → made ≡ moves_in c old.paths → new.paths ≡ paths_after made old.paths
    → ((id : ℕ) → spare_of id old ≤ spare_of id new + count_in id made) → HaveRoom member (held + (more + 1)) old → HaveRoom member (held + more) new
room-left c made member held more old new shared same is spare had =
    room-falls c member (held + more) old new shared (subst (λ (n : ℕ). HaveRoom member n old) (let e : held + (more + 1) ≡ held + more + 1 = omega arith in e) had)
    (is ∙ ap (λ (w : List PathMove). paths_after w old.paths) same)
    (λ id. subst (λ (w : List PathMove). spare_of id old ≤ spare_of id new + count_in id w) same (spare id))

-- what moves give back, in the paths after them
pub back-in : (c : RecordChange) (made : List PathMove) (old new : NumberedPaths) → made ≡ moves_in c old → new ≡ paths_after made old → opposites made ≡ moves_in (reversed c) new
back-in c made old new same is =
    ap opposites same
    ∙ moves-opposite c old
    ∙ sym (ap (moves_in (reversed c)) is ∙ moves-later (reversed c) made old)

-- ---- slots by their numbers

pub at-place : (member : MemberState) (rrn : ℕ) → 1 ≤ rrn → slot_at member rrn ≡ slice_get member.slots (rrn - 1)
at-place member rrn first = cond-false (rrn == 0) None (slice_get member.slots (rrn - 1)) (ne_eqb rrn 0 (λ e. absurd (omega (arith, e, first))))

some-self : (o : Option Slot) → IsSome o → o ≡ Some (unwrap_or o Deleted)
some-self None there = absurd cc
some-self (Some slot) there = refl

-- a place that the member has
pub slot-stands : (member : MemberState) (rrn : ℕ) → 1 ≤ rrn → rrn ≤ length member.slots → slot_at member rrn ≡ Some (unwrap_or (slot_at member rrn) Deleted)
slot-stands member rrn first last = some-self (slot_at member rrn) (ap (λ (o : Option Slot). is_some o) (at-place member rrn first) ∙ got member.slots (rrn - 1) (omega (arith, first, last)))
  where
    got : (slots : List Slot) (place : ℕ) → place < length slots → is_some (slice_get slots place) ≡ true
    got [] place low = absurd (omega (arith, low))
    got (s ∷ slots) zero low = refl
    got (s ∷ slots) (suc place) low = got slots place (omega (arith, low))

-- behind the last there is none
pub behind-last : (member : MemberState) → unwrap_or (slot_at member (length member.slots + 1)) Deleted ≡ Deleted
behind-last member =
    ap (λ (o : Option Slot). unwrap_or o Deleted)
    (at-place member (length member.slots + 1) (omega arith)
    ∙ ap (slice_get member.slots) (let e : length member.slots + 1 - 1 ≡ length member.slots = omega arith in e)
    ∙ past member.slots)
  where
    past : (slots : List Slot) → slice_get slots (length slots) ≡ None
    past [] = refl
    past (s ∷ slots) = past slots

-- another slot stands where it was put
pub slot-put : (number rrn : ℕ) (was slot : Slot) (members : NumberedMembers) → IsSome (member_at number members) → slot_at (member_of number members) rrn ≡ Some was
    → slot_at (member_of number (with_member number (changed (member_of number members) rrn slot) members)) rrn ≡ Some slot
slot-put number rrn was slot members there at =
    ap (λ (o : Option MemberState). slot_at (unwrap_or o (empty_member 0)) rrn) (at-with_same number (changed (member_of number members) rrn slot) members there)
    ∙ put (member_of number members) at
  where
    set-there : (slots : List Slot) (place : ℕ) → slice_get slots place ≡ Some was → slice_get (slice_set slots place slot) place ≡ Some slot
    set-there [] place e = absurd cc
    set-there (s ∷ slots) zero e = refl
    set-there (s ∷ slots) (suc place) e = set-there slots place e

    put : (member : MemberState) → slot_at member rrn ≡ Some was → slot_at (changed member rrn slot) rrn ≡ Some slot
    put member =
        elim (rrn == 0) as (λ b. (if b then None else slice_get member.slots (rrn - 1)) ≡ Some was
        → (if b then None else slice_get (if b then member else record member { slots = slice_set member.slots (rrn - 1) slot }).slots (rrn - 1)) ≡ Some slot) [
          | true ↦ λ e. absurd cc
          | false ↦ λ e. set-there member.slots (rrn - 1) e
        ]

-- ---- a record behind the last slot

module _ (number : ℕ) (image : List ℕ) (members : NumberedMembers) where
  abbrev behind : ℕ
  behind = length (member_of number members).slots + 1

  abbrev grown : NumberedMembers
  grown = with_member number (appended (member_of number members) image) members

  -- its moves, by the slot that there is none of yet
  pub append-moves : (made : List PathMove) (paths : NumberedPaths)
      → made ≡ moves_in (slot_replaced number (length (member_of number members).slots + 1) (unwrap_or (slot_at (member_of number members) (length (member_of number members).slots + 1)) Deleted)
      (Live image)) paths
      → made ≡ moves_in (record_added number image members) paths
  append-moves made paths is = is ∙ ap (λ (s : Slot). moves_in (slot_replaced number (length (member_of number members).slots + 1) s (Live image)) paths) (behind-last (member_of number members))

  pub append-can : (made : List PathMove) (kept : KeptPaths) → AreShared kept.paths → IsSome (member_at number members) → AreOver members kept.paths → HaveRoom number 1 kept
      → made ≡ moves_in (record_added number image members) kept.paths → CanBeMade made kept
  append-can made kept shared there over room same =
      subst (λ (w : List PathMove). CanBeMade w kept) (sym same)
      (paths-made (record_added number image members) members grown kept (record { changes = added-changes number image members there; shared = shared; over = over; room = room }))

  -- what they give back
  pub append-back : (made : List PathMove) (old new : NumberedPaths) → IsSome (member_at number members) → made ≡ moves_in (record_added number image members) old → new ≡ paths_after made old
      → opposites made
      ≡ moves_in (slot_replaced number (length (member_of number members).slots + 1)
      (unwrap_or (slot_at (member_of number (with_member number (appended (member_of number members) image) members)) (length (member_of number members).slots + 1)) Deleted) Deleted) new
  append-back made old new there same is =
      back-in (record_added number image members) made old new same is
      ∙ ap (λ (o : Option Slot). moves_in (slot_replaced number (length (member_of number members).slots + 1) (unwrap_or o Deleted) Deleted) new) (sym (added-there number image members there))

-- ---- another slot

module _ (number rrn : ℕ) (was slot : Slot) (members : NumberedMembers) (at : slot_at (member_of number members) rrn ≡ Some was) where
  pub replace-can : (made : List PathMove) (kept : KeptPaths) → AreShared kept.paths → AreOver members kept.paths → HaveRoom number 1 kept
      → made ≡ moves_in (slot_replaced number rrn was slot) kept.paths → CanBeMade made kept
  replace-can made kept shared over room same =
      subst (λ (w : List PathMove). CanBeMade w kept) (sym same)
      (paths-made (slot_replaced number rrn was slot) members (with_member number (changed (member_of number members) rrn slot) members) kept
      (record { changes = replaced-changes number rrn was slot members at; shared = shared; over = over; room = room }))

  pub replace-back : (made : List PathMove) (old new : NumberedPaths) → IsSome (member_at number members) → made ≡ moves_in (slot_replaced number rrn was slot) old → new ≡ paths_after made old
      → opposites made
      ≡ moves_in (slot_replaced number rrn (unwrap_or (slot_at (member_of number (with_member number (changed (member_of number members) rrn slot) members)) rrn) Deleted) was) new
  replace-back made old new there same is =
      back-in (slot_replaced number rrn was slot) made old new same is
      ∙ ap (λ (o : Option Slot). moves_in (slot_replaced number rrn (unwrap_or o Deleted) was) new) (sym (slot-put number rrn was slot members there at))

-- ---- with room for all changes that are held

module _ (files : Named FileState) (members : NumberedMembers) (jobs : List JobState) (orders : List (Named OpenOrder)) (moves : List (List (List PathMove))) (old new : KeptPaths) (number : ℕ)
    (made : List PathMove) (shared : AreShared old.paths) (there : IsSome (member_at number members)) (is : new.paths ≡ paths_after made old.paths)
    (spare : (id : ℕ) → spare_of id old ≤ spare_of id new + count_in id made) (room : HaveRoom number (changes_held jobs + 1) old) where
  pub IsIndexed-append : (image : List ℕ) → AreBytes image
      → made ≡ moves_in (slot_replaced number (length (member_of number members).slots + 1) (unwrap_or (slot_at (member_of number members) (length (member_of number members).slots + 1)) Deleted)
      (Live image)) old.paths
      → IsIndexed files members jobs orders moves old → IsIndexed files (with_member number (appended (member_of number members) image) members) jobs orders moves new
  IsIndexed-append image bytes same indexed =
      IsIndexed-appended files members jobs orders moves old new number image made shared there bytes (append-moves number image members made old.paths same) is spare
      (spares-held number 1 jobs old room indexed.room) indexed

  pub IsIndexed-set : (rrn : ℕ) (slot : Slot) → 1 ≤ rrn → rrn ≤ length (member_of number members).slots → HasBytes slot
      → made ≡ moves_in (slot_replaced number rrn (unwrap_or (slot_at (member_of number members) rrn) Deleted) slot) old.paths
      → IsIndexed files members jobs orders moves old → IsIndexed files (with_member number (changed (member_of number members) rrn slot) members) jobs orders moves new
  IsIndexed-set rrn slot first last bytes same indexed =
      IsIndexed-replaced files members jobs orders moves old new number rrn (unwrap_or (slot_at (member_of number members) rrn) Deleted) slot made shared
      (slot-stands (member_of number members) rrn first last) bytes same is spare (spares-held number 1 jobs old room indexed.room) indexed

-- ---- as requests change slots

-- another slot stands at its place
pub there-with : (m : Memory) (number rrn : ℕ) (slot : Slot) → IsSome (member_at number m.members) → 1 ≤ rrn → rrn ≤ length (member_of number m.members).slots
    → slot_there number rrn (with_slot number rrn slot m) ≡ slot
there-with m number rrn slot there first last =
    ap (λ (member : MemberState). unwrap_or (slot_at (member_of number (with_member number member m.members)) rrn) Deleted) (slot_put-changed (member_of number m.members) rrn slot last)
    ∙ ap (λ (o : Option Slot). unwrap_or o Deleted)
    (slot-put number rrn (unwrap_or (slot_at (member_of number m.members) rrn) Deleted) slot m.members there (slot-stands (member_of number m.members) rrn first last))

-- and so does a record behind the last slot
pub there-behind : (m : Memory) (number : ℕ) (image : List ℕ) → IsSome (member_at number m.members)
    → slot_there number (length (member_of number m.members).slots + 1) (with_slot number (length (member_of number m.members).slots + 1) (Live image) m) ≡ Live image
there-behind m number image there =
    ap (λ (member : MemberState). unwrap_or (slot_at (member_of number (with_member number member m.members)) (length (member_of number m.members).slots + 1)) Deleted)
    (slot_put-appended (member_of number m.members) image)
    ∙ ap (λ (o : Option Slot). unwrap_or o Deleted) (added-there number image m.members there)

-- the moves that an undo keeps are those of the slot before, in the place of the one after
pub undo-moves : (paths : NumberedPaths) (member rrn cycle : ℕ) (before after : Slot) (back : List PathMove) → 1 ≤ rrn → back ≡ moves_in (slot_replaced member rrn after before) paths
    → back ≡ moves_back paths (change_of member rrn cycle before after)
undo-moves paths member rrn cycle before after back first is =
    is ∙ ap (λ (c : RecordChange). moves_in (reversed c) paths) (sym (record_change-of member rrn cycle before after first))
