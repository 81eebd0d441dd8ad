-- Giving slots to a member of a library, step by step: their moves are made in the paths, and then the slots are put, or the moves taken back.
use Rattle.std.proofs.Common.{◌≡◌, ◌∙◌, ℕ, ◌+◌, ◌*◌, ◌≤◌, List, length, sym, ap, subst, arith}
use Rattle.std.specs.Prelude.{reverse}
use Rattle.std.specs.List.{AllByRecursion}
use Rattle.member_slots.specs.Members.{member_of}
use Rattle.path_set.specs.declared.moves.PathMove.{PathMove}
use Rattle.path_set.specs.KeptPaths.{KeptPaths, NumberedPaths, AreShared, spare_of}
use Rattle.path_set.specs.ManyChanges.{LeadTo, moves_of_all}
use Rattle.path_set.specs.MemberSteps.{is_over}
use Rattle.path_set.specs.RecordChanges.{CanBeMade, HaveRoom, count_in, opposites, paths_after}
use Rattle.path_set.proofs.ManyLemmas.{shared-after}
use Rattle.given_changes.specs.GivenChanges.{changes_given}
use Rattle.job_table.specs.Opens.{OpenOrder}
use Rattle.job_table.specs.Table.{changes_held}
use Rattle.library_model.specs.Named.{Named}
use Rattle.library_steps.specs.State.{State}
use Rattle.range_images.specs.declared.slot_given.SlotGiven.{SlotGiven}
use Rattle.parts_model.specs.Given.{MayGive, members_given}
use Rattle.parts_model.specs.Indexed.{HasBytes, HaveSpares, IsIndexed, changes_over}
use Rattle.parts_model.proofs.GivenIndex.{IsIndexed-given, IsIndexed-undone, count-back, given-back, given-made, given-undone, half-room, own-room, room-of-all}
use Rattle.parts_model.proofs.GivenLemmas.{given-bytes, given-leads}
use Rattle.parts_model.proofs.IndexPaths.{room-fewer, so_many}

module _ (s : State) (orders : List (Named OpenOrder)) (moves : List (List (List PathMove))) (kept : KeptPaths) (number : ℕ) (given : List SlotGiven) (made : List PathMove) (shared : AreShared kept.paths)
    (indexed : IsIndexed s.files s.members s.jobs orders moves kept) (may : MayGive s number given)
    (same : made ≡ moves_of_all (changes_given number given (member_of number s.members).slots) kept.paths) (room : 1 ≤ length given → HaveRoom number (changes_held s.jobs + 2 * length given) kept) where
  lead : LeadTo (changes_given number given (member_of number s.members).slots) s.members (members_given number given s.members)
  lead = given-leads number given s.members may.there may.takes

  all-room : HaveSpares (λ spec. changes_over spec s.jobs + so_many (is_over number spec) (length given + length given)) kept
  all-room = room-of-all s.files s.members s.jobs orders moves number kept given room indexed

  twice-room : HaveRoom number (length given + length given) kept
  twice-room = own-room number (length given + length given) (λ spec. changes_over spec s.jobs) kept all-room

  once-room : HaveRoom number (length given) kept
  once-room = room-fewer number (length given) (length given + length given) kept (omega arith) twice-room

  pub giving-made : CanBeMade made kept
  giving-made =
      subst (λ (w : List PathMove). CanBeMade w kept) (sym same)
      (given-made number given (member_of number s.members).slots s.members (members_given number given s.members) kept lead shared indexed.paths.over once-room)

  -- the moves are made
  module _ (now : KeptPaths) (is : now.paths ≡ paths_after made kept.paths) (spare : (id : ℕ) → spare_of id kept ≤ spare_of id now + count_in id made) where
    now-is : now.paths ≡ paths_after (moves_of_all (changes_given number given (member_of number s.members).slots) kept.paths) kept.paths
    now-is = is ∙ ap (λ (w : List PathMove). paths_after w kept.paths) same

    now-spare : (id : ℕ) → spare_of id kept ≤ spare_of id now + count_in id (moves_of_all (changes_given number given (member_of number s.members).slots) kept.paths)
    now-spare id = subst (λ (w : List PathMove). spare_of id kept ≤ spare_of id now + count_in id w) same (spare id)

    pub giving-shared : AreShared now.paths
    giving-shared = subst (λ (paths : NumberedPaths). AreShared paths) (sym is) (shared-after made kept.paths shared)

    -- the paths are those of the member with the slots
    pub giving-indexed : AllByRecursion (λ (g : SlotGiven). HasBytes g.slot) given → IsIndexed s.files (members_given number given s.members) s.jobs orders moves now
    giving-indexed bytes =
        IsIndexed-given number given (member_of number s.members).slots kept now shared now-is now-spare s.files s.members (members_given number given s.members) s.jobs orders moves lead
        (half-room number (length given) (λ spec. changes_over spec s.jobs) kept all-room)
        (given-bytes number given s.members indexed.bytes bytes) indexed

    -- or the moves are taken back
    module _ (back : List PathMove) (opposite : back ≡ opposites made) where
      reversed-is : reverse back ≡ reverse (opposites (moves_of_all (changes_given number given (member_of number s.members).slots) kept.paths))
      reversed-is = ap (λ (w : List PathMove). reverse w) (opposite ∙ ap opposites same)

      pub giving-back : CanBeMade (reverse back) now
      giving-back =
          subst (λ (w : List PathMove). CanBeMade w now) (sym reversed-is)
          (given-back number given (member_of number s.members).slots s.members (members_given number given s.members) kept lead shared indexed.paths.over now
          twice-room now-is now-spare)

      pub giving-undone : (later : KeptPaths) → later.paths ≡ paths_after (reverse back) now.paths → ((id : ℕ) → spare_of id now ≤ spare_of id later + count_in id back)
          → IsIndexed s.files s.members s.jobs orders moves later
      giving-undone later undone left =
          let paths : later.paths ≡ kept.paths =
          given-undone number given (member_of number s.members).slots s.members (members_given number given s.members) kept lead shared indexed.paths.over now later once-room now-is
          (undone ∙ ap (λ (w : List PathMove). paths_after w now.paths) reversed-is) in
          IsIndexed-undone number given (member_of number s.members).slots kept later shared paths
          (λ id.
          let first = now-spare id in
          let second = left id in
          let as_many = ap (λ (w : List PathMove). count_in id w) (opposite ∙ ap opposites same) ∙ count-back id (moves_of_all (changes_given number given (member_of number s.members).slots) kept.paths) in
          omega (arith, first, second, as_many))
          s.files s.members s.jobs orders moves all-room indexed
