-- The paths can be asked about each image that slots given to a member have, and about each that they take the place of.
use Rattle.std.proofs.Common.{◌≡◌, ℕ, zero, suc, List, [], ◌∷◌, map, length, Result, Ok, Err, IfOk, OnOk, sym, ap, ◌∙◌, subst}
use Rattle.std.specs.Prelude.{All}
use Rattle.std.specs.List.{AllByRecursion, IsDistinct}
use Rattle.std.specs.Map.{keys_of}
use Rattle.std.proofs.lemmas.List.{length-map}
use Rattle.std.proofs.lemmas.List.Elements.{All-from_recursion, recursion_from_All}
use Rattle.member_slots.specs.declared.slot.Slot.{Slot}
use Rattle.member_slots.specs.declared.slot.Slot.TheVariants.{Deleted}
use Rattle.member_slots.specs.Member.{MemberState, FitsSlot, IsMember}
use Rattle.member_slots.specs.Members.{Numbered, AreMembers, member_of}
use Rattle.journal_model.specs.Places.{slot_of, put_slot}
use Rattle.lawful_states.specs.Owners.{Owns}
use Rattle.path_set.specs.declared.moves.ImageChange.{ImageChange}
use Rattle.path_set.specs.declared.moves.PathMove.{PathMove}
use Rattle.path_set.specs.KeptPaths.{AreShared, KeptPaths, NumberedPaths}
use Rattle.path_set.specs.ManyChanges.{change_in, TakeImages}
use Rattle.path_set.specs.MemberSteps.{image_in}
use Rattle.path_set.specs.RecordChanges.{RecordChange, TakeImage}
use Rattle.job_table.specs.Opens.{OpenOrder}
use Rattle.library_model.specs.Named.{Named, same_name}
use Rattle.library_steps.specs.State.{State, FileState, fields_of}
use Rattle.range_images.specs.declared.slot_given.SlotGiven.{SlotGiven}
use Rattle.range_images.specs.Given.{place_given}
use Rattle.given_changes.specs.GivenChanges.{changes_given}
use Rattle.parts_model.specs.Given.{FitsMember, MayGive}
use Rattle.parts_model.specs.Indexed.{HasBytes, IsIndexed}
use Rattle.parts_model.specs.Keyed.{AllAreKeyed}
use Rattle.lawful_states.specs.Lawful.{HoldsValues, IsLibrary}
use Rattle.lawful_states.specs.Slots.{MayStand}
use Rattle.parts_model.proofs.GivenIndex.{long-given}
use Rattle.parts_model.proofs.GivenLemmas.{put-holds}
use Rattle.parts_model.proofs.IndexLaws.{laws}
use Rattle.parts_model.proofs.IndexLooks.{fits-of, takes-slot}
use Rattle.parts_model.proofs.IndexRecords.{bytes-member}
use Rattle.lawful_states.proofs.MemberLemmas.{HasRecords-member_of}

module _ (number : ℕ) (paths : NumberedPaths) where
  abbrev pub TakesSlot : Slot → Type 0
  TakesSlot slot = TakeImage number (image_in slot) paths

  abbrev pub TakesChange : RecordChange → Type 0
  TakesChange c = TakeImage number c.old paths × TakeImage number c.new paths

  takes-of : (slots : List Slot) (place : ℕ) → TakesSlot Deleted → AllByRecursion TakesSlot slots → TakesSlot (slot_of slots place)
  takes-of [] place none all = none
  takes-of (s ∷ slots) zero none all = all.0
  takes-of (s ∷ slots) (suc place) none all = takes-of slots place none all.1

  takes-changes : (given : List SlotGiven) (slots : List Slot) → TakesSlot Deleted → AllByRecursion TakesSlot slots → AllByRecursion (λ (g : SlotGiven). TakesSlot g.slot) given
      → AllByRecursion TakesChange (changes_given number given slots)
  takes-changes [] slots none all each = tt
  takes-changes (g ∷ given) slots none all each = (
    (takes-of slots (place_given g) none all, each.0),
    takes-changes given (put_slot slots (place_given g) g.slot) none (put-holds TakesSlot none slots (place_given g) g.slot all each.0) each.1,
  )

  -- as the changes have them
  takes-images : (changes : List ImageChange) → AllByRecursion TakesChange (map (change_in number) changes) → AllByRecursion (TakeImages number paths) changes
  takes-images [] all = tt
  takes-images (c ∷ changes) all = (all.0, takes-images changes all.1)

module _ (s : State) (number : ℕ) (orders : List (Named OpenOrder)) (moves : List (List (List PathMove))) (kept : KeptPaths) (keyed : AllAreKeyed s.files)
    (distinct : IsDistinct same_name (keys_of s.files)) (lawful : IsLibrary s) (shared : AreShared kept.paths) (are : AreMembers s.members)
    (indexed : IsIndexed s.files s.members s.jobs orders moves kept) where
  takes-one : (slot : Slot) → MayStand s number slot → FitsSlot (member_of number s.members).record_length slot → HasBytes slot → TakesSlot number kept.paths slot
  takes-one slot may fits bytes = takes-slot s number slot orders moves kept laws keyed distinct lawful shared indexed may fits bytes

  takes-stood : (slots : List Slot) → ((name : List ℕ) (file : FileState) → Owns s.files name file number → AllByRecursion (HoldsValues (fields_of file)) slots)
      → AllByRecursion (FitsSlot (member_of number s.members).record_length) slots → AllByRecursion HasBytes slots → AllByRecursion (TakesSlot number kept.paths) slots
  takes-stood [] values fits bytes = tt
  takes-stood (slot ∷ slots) values fits bytes = (
    takes-one slot (λ name file owns. (values name file owns).0) fits.0 bytes.0,
    takes-stood slots (λ name file owns. (values name file owns).1) fits.1 bytes.1,
  )

  takes-each : (given : List SlotGiven) → AllByRecursion (FitsMember (member_of number s.members).record_length) given → AllByRecursion (λ (g : SlotGiven). MayStand s number g.slot) given
      → AllByRecursion (λ (g : SlotGiven). HasBytes g.slot) given → AllByRecursion (λ (g : SlotGiven). TakesSlot number kept.paths g.slot) given
  takes-each [] fits values bytes = tt
  takes-each (g ∷ given) fits values bytes = (takes-one g.slot values.0 fits.0.fits bytes.0, takes-each given fits.1 values.1 bytes.1)

  -- all of them can be asked about
  pub given-asked : (given : List SlotGiven) (changes : List ImageChange) → MayGive s number given → AllByRecursion (λ (g : SlotGiven). HasBytes g.slot) given
      → map (change_in number) changes ≡ changes_given number given (member_of number s.members).slots → All (TakeImages number kept.paths) changes
  given-asked given changes may bytes is =
      let slots = (member_of number s.members).slots in
      let stood = takes-stood slots (λ name file owns. (HasRecords-member_of (fields_of file) number s.members (lawful.members name file number owns)).values)
      (fits-of number s.members (recursion_from_All (λ (entry : Numbered MemberState). IsMember entry.item) s.members are.each)) (bytes-member number s.members indexed.bytes) in
      All-from_recursion (TakeImages number kept.paths) changes
      (takes-images number kept.paths changes
      (subst (AllByRecursion (TakesChange number kept.paths)) (sym is)
      (takes-changes number kept.paths given slots (takes-one Deleted (λ name file owns. tt) tt tt) stood (takes-each given may.takes.each may.values bytes))))

-- as many as there are slots
pub given-long : (number : ℕ) (given : List SlotGiven) (slots : List Slot) (changes : List ImageChange) → map (change_in number) changes ≡ changes_given number given slots → length changes ≡ length given
given-long number given slots changes is = sym (length-map changes (change_in number)) ∙ ap length is ∙ long-given number given slots

-- what holds of the moves that were prepared, and of the room that there is then
pub moves-and-room : {A E : Type 0} (P : A → Type 0) (Q : Type 0) (R : A → Type 0) (result : Result A E) → ((a : A) → P a → Q → R a) → IfOk result P → OnOk result Q → IfOk result R
moves-and-room P Q R (Ok a) so p q = so a p q
moves-and-room P Q R (Err e) so p q = tt
