use Rattle.std.proofs.Common.{◌≡◌, ◌∙◌, ◌+◌, List, ℕ, Option, sym, ap, arith}
use Rattle.std.specs.Prelude.{unwrap_or}
use Rattle.lawful_states.specs.Owners.{Owns}
use Rattle.member_slots.specs.declared.slot.Slot.{Slot}
use Rattle.member_slots.specs.declared.slot.Slot.TheVariants.{Deleted}
use Rattle.member_slots.specs.Member.{slot_at}
use Rattle.member_slots.specs.Members.{NumberedMembers, member_of}
use Rattle.parts_model.specs.RecordChanges.{moves_in}
use Rattle.parts_model.specs.MemberSteps.{slot_replaced}
use Rattle.library_steps.specs.State.{FileState, fields_of}
use Rattle.parts_model.specs.Table.{changes_held}
use Rattle.parts_model.proofs.IndexMoves.{IsIndexed-set, replace-back, replace-can, room-left, slot-stands}
use Rattle.parts_model.proofs.IndexPaths.{room-fewer}
use Rattle.lawful_states.proofs.LawfulLemmas.{AreOne-changed}
use Rattle.lawful_states.proofs.MemberLemmas.{HasRecords-member_of, HoldsValues-at}
use Rattle.library_parts.proofs.contents.Contents.set_slot.Goals as goal

pub change-back-requires : goal.change-back-requires
change-back-requires c =
    let inside = c.self.inside in
    let place = rw (← c.self.view_is) at c.requires.place in
    replace-can c.args.member c.args.rrn (unwrap_or (slot_at (member_of c.args.member inside.members.members) c.args.rrn) Deleted) c.args.slot inside.members.members
    (slot-stands (member_of c.args.member inside.members.members) c.args.rrn place.0 place.1) c.args.moves inside.paths c.kept-kept.ensures.shared c.self.invariant.2.paths.over
    (room-fewer c.args.member 1 (changes_held inside.jobs.jobs + 1) inside.paths (omega arith) (rw (← c.self.view_is) at c.requires.moves_room))
    (rw (← c.self.view_is) at c.requires.moves)

pub invariant_of-self : goal.invariant_of-self
invariant_of-self c =
    let inside = c.self.inside in
    let place = rw (← c.self.view_is) at c.requires.place in
    rw c.set-slot.ensures.changed (
      AreOne-changed _ _ c.args.member c.args.rrn c.args.slot c.self.invariant.0 (rw (← c.self.view_is) at c.requires.there) (rw (← c.self.view_is) at c.requires.values),
      c.self.invariant.1,
      IsIndexed-set _ _ _ _ _ inside.paths c.change-back.new.self c.args.member c.args.moves c.kept-kept.ensures.shared (rw (← c.self.view_is) at c.requires.there)
          c.change-back.ensures.paths c.change-back.ensures.rooms (rw (← c.self.view_is) at c.requires.moves_room) c.args.rrn c.args.slot place.0 place.1 c.of_bytes.ensures
          (rw (← c.self.view_is) at c.requires.moves) c.self.invariant.2,
    )

pub returns-clause-stood : goal.returns-clause-stood
returns-clause-stood c =
    let inside = c.self.inside in
    let members = inside.members.members in
    rw (← c.self.view_is)
    (λ (name : List ℕ) (file : FileState) (owns : Owns inside.catalogue.files name file c.args.member). HoldsValues-at (fields_of file) (member_of c.args.member members) c.args.rrn
    c.set-slot.result (HasRecords-member_of (fields_of file) c.args.member members (c.self.invariant.0.lawful.members name file c.args.member owns)) c.set-slot.ensures.before)

pub returns-clause-back : goal.returns-clause-back
returns-clause-back c =
    let inside = c.self.inside in
    let members = inside.members.members in
    let there = rw (← c.self.view_is) at c.requires.there in
    let stood = ap (λ (o : Option Slot). unwrap_or o Deleted) c.set-slot.ensures.before in
    let made : c.args.moves ≡ moves_in (slot_replaced c.args.member c.args.rrn c.set-slot.result c.args.slot) inside.paths.paths =
    (rw (← c.self.view_is) at c.requires.moves) ∙ ap (λ (s : Slot). moves_in (slot_replaced c.args.member c.args.rrn s c.args.slot) inside.paths.paths) stood in
    c.change-back.ensures.opposite
    ∙ replace-back c.args.member c.args.rrn c.set-slot.result c.args.slot members c.set-slot.ensures.before c.args.moves inside.paths.paths c.change-back.new.self.paths there made
    c.change-back.ensures.paths
    ∙ ap (λ (ms : NumberedMembers). moves_in (slot_replaced c.args.member c.args.rrn (unwrap_or (slot_at (member_of c.args.member ms) c.args.rrn) Deleted) c.set-slot.result)
    c.change-back.new.self.paths) (sym c.set-slot.ensures.changed)

pub returns-clause-left : goal.returns-clause-left
returns-clause-left c more had =
    let inside = c.self.inside in
    room-left (slot_replaced c.args.member c.args.rrn (unwrap_or (slot_at (member_of c.args.member inside.members.members) c.args.rrn) Deleted) c.args.slot) c.args.moves c.args.member
    (changes_held inside.jobs.jobs) more inside.paths c.change-back.new.self c.kept-kept.ensures.shared (rw (← c.self.view_is) at c.requires.moves) c.change-back.ensures.paths
    c.change-back.ensures.rooms (rw (← c.self.view_is) at had)
