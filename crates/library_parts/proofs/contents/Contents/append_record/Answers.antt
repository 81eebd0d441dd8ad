use Rattle.std.proofs.Common.{◌≡◌, ◌∙◌, ◌+◌, length, refl, subst, sym, ap, arith}
use Rattle.std.specs.Prelude.{unwrap_or}
use Rattle.access_path.specs.KeyFields.{AreBytes}
use Rattle.member_slots.specs.declared.slot.Slot.TheVariants.{Deleted}
use Rattle.member_slots.specs.Member.{slot_at}
use Rattle.member_slots.specs.Members.{NumberedMembers, member_of}
use Rattle.parts_model.specs.RecordChanges.{moves_in}
use Rattle.parts_model.specs.MemberSteps.{record_added, slot_replaced}
use Rattle.parts_model.specs.Table.{changes_held}
use Rattle.parts_model.proofs.IndexMoves.{IsIndexed-append, append-back, append-can, append-moves, room-left}
use Rattle.parts_model.proofs.IndexPaths.{room-fewer}
use Rattle.lawful_states.proofs.LawfulLemmas.{AreOne-appended}
use Rattle.parts_model.proofs.ResultLemmas.{on_ok}
use Rattle.library_parts.proofs.contents.Contents.append_record.Goals as goal

pub change-requires : goal.change-requires
change-requires c =
    let inside = c.self.inside in
    append-can c.args.member c.args.image inside.members.members c.args.moves inside.paths c.kept-kept.ensures.shared (rw (← c.self.view_is) at c.requires.there)
    c.self.invariant.2.paths.over
    (room-fewer c.args.member 1 (changes_held inside.jobs.jobs + 1) inside.paths (omega arith) (rw (← c.self.view_is) at c.requires.moves_room))
    (append-moves c.args.member c.args.image inside.members.members c.args.moves inside.paths.paths (rw (← c.self.view_is) at c.requires.moves))

pub invariant_of-self : goal.invariant_of-self
invariant_of-self c =
    let inside = c.self.inside in
    let long : c.from.result ≡ (member_of c.args.member c.self.inside.members.members).record_length = c.from.ensures ∙ (rw (← c.self.view_is) at c.record_length-bytes.ensures) in
    rw (on_ok c.append.result c.unwrap-rrn.result c.unwrap-rrn.ensures c.append.ensures.appended, long) (
      AreOne-appended _ _ _ c.args.member c.args.image c.self.invariant.0 (rw (← c.self.view_is) at c.requires.there) (rw (← c.self.view_is) at c.requires.values) refl (rw
          (← c.self.view_is) at c.requires.few),
      c.self.invariant.1,
      IsIndexed-append _ _ _ _ _ inside.paths c.change.new.self c.args.member c.args.moves c.kept-kept.ensures.shared (rw (← c.self.view_is) at c.requires.there)
          c.change.ensures.paths c.change.ensures.rooms (rw (← c.self.view_is) at c.requires.moves_room) c.args.image (subst AreBytes c.as_bytes.ensures c.are_bytes.ensures)
          (rw (← c.self.view_is) at c.requires.moves) c.self.invariant.2,
    )

pub returns-clause-back : goal.returns-clause-back
returns-clause-back c =
    let inside = c.self.inside in
    let members = inside.members.members in
    let there = rw (← c.self.view_is) at c.requires.there in
    let made = append-moves c.args.member c.args.image members c.args.moves inside.paths.paths (rw (← c.self.view_is) at c.requires.moves) in
    let grown = on_ok c.append.result c.unwrap-rrn.result c.unwrap-rrn.ensures c.append.ensures.appended in
    let place = length (member_of c.args.member members).slots + 1 in
    rw (← c.self.view_is)
    (c.change.ensures.opposite
    ∙ append-back c.args.member c.args.image members c.args.moves inside.paths.paths c.change.new.self.paths there made c.change.ensures.paths
    ∙ ap (λ (ms : NumberedMembers). moves_in (slot_replaced c.args.member place (unwrap_or (slot_at (member_of c.args.member ms) place) Deleted) Deleted) c.change.new.self.paths) (sym grown))

pub returns-clause-left : goal.returns-clause-left
returns-clause-left c more had =
    let inside = c.self.inside in
    room-left (record_added c.args.member c.args.image inside.members.members) c.args.moves c.args.member (changes_held inside.jobs.jobs) more inside.paths c.change.new.self
    c.kept-kept.ensures.shared (append-moves c.args.member c.args.image inside.members.members c.args.moves inside.paths.paths (rw (← c.self.view_is) at c.requires.moves))
    c.change.ensures.paths c.change.ensures.rooms (rw (← c.self.view_is) at had)
