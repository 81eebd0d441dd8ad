use Rattle.std.proofs.Common.{◌≡◌, ◌∙◌, ◌+◌, List, ℕ, Option, OnOk, sym, ap, subst, arith}
use Rattle.std.specs.Prelude.{unwrap_or}
use Rattle.member_slots.specs.declared.slot.Slot.TheVariants.{Deleted}
use Rattle.member_slots.specs.Member.{slot_at}
use Rattle.member_slots.specs.Members.{member_of}
use Rattle.parts_model.below.path_set.specs.declared.moves.PathMove.{PathMove}
use Rattle.parts_model.specs.MemberSteps.{slot_replaced}
use Rattle.parts_model.specs.RecordChanges.{TakeImage, HaveRoom, moves_in}
use Rattle.parts_model.specs.Table.{changes_held}
use Rattle.parts_model.specs.Parts.{state_of}
use Rattle.parts_model.proofs.IndexLaws.{laws}
use Rattle.parts_model.proofs.IndexLooks.{takes-slot, takes-stood}
use Rattle.parts_model.proofs.IndexPaths.{IsIndexed-roomier}
use Rattle.parts_model.proofs.ResultLemmas.{if_ok-each}
use Rattle.library_parts.proofs.contents.Contents.prepare_moves.Goals as goal

pub prepare-requires-clause-old : goal.prepare-requires-clause-old
prepare-requires-clause-old c =
    let parts = c.self.inside in
    let state = state_of parts.catalogue parts.members parts.next_member parts.journal parts.locks parts.jobs in
    subst (λ (o : Option (List ℕ)). TakeImage c.args.member o parts.paths.paths) (sym c.live_image-old.ensures.image)
    (takes-stood state c.args.member c.args.rrn parts.jobs.orders parts.jobs.moves parts.paths laws c.len-files.ensures.keyed c.len-files.ensures.unique
    c.self.invariant.0.lawful c.kept-kept.ensures.shared c.live_image-old.ensures.lawful c.self.invariant.2)

pub prepare-requires-clause-new : goal.prepare-requires-clause-new
prepare-requires-clause-new c =
    let parts = c.self.inside in
    let state = state_of parts.catalogue parts.members parts.next_member parts.journal parts.locks parts.jobs in
    subst (λ (o : Option (List ℕ)). TakeImage c.args.member o parts.paths.paths) (sym c.image_in.ensures)
    (takes-slot state c.args.member c.args.new.now parts.jobs.orders parts.jobs.moves parts.paths laws c.len-files.ensures.keyed c.len-files.ensures.unique
    c.self.invariant.0.lawful c.kept-kept.ensures.shared c.self.invariant.2
    (rw (← c.self.view_is) at c.requires.values) (rw (← c.self.view_is) at c.requires.fits) c.of_bytes.ensures)

pub invariant_of-self : goal.invariant_of-self
invariant_of-self c =
    (c.self.invariant.0, c.self.invariant.1, IsIndexed-roomier _ _ _ _ _ _ c.self.inside.paths c.prepare.new.self c.prepare.ensures.paths c.prepare.ensures.rooms c.self.invariant.2)

pub returns-clause-moves : goal.returns-clause-moves
returns-clause-moves c =
    let parts = c.self.inside in
    let was = unwrap_or (slot_at (member_of c.args.member parts.members.members) c.args.rrn) Deleted in
    let same : moves_in (record { member = c.args.member; rrn = c.args.rrn; old = _; new = _ }) parts.paths.paths
    ≡ moves_in (slot_replaced c.args.member c.args.rrn was c.args.new.now) c.prepare.new.self.paths =
    (λ i. moves_in (record { member = c.args.member; rrn = c.args.rrn; old = c.live_image-old.ensures.image i; new = c.image_in.ensures i }) (sym c.prepare.ensures.paths i)) in
    if_ok-each (λ (moves : List PathMove). moves ≡ _) (λ (moves : List PathMove). moves ≡ moves_in (slot_replaced c.args.member c.args.rrn was c.args.new.now) c.prepare.new.self.paths)
    c.prepare.result (λ moves is. is ∙ same) c.prepare.ensures.moves

pub returns-clause-room : goal.returns-clause-room
returns-clause-room c =
    let parts = c.self.inside in
    let held : c.in-Some.held ≡ changes_held parts.jobs.jobs + c.args.more = c.in-Some.ensures ∙ ap (λ (n : ℕ). n + c.args.more) c.changes_held.ensures in
    let all : c.in-Some.held + 2 ≡ changes_held parts.jobs.jobs + (c.args.more + 2) = omega (arith, held) in
    subst (λ (n : ℕ). OnOk c.prepare.result (HaveRoom c.args.member n c.prepare.new.self)) all c.prepare.ensures.room
