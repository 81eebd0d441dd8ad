use Rattle.std.proofs.Common.{◌∙◌, sym, ap, subst, arith}
use Rattle.member_slots.specs.Member.{MemberState, FitsSlot}
use Rattle.parts_model.proofs.RemadeLemmas.{copying-first, copying-next, copying-end}
use Rattle.library_parts.proofs.members.without_deleted.Goals as goal

pub loop-place-init : goal.loop-place-init
loop-place-init c =
    copying-first c.args.member.now.state c.new-compact.result.state (ap (λ (m : MemberState). m.record_length) c.new-compact.ensures ∙ c.length.ensures.value)
    (ap (λ (m : MemberState). m.slots) c.new-compact.ensures)

pub add_live-requires : goal.add_live-requires
add_live-requires c = subst (λ n. FitsSlot n c.slot.result.now) (sym c.loop-place.invariant.long) c.slot.ensures.fits

pub loop-place-preserved : goal.loop-place-preserved
loop-place-preserved c = copying-next _ _ _ _ _ _ (omega arith) c.slot.ensures.value c.in_ok-add_live.ensures c.loop-place.invariant

pub returns : goal.returns
returns c = let all = c.slots-place-end.ensures.value in copying-end _ _ _ (omega (arith, all)) c.loop-place.invariant
