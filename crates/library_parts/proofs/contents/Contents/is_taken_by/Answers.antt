use Rattle.std.proofs.Common.{◌∙◌, Some, ap, sym}
use Rattle.member_slots.specs.declared.slot.Slot.{Slot}
use Rattle.parts_model.proofs.KeyLemmas.{asked-taken, if-told, takes-live}
use Rattle.library_parts.proofs.contents.Contents.is_taken_by.Goals as goal

pub has_key-requires : goal.has_key-requires
has_key-requires c = (
  c.args.its.member,
  c.requires.0,
  c.requires.1,
  asked-taken c.requires.0 c.args.its.member c.args.undo.now.change c.as_bytes.result.now c.requires.2 (sym c.member.ensures ∙ c.if-member-its.false)
      (c.before-2.ensures.told ∙ ap (λ (s : Slot). Some s) (rw c.as_bytes.ensures c.in-Live.is)),
)

pub returns-in-Live : goal.returns-in-Live
returns-in-Live c =
    if-told _ _ c.has_key.result
    (λ taken told format key at.
    told c.args.its.member format key at
    ∙ sym (takes-live format key c.args.undo.now.change c.as_bytes.result.now c.args.its.member at.over.its (sym c.member.ensures ∙ c.if-member-its.false)
    (c.before-2.ensures.told ∙ ap (λ (s : Slot). Some s) (rw c.as_bytes.ensures c.in-Live.is))))
    c.has_key.ensures
