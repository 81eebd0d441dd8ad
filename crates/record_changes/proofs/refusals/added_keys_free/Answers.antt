use Rattle.std.proofs.Common.{subst}
use Rattle.member_slots.specs.declared.slot.Slot.{Slot}
use Rattle.library_steps.specs.State.{memory_of}
use Rattle.library_steps.specs.UniqueKeys.{keys_free}
use Rattle.library_parts.specs.Answers.{MayAllow}
use Rattle.record_changes.proofs.refusals.added_keys_free.Goals as goal

pub returns : goal.returns
returns c =
    let opened = c.args.opened.now.state in
    let memory = memory_of c.args.contents.now.state in
    subst (λ (s : Slot). MayAllow c.keys_free.result (keys_free c.args.job opened.commit opened.member c.args.rrn s c.args.image.now memory)) c.requires.empty c.keys_free.ensures
