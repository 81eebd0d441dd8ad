use Rattle.restarted_library.proofs.StepLemmas.{member-filled}
use Rattle.restarted_library.proofs.filling.finish.Goals as goal

pub returns : goal.returns
returns c = λ entries attached catalog members added.
    member-filled entries attached catalog members c.args.number c.args.member.now c.args.contents.now.state c.fill.new.contents.state c.set_status.new.contents.state c.in_ok-fill.ensures.memory
    c.fill.ensures.entries
    c.in_ok-set_status.ensures.memory c.set_status.ensures.entries added
