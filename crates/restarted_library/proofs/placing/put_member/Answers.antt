use Rattle.std.proofs.Common.{◌≡◌, ◌∙◌, ap, arith}
use Rattle.library_steps.specs.State.{State}
use Rattle.replay_members.specs.Bodies.{held}
use Rattle.restarted_library.proofs.StepLemmas.{member-put}
use Rattle.restarted_library.proofs.placing.put_member.Goals as goal

pub file_to_extend-requires : goal.file_to_extend-requires
file_to_extend-requires c =
    let same : c.reserve_member.new.self.state.next_member ≡ c.args.number = ap (λ (s : State). s.next_member) (c.reserve_member.ensures.state ∙ c.in_ok-pass_to.ensures.state) in
    omega (arith, same, c.in_ok-pass_to.ensures.few)

pub returns : goal.returns
returns c = λ catalog members entries attached built.
    let m = held (c.args.number, c.args.member.now) in
    c.in_ok-finish.ensures entries attached catalog members
    (member-put entries attached catalog members m c.args.contents.now.state c.pass_to.new.contents.state c.reserve_member.new.self.state c.add_member.new.self.state c.in_ok-_file._file.now
    c.file.result c.name.result c.file.ensures c.name.ensures c.in_ok-pass_to.ensures.risen c.in_ok-pass_to.ensures.state c.reserve_member.ensures.state c.in_ok-_file.ensures.there
    (c.in_ok-add_member.ensures.memory c.in_ok-_file._file.now c.in_ok-_file.ensures.there) c.add_member.ensures.entries built)
