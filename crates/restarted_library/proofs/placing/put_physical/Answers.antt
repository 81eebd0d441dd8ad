use Rattle.replay_members.specs.Bodies.{held}
use Rattle.restarted_library.proofs.StepLemmas.{file-put, is-new}
use Rattle.restarted_library.proofs.placing.put_physical.Goals as goal

pub add_file-requires-clause-new : goal.add_file-requires-clause-new
add_file-requires-clause-new c =
    is-new c.args.contents.now.state c.pass_to.new.contents.state c.reserve_file.new.self.state c.args.name c.args.number c.in_ok-described.described c.in_ok-file.file c.in_ok-may_begin.ensures.absent
    c.in_ok-pass_to.ensures.state c.in_ok-pass_to.ensures.few c.reserve_file.ensures.state c.in_ok-file.ensures

pub returns : goal.returns
returns c = λ created catalog members entries attached built.
    let m = held (c.args.number, c.args.member.now) in
    c.in_ok-finish.ensures entries attached _ _
    (file-put entries attached created catalog members m c.args.name c.args.source.now c.args.contents.now.state c.pass_to.new.contents.state c.reserve_file.new.self.state c.add_file.new.self.state
    c.in_ok-described.described c.in_ok-file.file c.in_ok-may_begin.ensures.own c.in_ok-may_begin.ensures.absent c.in_ok-pass_to.ensures.risen c.in_ok-pass_to.ensures.state c.in_ok-described.ensures.0
    c.in_ok-described.ensures.1 c.reserve_file.ensures.state c.in_ok-file.ensures c.in_ok-add_file.ensures.memory c.add_file.ensures.entries built)
