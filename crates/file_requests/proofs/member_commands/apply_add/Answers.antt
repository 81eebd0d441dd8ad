use Rattle.std.proofs.Common.{arith}
use Rattle.library_model.specs.Named.{named}
use Rattle.file_requests.proofs.PhysicalLemmas.{some-physical}
use Rattle.file_requests.proofs.PlanLemmas.{gone-added}
use Rattle.file_requests.proofs.member_commands.apply_add.Goals as goal

pub deposit-sequence-requires-clause-left : goal.deposit-sequence-requires-clause-left
deposit-sequence-requires-clause-left c =
    let old = c.args.contents.now.state in
    let file = named c.args.args.now.file old.files in
    let gone = gone-added file c.args.args.now old c.add_member.new.self.state (some-physical file c.requires.new.there) c.in_ok-add_member.ensures.memory in
    let left = c.requires.left in
    rw (gone, c.add_member.ensures.entries) (omega (arith, left))
