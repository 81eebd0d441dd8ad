use Rattle.std.proofs.Common.{◌≤◌, ◌∙◌, length, ap, arith}
use Rattle.library_steps.specs.State.{State}
use Rattle.restarted_library.proofs.WalkLemmas.{whole}
use Rattle.restarted_library.proofs.library.put_all.Goals as goal

pub put_members-requires : goal.put_members-requires
put_members-requires c = (let few = c.in_ok-done.ensures.few in let same = c.len.ensures in omega (arith, few, same))

pub returns-clause-built : goal.returns-clause-built
returns-clause-built c =
    let all : length c.args.members.now.members ≤ c.len.result = (let same = c.len.ensures in omega (arith, same)) in
    whole c.args.files.now c.args.members.now.members c.in_ok-done.done c.len.result c.next.result c.args.contents.now.state c.put_files.new.contents.state c.put_members.new.contents.state
    c.raise.new.contents.state
    all c.in_ok-done.ensures.built c.in_ok-put_members.ensures c.in_ok-raise.ensures.risen c.in_ok-raise.ensures.state

pub returns-clause-next : goal.returns-clause-next
returns-clause-next c = ap (λ (s : State). s.next_member) c.in_ok-raise.ensures.state ∙ c.next.ensures
