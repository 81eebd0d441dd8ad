use Rattle.std.proofs.Common.{◌∙◌, ap}
use Rattle.std.specs.Option.{option_map}
use Rattle.replay_members.specs.Bodies.{member_shown}
use Rattle.restarted_library.proofs.WalkLemmas.{owner-put, within}
use Rattle.restarted_library.proofs.library.put_owner.Goals as goal

pub returns-clause-built : goal.returns-clause-built
returns-clause-built c =
    owner-put c.args.members.now.members c.args.done c.first_of-first.result c.args.contents.now.state c.put_members.new.contents.state c.put_physical.new.contents.state c.args.name c.args.source.now
    (member_shown (c.in-Some.number, c.in-Some.member)) (c.at.ensures ∙ ap (option_map member_shown) c.in-Some.is) c.in_ok-put_members.ensures c.in_ok-put_physical.ensures

pub returns-clause-few : goal.returns-clause-few
returns-clause-few c =
    within c.args.members.now.members c.first_of-first.result (member_shown (c.in-Some.number, c.in-Some.member)) (c.at.ensures ∙ ap (option_map member_shown) c.in-Some.is)
