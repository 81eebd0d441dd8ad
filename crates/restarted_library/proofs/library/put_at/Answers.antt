use Rattle.std.proofs.Common.{◌∙◌, ap}
use Rattle.std.specs.Option.{option_map}
use Rattle.replay_members.specs.Bodies.{member_shown}
use Rattle.restarted_library.proofs.WalkLemmas.{member-step}
use Rattle.restarted_library.proofs.library.put_at.Goals as goal

pub returns : goal.returns
returns c =
    member-step c.args.members.now.members c.args.place c.args.contents.now.state c.put_member.new.contents.state (member_shown (c.in-Some.number, c.in-Some.member))
    (c.at.ensures ∙ ap (option_map member_shown) c.in-Some.is) c.in_ok-put_member.ensures
