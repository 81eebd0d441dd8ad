use Rattle.restarted_library.proofs.CopyLemmas.{all-copied}
use Rattle.restarted_library.proofs.copies.copied.Goals as goal

pub returns : goal.returns
returns c = all-copied c.args.long c.args.slots.now c.new-member.result.state c.add_all.new.member.state c.new-member.ensures c.in_ok-add_all.ensures
