use Rattle.restarted_library.proofs.LeftLemmas.{left-whole}
use Rattle.restarted_library.proofs.library.restarted_contents.Goals as goal

pub returns : goal.returns
returns c = record {
  left = left-whole c.args.entries.now c.args.attached c.args.replay _ _ _ c.in_ok-contents.contents.state c.put_all.new.contents.state c.requires.left c.files.ensures c.members.ensures.members
      c.members.ensures.next c.in_ok-contents.ensures c.in_ok-put_all.ensures.built c.in_ok-put_all.ensures.next;
}
