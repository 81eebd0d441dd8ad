use Rattle.std.proofs.Common.{◌++◌, List, length, refl, subst}
use Rattle.entry_codec.specs.declared.entries.Entry.{Entry}
use Rattle.journal_opening.specs.Journals.{IsLeftBy}
use Rattle.restart_rollback.proofs.Rolling.{rolled-by}
use Rattle.restart_rollback.proofs.rollback.prepare.Goals as goal

pub returns-clause-more : goal.returns-clause-more
returns-clause-more g c =
    rolled-by (g.D.Describe.rules c.args.by.now) c.args.who.now.job c.args.who.now.moment c.args.entries.now c.args.replay.now c.requires.left (length c.args.entries.now) refl
    c.open_cycles.result.now.cycles c.open_cycles.result.now.undos c.open_cycles.ensures.cycles c.open_cycles.ensures.undos c.in_ok-drafts.drafts.items c.in_ok-drafts.ensures
    c.in_ok-more.more.items c.in_ok-more.ensures

pub returns-clause-left : goal.returns-clause-left
returns-clause-left g c =
    subst (λ (l : List Entry). IsLeftBy (g.D.Describe.rules c.args.by.now) (c.args.entries.now ++ l) c.take_rolled.new.replay) c.deref.ensures.value
    (c.in_ok-take_rolled.ensures.left c.args.entries.now c.requires.left)
