use Rattle.std.proofs.Common.{◌++◌, List, take, refl, sym, subst, arith}
use Rattle.std.proofs.lemmas.List.{append-nil, take_all}
use Rattle.entry_codec.specs.declared.entries.Entry.{Entry}
use Rattle.journal_opening.specs.Journals.{IsLeftBy}
use Rattle.journal_opening.proofs.Takings.{taken_none, taken_next}
use Rattle.journal_opening.proofs.replaying.take_all.Goals as goal

pub loop-entry-init : goal.loop-entry-init
loop-entry-init g c = record { count = refl; left = λ before left. subst (λ (l : List Entry). IsLeftBy (g.D.Describe.rules c.args.by.now) l c.args.replay.now) (sym (append-nil before)) left }

pub loop-entry-preserved : goal.loop-entry-preserved
loop-entry-preserved g c = record {
  count = omega (arith, c.loop-entry.invariant.count);
  left = λ before left.
      let i = c.loop-entry.entry-index in
      taken_next (g.D.Describe.rules c.args.by.now) before c.args.entries.now i c.entry-item.result c.loop-entry-test.true c.entry-item.is _
      (c.in_ok-take_one.ensures.taken c.if-branch.true (before ++ take i c.args.entries.now) (c.loop-entry.invariant.left before left));
}

pub returns-else-branch : goal.returns-else-branch
returns-else-branch g c = λ before left.
    let i = c.loop-entry.entry-index in
    taken_none (g.D.Describe.rules c.args.by.now) before c.args.entries.now i c.entry-item.result c.loop-entry-test.true c.entry-item.is
    (c.in_ok-take_one.ensures.refused c.if-branch.false (before ++ take i c.args.entries.now) (c.loop-entry.invariant.left before left))

pub returns : goal.returns
returns g c = λ before left.
    subst (λ (l : List Entry). IsLeftBy (g.D.Describe.rules c.args.by.now) (before ++ l) c.loop-entry.replay)
    (take_all c.loop-entry.entry-index c.args.entries.now (omega (arith, c.loop-entry-test.false))) (c.loop-entry.invariant.left before left)
