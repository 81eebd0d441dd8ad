use Rattle.std.proofs.Common.{arith, rules}
use Rattle.std.specs.Prelude.{IsErrOf}
use Rattle.library_core.specs.declared.reading.ReadFault.TheVariants.{BlockChanged, StoreFault}
use Rattle.library_core.proofs.JudgedLemmas.{few-entries}
use Rattle.library_core.proofs.ReadLemmas.{cause-behind, remembered-stays}
use Rattle.library_core.proofs.reading.read_range.Goals as goal

pub read_between-requires-clause-few : goal.read_between-requires-clause-few
read_between-requires-clause-few g c =
    let few = few-entries g.S.Store.tells (g.S.Store.disk c.args.store.now) c.args.journal.now c.args.contents.now.state c.requires.kept.0 c.requires.kept.1 in
    omega (arith, few, c.bounds-kept.ensures.last, c.if-last-to.false)

pub break_before-requires-clause-few : goal.break_before-requires-clause-few
break_before-requires-clause-few g c =
    let few = few-entries g.S.Store.tells (g.S.Store.disk c.args.store.now) c.args.journal.now c.args.contents.now.state c.requires.kept.0 c.requires.kept.1 in
    omega (arith, few, c.bounds-kept.ensures.last)

pub returns-in_err-begin-in_default-clause-cause : goal.returns-in_err-begin-in_default-clause-cause
returns-in_err-begin-in_default-clause-cause g c = λ bad. let fault : IsErrOf c.break_before.result StoreFault = search rules in c.break_before.ensures.cause fault

pub returns-in_err-begin-in_default-clause-untold : goal.returns-in_err-begin-in_default-clause-untold
returns-in_err-begin-in_default-clause-untold g c = λ sequence bad told.
    let fault : IsErrOf c.break_before.result (BlockChanged sequence) = search rules in c.break_before.ensures.untold sequence fault told

pub read_between-requires-in_default-clause-kept : goal.read_between-requires-in_default-clause-kept
read_between-requires-in_default-clause-kept g c = (
  c.requires.kept.0,
  remembered-stays g.S.Store.tells (g.S.Store.disk c.args.store.now) (g.S.Store.disk c.break_before.new.store) c.args.journal.now c.args.contents.now.state c.requires.kept.0
      c.break_before.ensures.stays c.requires.kept.1,
)

pub read_between-requires-in_default-clause-few : goal.read_between-requires-in_default-clause-few
read_between-requires-in_default-clause-few g c =
    let few = few-entries g.S.Store.tells (g.S.Store.disk c.args.store.now) c.args.journal.now c.args.contents.now.state c.requires.kept.0 c.requires.kept.1 in
    omega (arith, few, c.bounds-kept.ensures.last)

pub returns-after-wanted-3-clause-read : goal.returns-after-wanted-3-clause-read
returns-after-wanted-3-clause-read g c = λ s is.
    c.read_between-in_default.ensures.read s
    (remembered-stays g.S.Store.tells (g.S.Store.disk c.args.store.now) (g.S.Store.disk c.break_before.new.store) c.args.journal.now c.args.contents.now.state s c.break_before.ensures.stays is)

pub returns-after-wanted-3-clause-cause : goal.returns-after-wanted-3-clause-cause
returns-after-wanted-3-clause-cause g c = λ bad.
    cause-behind (g.S.Store.disk c.args.store.now) (g.S.Store.disk c.break_before.new.store) (g.S.Store.disk c.read_between-in_default.new.store) c.break_before.ensures.stays (c.read_between-in_default.ensures.cause bad)
