use Rattle.std.proofs.Common.{rules}
use Rattle.std.specs.Prelude.{IsErrOf}
use Rattle.library_core.specs.declared.reading.ReadFault.TheVariants.{BlockChanged, StoreFault}
use Rattle.library_core.proofs.ReadLemmas.{cause-behind, remembered-stays}
use Rattle.library_core.proofs.reading.break_before.Goals as goal

pub read_between-requires-clause-kept : goal.read_between-requires-clause-kept
read_between-requires-clause-kept g c = (
  c.requires.remembered.0,
  remembered-stays g.S.Store.tells (g.S.Store.disk c.args.store.now) (g.S.Store.disk c.loop-begin.store) c.args.journal.now c.args.contents.now.state c.requires.remembered.0
      c.loop-begin.invariant.stays c.requires.remembered.1,
)

pub read_between-requires-clause-cached : goal.read_between-requires-clause-cached
read_between-requires-clause-cached g c = c.loop-begin.invariant.cached

pub returns-in_err-stretch-clause-cause : goal.returns-in_err-stretch-clause-cause
returns-in_err-stretch-clause-cause g c = λ bad.
    let fault : IsErrOf c.read_between.result StoreFault = search rules in
    cause-behind (g.S.Store.disk c.args.store.now) (g.S.Store.disk c.loop-begin.store) (g.S.Store.disk c.read_between.new.store) c.loop-begin.invariant.stays (c.read_between.ensures.cause fault)

pub returns-in_err-stretch-clause-untold : goal.returns-in_err-stretch-clause-untold
returns-in_err-stretch-clause-untold g c = λ sequence bad told.
    let fault : IsErrOf c.read_between.result (BlockChanged sequence) = search rules in
    c.read_between.ensures.untold sequence fault told
