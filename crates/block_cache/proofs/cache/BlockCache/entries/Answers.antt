use Rattle.std.proofs.lemmas.Result.{IfOk-weaker}
use Rattle.block_cache.proofs.OneJournal.{stretches_again}
use Rattle.block_cache.proofs.cache.BlockCache.entries.Goals as goal

pub returns-clause-entries : goal.returns-clause-entries
returns-clause-entries g c = IfOk-weaker c.read-found.result _ _ (λ found told tells all holds. told tells all holds (c.requires.cached tells all holds)) c.read-found.ensures.entries

pub returns-clause-cached : goal.returns-clause-cached
returns-clause-cached g c = λ tells.
    stretches_again c.args.book.now c.read-found.new.self (g.S.Store.disk c.args.store.now) (g.S.Store.disk c.read-found.new.store) c.read-found.ensures.stays (c.requires.held tells)
    (λ all holds. c.read-found.ensures.cached tells all holds (c.requires.cached tells all holds))
