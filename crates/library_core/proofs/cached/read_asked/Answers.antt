use Rattle.std.proofs.Common.{List, sym, subst}
use Rattle.entry_codec.specs.declared.entries.Entry.{Entry}
use Rattle.receiver_chain.proofs.Switches.{stays_here}
use Rattle.library_core.specs.Cached.{AreCached}
use Rattle.library_core.proofs.CachedLemmas.{stays-cached}
use Rattle.library_core.proofs.cached.read_asked.Goals as goal

pub read_stretch-found-requires-clause-cached : goal.read_stretch-found-requires-clause-cached
read_stretch-found-requires-clause-cached g c =
    subst (λ (blocks : List (List Entry)). AreCached g.S.Store.tells c.args.journal.now (g.S.Store.disk c.args.store.now) blocks) (sym c.in-Ok.ensures.same) c.requires.cached

pub returns-in-Ok-clause-cached : goal.returns-in-Ok-clause-cached
returns-in-Ok-clause-cached g c =
    stays-cached g.S.Store.tells (g.S.Store.disk c.args.store.now) (g.S.Store.disk c.read_stretch-found.new.store) c.args.journal.now c.read_stretch-found.new.cache c.read_stretch-found.ensures.stays
    c.read_stretch-found.ensures.cached

pub returns-in-Err-clause-stays : goal.returns-in-Err-clause-stays
returns-in-Err-clause-stays g c = stays_here (g.S.Store.disk c.args.store.now)

pub returns-in-Err-clause-cached : goal.returns-in-Err-clause-cached
returns-in-Err-clause-cached g c =
    subst (λ (blocks : List (List Entry)). AreCached g.S.Store.tells c.args.journal.now (g.S.Store.disk c.args.store.now) blocks) (sym c.in-Err.ensures.kept) c.requires.cached
