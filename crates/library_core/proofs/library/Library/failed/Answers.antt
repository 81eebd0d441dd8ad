use Rattle.std.proofs.Common.{subst}
use Rattle.kept_library.specs.Parts.{LibraryOver}
use Rattle.library_core.proofs.LibraryLemmas.{IsKept, library-all, library-left}
use Rattle.library_core.proofs.library.Library.failed.Goals as goal

pub returns-clause-kept : goal.returns-clause-kept
returns-clause-kept g c = λ alive. subst (λ (l : LibraryOver g.row.S.Denot). IsKept g.S.Store.tells g.S.Store.disk l) c.self.view_is (c.self.invariant.0 alive)

pub returns-clause-left : goal.returns-clause-left
returns-clause-left g c = λ s stands. library-left g.S.Store.tells g.S.Store.disk c.args.self.now s stands

pub returns-clause-all : goal.returns-clause-all
returns-clause-all g c = λ alive.
    library-all g.S.Store.tells g.S.Store.disk c.args.self.now
    (subst (λ (l : LibraryOver g.row.S.Denot). IsKept g.S.Store.tells g.S.Store.disk l) c.self.view_is (c.self.invariant.0 alive))
