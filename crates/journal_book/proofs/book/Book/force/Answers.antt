use Rattle.receiver_chain.proofs.Others.{roots_here}
use Rattle.journal_book.proofs.Forcing.{none_exactly, none_moment}
use Rattle.journal_book.proofs.book.Book.force.Goals as goal

pub returns-then-self-eq0-clause-moments : goal.returns-then-self-eq0-clause-moments
returns-then-self-eq0-clause-moments g c = λ tells entries holds. none_moment c.args.self.now entries (g.S.Store.disk c.args.store.now) holds

pub returns-then-self-eq0-clause-exactly : goal.returns-then-self-eq0-clause-exactly
returns-then-self-eq0-clause-exactly g c = λ tells entries holds. none_exactly c.args.self.now entries (g.S.Store.disk c.args.store.now) holds

pub returns-then-self-eq0-clause-roots : goal.returns-then-self-eq0-clause-roots
returns-then-self-eq0-clause-roots g c = roots_here (g.S.Store.disk c.args.store.now)
