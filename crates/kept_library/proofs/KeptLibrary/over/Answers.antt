use Rattle.std.proofs.Common.{refl}
use Rattle.kept_library.proofs.JournaledLemmas.{counted, journal-left}
use Rattle.kept_library.proofs.KeptLibrary.over.Goals as goal

pub returns-clause-stands : goal.returns-clause-stands
returns-clause-stands g c = λ s is. record { alive = refl; remembered = is }

pub returns-clause-left : goal.returns-clause-left
returns-clause-left g c = λ s is. journal-left g.S.Store.tells (g.S.Store.disk c.args.store) c.args.journal s is.journaled

pub returns-clause-all : goal.returns-clause-all
returns-clause-all g c = λ s is. counted c.args.journal s is.journaled.book_of
