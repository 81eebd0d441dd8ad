use Rattle.std.proofs.Common.{[], ◌∷◌, ◌++◌, sym, subst}
use Rattle.journal_book.specs.Book.{BookState, Keeps}
use Rattle.journal_book.proofs.Deposits.{deposit_keeps, inside_no_end}
use Rattle.journal_book.proofs.book.Book.deposit_entry.Goals as goal

pub put-requires-clause-no_end : goal.put-requires-clause-no_end
put-requires-clause-no_end c = inside_no_end c.args.entry.now c.requires.inside

pub returns-clause-holds : goal.returns-clause-holds
returns-clause-holds c = λ kept entries keeps.
    let old = c.args.self.now in
    let e = c.args.entry.now in
    subst (λ (b : BookState). Keeps b kept (entries ++ e ∷ [])) (sym c.put.ensures.put)
    (deposit_keeps old kept entries e c.put.new.self.bytes c.put.ensures.spelled c.requires.next keeps c.requires.begun c.requires.inside)
