use Rattle.std.proofs.Common.{◌≡◌, ◌-◌, length, arith, length-drop, subst, rules}
use Rattle.journal_book.specs.Book.{BookState}
use Rattle.journal_book.proofs.book.Book.waiting_bytes.Goals as goal

pub returns : goal.returns
returns c =
    let bytes = c.self.inside.framed.items in
    let counted : c.len.result ≡ length bytes = search (rules, c.len.ensures) in
    subst (λ (v : BookState). c.len.result - 4 ≡ length v.buffered) c.self.view_is (omega (arith, counted, length-drop 4 bytes))
