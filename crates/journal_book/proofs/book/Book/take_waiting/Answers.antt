use Rattle.std.proofs.Common.{◌≡◌, ◌+◌, ◌-◌, ℕ, List, drop, take, length, sym, ◌∙◌, ap, subst, arith, length-drop}
use Rattle.std.proofs.lemmas.List.{take_all}
use Rattle.entry_codec.specs.declared.entries.Entry.{Entry}
use Rattle.journal_model.specs.Journal.{AreNumbered}
use Rattle.journal_book.specs.Book.{BookState}
use Rattle.journal_book.specs.Entries.{IsBlock}
use Rattle.journal_book.proofs.Taking.{took}
use Rattle.journal_book.proofs.book.Book.take_waiting.Goals as goal

pub returns : goal.returns
returns c = λ tail is numbered.
    let bytes = c.deref.result.now in
    let rest : take (length bytes - 4) (drop 4 bytes) ≡ drop 4 c.self.inside.framed.items = take_all (length bytes - 4) (drop 4 bytes) (omega (arith, length-drop 4 bytes)) ∙ ap (λ (l : List ℕ). drop 4 l) c.deref.ensures.value in
    let block : IsBlock tail (drop 4 c.self.inside.framed.items) = subst (λ (v : BookState). IsBlock tail v.buffered) (sym c.self.view_is) is in
    let follows : AreNumbered (c.self.inside.first + c.self.inside.forced) tail = subst (λ (v : BookState). AreNumbered (v.first + v.forced) tail) (sym c.self.view_is) numbered in
    let least = c.self.invariant.3 in
    took _ _ _ (c.in_ok-_reached.ensures tail (subst (λ (l : List ℕ). IsBlock tail l) (sym rest) block) (subst (λ (n : ℕ). AreNumbered n tail) (omega (arith, least)) follows))
