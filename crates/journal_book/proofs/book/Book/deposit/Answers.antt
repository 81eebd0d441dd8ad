use Rattle.std.proofs.Common.{◌≡◌, List, [], ◌∷◌, ◌++◌, ℕ, refl, sym, ◌∙◌, ap, subst}
use Rattle.entry_codec.specs.declared.entries.Entry.{Entry}
use Rattle.entry_codec.specs.Drafts.{numbered}
use Rattle.entry_codec.specs.Spelling.{IsSpelled}
use Rattle.journal_book.specs.Entries.{IsInside}
use Rattle.journal_book.specs.Book.{BookState, Keeps, next_of, with_entry}
use Rattle.journal_book.proofs.Deposits.{deposit_keeps, inside_no_end}
use Rattle.journal_book.proofs.book.Book.deposit.Goals as goal

pub put-requires-clause-no_end : goal.put-requires-clause-no_end
put-requires-clause-no_end c =
    let same = c.numbered-entry.ensures ∙ ap (λ (n : ℕ). numbered c.args.draft n) c.next_sequence-sequence.ensures in
    inside_no_end c.numbered-entry.result (subst (λ (e : Entry). IsInside e) (sym same) c.requires.inside)

pub returns-clause-holds : goal.returns-clause-holds
returns-clause-holds c = λ kept entries keeps.
    let old = c.args.self.now in
    let e = numbered c.args.draft (next_of old) in
    let same : c.numbered-entry.result ≡ e = c.numbered-entry.ensures ∙ ap (λ (n : ℕ). numbered c.args.draft n) c.next_sequence-sequence.ensures in
    let has = subst (λ (x : Entry). IsSpelled x) same c.put.ensures.spelled in
    subst (λ (b : BookState). Keeps b kept (entries ++ e ∷ [])) (sym (c.put.ensures.put ∙ ap (λ (x : Entry). with_entry x c.put.new.self.bytes old) same))
    (deposit_keeps old kept entries e c.put.new.self.bytes has refl keeps c.requires.begun c.requires.inside)
