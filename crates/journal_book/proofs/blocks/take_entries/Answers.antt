use Rattle.std.proofs.Common.{◌≡◌, ◌+◌, ◌++◌, ℕ, List, filter, length, sym, ◌∙◌, ap, subst}
use Rattle.entry_codec.specs.declared.entries.Entry.{Entry}
use Rattle.journal_model.specs.Journal.{AreNumbered}
use Rattle.journal_book.specs.Reads.{is_between}
use Rattle.journal_book.proofs.Taking.{none_match, numbered_none, some_match}
use Rattle.journal_book.proofs.blocks.take_entries.Goals as goal

pub returns-in_default : goal.returns-in_default
returns-in_default c = λ entries is numbered. none_match _ _ c.in_default.is (c.in_ok-entries.ensures entries is)

pub returns-in_default-numbered_to : goal.returns-in_default-numbered_to
returns-in_default-numbered_to c = λ entries is numbered.
    let whole : c.deref.result.now ≡ entries = c.deref.ensures.value ∙ some_match _ _ _ _ c.in-Some.is (c.in_ok-entries.ensures entries is) in
    numbered_none c.args.last c.deref.result.now c.numbered_to.result c.in_default-numbered_to.is c.numbered_to.ensures (subst (λ (l : List Entry). AreNumbered (c.args.last + 1) l) (sym whole) numbered)

pub returns : goal.returns
returns c = λ entries is numbered.
    let read : c.in-Some.entries.items ≡ entries = some_match _ _ _ _ c.in-Some.is (c.in_ok-entries.ensures entries is) in
    let whole : c.deref.result.now ≡ entries = c.deref.ensures.value ∙ read in
    let count = some_match _ _ _ _ c.in-Some-numbered_to.is c.numbered_to.ensures in (
      count.1 ∙ ap (λ (l : List Entry). c.args.last + length l) whole,
      c.in_ok-append.ensures.items ∙ ap (λ (l : List Entry). c.args.found.now.items ++ l) (c.keep_between.ensures ∙ ap (λ (l : List Entry). filter (is_between c.args.range.lo c.args.range.hi) l) read),
    )
