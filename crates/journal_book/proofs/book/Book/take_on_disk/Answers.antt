use Rattle.std.proofs.Common.{◌≡◌, ◌+◌, ◌≤◌, ◌++◌, ℕ, List, filter, Err, sym, ◌∙◌, ap, subst, arith}
use Rattle.std.proofs.Math.Logic.{∥∥₁_elim, ∥∥₁_map}
use Rattle.std.proofs.Math.Bridge.{le_prop}
use Rattle.std.proofs.lemmas.List.{append-nil}
use Rattle.std.proofs.lemmas.Result.{err_from_is_err_and}
use Rattle.entry_codec.specs.declared.entries.Entry.{Entry}
use Rattle.journal_book.specs.Book.{BookState, Holds}
use Rattle.journal_book.specs.Reads.{is_between}
use Rattle.journal_book.specs.declared.fault.BookFault.{BookFault}
use Rattle.journal_book.specs.declared.fault.BookFault.TheVariants.{BlockChanged}
use Rattle.journal_book.proofs.Starting.{none_forced}
use Rattle.journal_book.proofs.book.Book.take_on_disk.Goals as goal

pub take_forced-requires : goal.take_forced-requires
take_forced-requires g c = record {
  held = λ tells. ∥∥₁_map (c.requires.held tells) (λ has.
      let here = subst (λ (v : BookState). Holds v has.0 (g.S.Store.disk c.args.store.now)) (sym c.self.view_is) has.1 in
      (here.kept, here.chain));
}

pub returns-then-keeps-clause-taken : goal.returns-then-keeps-clause-taken
returns-then-keeps-clause-taken g c = λ tells all holds.
    let found = c.args.found.now.items in
    sym (append-nil found) ∙ ap (λ (l : List Entry). found ++ l) (sym (none_forced c.args.self.now holds.kept all holds.keeps c.args.range.lo c.args.range.hi (c.keeps.ensures.0 c.if-keeps.true)))

pub returns-in_err-take_forced-clause-whole : goal.returns-in_err-take_forced-clause-whole
returns-in_err-take_forced-clause-whole g c = λ sequence area at is tells.
    let p = err_from_is_err_and c.from_residual.result c.from_residual.ensures.1 in
    let same : c.in_err-take_forced.field-0.0 ≡ BlockChanged sequence area at = cc (p.1, p.2, is) in
    let never : 1 ≤ 0 = ∥∥₁_elim (c.requires.held tells) le_prop (λ has.
    let here = subst (λ (v : BookState). Holds v has.0 (g.S.Store.disk c.args.store.now)) (sym c.self.view_is) has.1 in
    absurd (c.in_err-take_forced.ensures.whole sequence area at (ap (λ (e : BookFault). Err e) same) tells here.kept here.keeps.front here.chain here.keeps.on_disk)) in
    absurd (omega (arith, never))

pub returns-clause-taken : goal.returns-clause-taken
returns-clause-taken g c = λ tells all holds.
    subst (λ (v : BookState). (there : Holds v all (g.S.Store.disk c.args.store.now)) → c.take_forced.new.found.items ≡ c.args.found.now.items ++ filter (is_between c.args.range.lo c.args.range.hi) there.keeps.front) c.self.view_is
    (λ there. c.in_ok-take_forced.ensures.taken tells there.kept there.keeps.front there.chain there.keeps.on_disk) holds
