use Rattle.std.proofs.Common.{◌≡◌, ◌+◌, ◌-◌, ◌<◌, ◌≤◌, ◌++◌, ℕ, List, [], filter, Err, ◌∙◌, ap, arith}
use Rattle.std.proofs.lemmas.Result.{err_from_is_err_and}
use Rattle.entry_codec.specs.declared.entries.Entry.{Entry}
use Rattle.journal_book.specs.Reads.{is_between}
use Rattle.journal_book.specs.declared.fault.BookFault.{BookFault}
use Rattle.journal_book.specs.declared.fault.BookFault.TheVariants.{BlockChanged}
use Rattle.journal_book.proofs.Starting.{read_all, tail_numbered}
use Rattle.journal_book.proofs.book.Book.read_range.Goals as goal

pub returns-in_err-take_on_disk-clause-whole : goal.returns-in_err-take_on_disk-clause-whole
returns-in_err-take_on_disk-clause-whole g c = λ sequence area at is tells.
    let p = err_from_is_err_and c.from_residual.result c.from_residual.ensures.1 in
    let same : c.in_err-take_on_disk.field-0.0 ≡ BlockChanged sequence area at = cc (p.1, p.2, is) in
    c.in_err-take_on_disk.ensures.whole sequence area at (ap (λ (e : BookFault). Err e) same) tells

pub returns-clause-entries : goal.returns-clause-entries
returns-clause-entries g c = λ tells all holds.
    let book = c.args.self.now in
    let keeps = holds.keeps in
    let lo = c.args.range.lo in
    let hi = c.args.range.hi in
    let found = c.take_on_disk.new.found.items in
    let forced : found ≡ filter (is_between lo hi) keeps.front =
    c.in_ok-take_on_disk.ensures.taken tells all holds ∙ ap (λ (l : List Entry). l ++ filter (is_between lo hi) keeps.front) c.new-found.ensures.items in
    let waits = c.in_ok-take_waiting.ensures keeps.tail keeps.block (tail_numbered book holds.kept all keeps) in
    read_all book holds.kept all keeps lo hi found c.take_waiting.new.found.items c.requires.kept c.requires.some (omega (arith, c.requires.there, c.requires.kept, c.requires.some)) forced waits
