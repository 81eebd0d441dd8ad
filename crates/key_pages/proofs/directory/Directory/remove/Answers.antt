-- The page without the entry stands in the place of the page, unless it was the only entry.
use Rattle.std.proofs.Common.{◌∙◌, length, ap, sym, arith}
use Rattle.key_pages.specs.PageList.{entries_of}
use Rattle.key_pages.proofs.PageLemmas.{entries_of-set, only-entry}
use Rattle.key_pages.proofs.directory.Directory.remove.Goals as goal

pub returns-then-len-eq1-2-clause-entries : goal.returns-then-len-eq1-2-clause-entries
returns-then-len-eq1-2-clause-entries c =
    let pages = c.self.inside.pages.items in
    let within = rw (← c.self.view_is) at c.requires.number in
    let there = rw (← c.self.view_is) at c.requires.place in
    let long = ap length c.page.ensures in
    rw c.remove_only.ensures.pages (rw (← c.self.view_is) (sym (only-entry pages c.args.number c.args.place (omega arith) (omega (arith, long)) within there)))

pub returns-then-enough-clause-entries : goal.returns-then-enough-clause-entries
returns-then-enough-clause-entries c =
    ap entries_of c.remove_within.ensures.pages ∙ entries_of-set c.args.self.now.pages c.args.number _ c.requires.number
