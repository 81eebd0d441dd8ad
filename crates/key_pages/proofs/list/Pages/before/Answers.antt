-- The place parts the list, so the entry just below it is the prior one.
use Rattle.std.proofs.Common.{◌∙◌, ◌-◌, sym, arith}
use Rattle.key_pages.proofs.NearLemmas.{prior-at, prior-none}
use Rattle.key_pages.proofs.PageLemmas.{entries_of-page}
use Rattle.key_pages.proofs.list.Pages.before.Goals as goal

pub returns-then-place-eq0-clause-last : goal.returns-then-place-eq0-clause-last
returns-then-place-eq0-clause-last g c =
    let pages = c.self.inside.directory.pages in
    let place = c.place-number.ensures.place in
    rw (← c.self.view_is)
    (sym (prior-none c.self.inside.falling c.args.from.now pages c.place-number.result.0 c.place-number.result.1 (entries_of-page pages c.place-number.result.0 place.page) place c.if-place-eq0.true))

pub returns-clause-last : goal.returns-clause-last
returns-clause-last g c =
    let pages = c.self.inside.directory.pages in
    let place = c.place-number.ensures.place in
    rw (← c.self.view_is)
    (c.entry.ensures ∙ sym (prior-at c.self.inside.falling c.args.from.now pages c.place-number.result.0 c.place-number.result.1 (entries_of-page pages c.place-number.result.0 place.page) (c.place-number.result.1 - 1) place (omega arith)))
