-- The place parts the list, so the entry there is the next one.
use Rattle.std.proofs.Common.{◌∙◌, sym}
use Rattle.key_pages.proofs.NearLemmas.{next-at}
use Rattle.key_pages.proofs.PageLemmas.{entries_of-page}
use Rattle.key_pages.proofs.list.Pages.after.Goals as goal

pub returns-clause-first : goal.returns-clause-first
returns-clause-first g c =
    let pages = c.self.inside.directory.pages in
    let place = c.place-number.ensures.place in
    rw (← c.self.view_is)
    (c.entry_from.ensures ∙ sym (next-at c.self.inside.falling c.args.from.now pages c.place-number.result.0 c.place-number.result.1 (entries_of-page pages c.place-number.result.0 place.page) place))
