-- What holds of the pages holds of how many entries they hold.
use Rattle.std.proofs.Common.{◌≤◌, length, arith}
use Rattle.std.proofs.lemmas.List.{length-map}
use Rattle.std.proofs.lemmas.List.Elements.{All-map}
use Rattle.key_pages.specs.declared.page.TheConstants.{MOST_PAGE_ENTRIES, LEAST_PAGE_ENTRIES}
use Rattle.key_pages.proofs.PageLemmas.{sum-lengths}
use Rattle.key_pages.proofs.list.Pages.page_count.Goals as goal

pub returns-clause-all : goal.returns-clause-all
returns-clause-all c = rw (← c.self.view_is) (sum-lengths c.self.inside.directory.pages)

pub returns-clause-most : goal.returns-clause-most
returns-clause-most c = rw (← c.self.view_is) (All-map (λ n. n ≤ MOST_PAGE_ENTRIES) (λ page. length page) c.self.inside.directory.pages c.count.ensures.sized.most)

pub returns-clause-least : goal.returns-clause-least
returns-clause-least c =
    let pages = c.self.inside.directory.pages in
    let same = length-map pages (λ page. length page) in
    rw (← c.self.view_is) (λ more. All-map (λ n. LEAST_PAGE_ENTRIES ≤ n) (λ page. length page) pages (c.count.ensures.sized.least (omega (arith, same, more))))
