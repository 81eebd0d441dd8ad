-- The page with the entry stands in the place of the page.
use Rattle.std.proofs.Common.{◌∙◌, ◌<◌, length, ap, rules}
use Rattle.key_pages.specs.PageList.{entries_of}
use Rattle.key_pages.proofs.PageLemmas.{entries_of-set}
use Rattle.key_pages.proofs.directory.Directory.insert.Goals as goal

pub returns-then-len-lt-MOST_PAGE_ENTRIES-clause-entries : goal.returns-then-len-lt-MOST_PAGE_ENTRIES-clause-entries
returns-then-len-lt-MOST_PAGE_ENTRIES-clause-entries c =
    let within : c.args.number < length c.args.self.now.pages = search rules in
    ap entries_of c.insert_within.ensures.pages ∙ entries_of-set c.args.self.now.pages c.args.number _ within
