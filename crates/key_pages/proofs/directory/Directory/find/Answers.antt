-- What is found in the nearest page is found in the list.
use Rattle.std.proofs.Common.{◌≡◌, ◌∙◌, ◌<◌, true, length, arith}
use Rattle.std.proofs.lemmas.Bool.Decides.{nat_tests}
use Rattle.key_pages.specs.declared.positions.Position.TheVariants.{Start}
use Rattle.key_pages.specs.EntryList.{entry_of}
use Rattle.key_pages.specs.PageList.{page_at, IsIn, IsGapIn, IsNearest}
use Rattle.key_pages.specs.Search.{IsAt, IsGapFor}
use Rattle.key_pages.proofs.NearLemmas.{gap-in-pages, if_err_weaker, if_ok_weaker, in-pages, page-sorted}
use Rattle.key_pages.proofs.PageLemmas.{few}
use Rattle.key_pages.proofs.directory.Directory.find.Goals as goal

near : (c : goal.After-entries-page) → IsNearest c.args.falling (entry_of c.args.entry.now) c.self.inside.pages.items c.nearest-number.result
near c = rw (← c.self.view_is) at c.nearest-number.ensures

within : (c : goal.After-entries-page) → c.nearest-number.result < length c.self.inside.pages.items
within c =
    let some : 0 < length c.self.inside.pages.items = grind (arith, nat_tests) in
    omega (arith, some, (near c).within)

page-is : (c : goal.After-entries-page) → c.entries-page.result.now.items ≡ page_at c.self.inside.pages.items c.nearest-number.result
page-is c = c.entries-page.ensures ∙ c.page.ensures

pub find-requires : goal.find-requires
find-requires c =
    let order = rw (← c.self.view_is) at c.requires in
    rw (page-is c) (page-sorted true c.args.falling Start c.self.inside.pages.items c.self.invariant.sized.some order c.nearest-number.result (within c))

pub returns-clause-found : goal.returns-clause-found
returns-clause-found c =
    let entry = entry_of c.args.entry.now in
    let pages = c.self.inside.pages.items in
    let number = c.nearest-number.result in
    let found = rw (page-is c.before) at c.find.ensures.found in
    rw (← c.self.view_is)
    (if_ok_weaker (IsAt c.args.falling entry (page_at pages number)) (IsIn c.args.falling entry pages number) c.find.result (in-pages c.args.falling entry pages number (near c.before) (within c.before)) found)

pub returns-clause-absent : goal.returns-clause-absent
returns-clause-absent c =
    let entry = entry_of c.args.entry.now in
    let pages = c.self.inside.pages.items in
    let number = c.nearest-number.result in
    let absent = rw (page-is c.before) at c.find.ensures.absent in
    rw (← c.self.view_is)
    (if_err_weaker (IsGapFor c.args.falling entry (page_at pages number)) (IsGapIn c.args.falling entry pages number) c.find.result (gap-in-pages c.args.falling entry pages number (near c.before) (within c.before)) absent)

pub returns-clause-few : goal.returns-clause-few
returns-clause-few c = rw (← c.self.view_is) (few c.self.inside.pages.items c.self.invariant.sized)
