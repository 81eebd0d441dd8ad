-- Pages before the one that is searched lie before the position, pages after it past it; each search is of no more than all entries.
use Rattle.std.proofs.Common.{◌≡◌, ◌∙◌, ◌-◌, ◌<◌, length, arith}
use Rattle.key_pages.specs.PageList.{entries_of, page_at}
use Rattle.key_pages.proofs.NearLemmas.{page-sorted, place-at, place-first}
use Rattle.key_pages.proofs.PageLemmas.{few_pages, length-page}
use Rattle.key_pages.proofs.StepLemmas.{IsFewSteps-first, IsFewSteps-halving}
use Rattle.key_pages.proofs.directory.Directory.place.Goals as goal
use Rattle.key_pages.proofs.directory.Directory.place.Given.{Over}

pub returns-then-begun-eq0-clause-place : goal.returns-then-begun-eq0-clause-place
returns-then-begun-eq0-clause-place g c =
    let sized = c.self.invariant.sized in
    let order = rw (← c.self.view_is) at c.requires in
    rw (← c.self.view_is)
    (place-first c.args.itself c.args.falling c.args.from.now c.self.inside.pages.items sized.some order c.begun-begun.result c.if-begun-eq0.true c.begun-begun.ensures.ahead)

pub returns-then-begun-eq0-clause-cost : goal.returns-then-begun-eq0-clause-cost
returns-then-begun-eq0-clause-cost g c =
    let sized = c.self.invariant.sized in
    rw (← c.self.view_is)
    (IsFewSteps-first (length (entries_of c.self.inside.pages.items)) (length c.self.inside.pages.items) c.args.steps.now c.begun-begun.new.steps c.begun-begun.ensures.cost (few_pages c.self.inside.pages.items sized))

within : (g : Over) (c : goal.After-place-arg-1 g) → c.begun-begun.result - 1 < length c.self.inside.pages.items
within g c = omega (arith, c.begun-begun.ensures.within)

page-is : (g : Over) (c : goal.After-place-arg-1 g) → c.entries-page.result.now.items ≡ page_at c.self.inside.pages.items (c.begun-begun.result - 1)
page-is g c = c.entries-page.ensures ∙ c.page.ensures

pub place-requires : goal.place-requires
place-requires g c =
    let sized = c.self.invariant.sized in
    let order = rw (← c.self.view_is) at c.requires in
    rw (page-is g c) (page-sorted c.args.itself c.args.falling c.args.from.now c.self.inside.pages.items sized.some order (c.begun-begun.result - 1) (within g c))

pub returns-clause-place : goal.returns-clause-place
returns-clause-place g c =
    let number = c.begun-begun.result - 1 in
    let sized = c.self.invariant.sized in
    let order = rw (← c.self.view_is) at c.requires in
    let some : 0 < c.begun-begun.result = omega arith in
    let here = page-is g c.before in
    let upto = rw here at c.place.ensures.within in
    let passed = rw here at c.place.ensures.passed in
    let ahead = rw here at c.place.ensures.ahead in
    rw (← c.self.view_is)
    (place-at c.args.itself c.args.falling c.args.from.now c.self.inside.pages.items sized.some order c.begun-begun.result number c.place.result (omega arith) (within g c.before)
    (c.begun-begun.ensures.passed some) c.begun-begun.ensures.ahead upto passed ahead)

pub returns-clause-cost : goal.returns-clause-cost
returns-clause-cost g c =
    let sized = c.self.invariant.sized in
    let here = page-is g c.before in
    let cost = rw here at c.place.ensures.cost in
    rw (← c.self.view_is)
    (IsFewSteps-halving (length (entries_of c.self.inside.pages.items)) (length c.self.inside.pages.items) (length (page_at c.self.inside.pages.items (c.begun-begun.result - 1))) c.args.steps.now c.begun-begun.new.steps c.place.new.steps
    c.begun-begun.ensures.cost cost (few_pages c.self.inside.pages.items sized) (length-page c.self.inside.pages.items (c.begun-begun.result - 1) (within g c.before)))
