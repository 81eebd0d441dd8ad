-- The left page, or both, stand in the place of the two.
use Rattle.std.proofs.Common.{◌≡◌, ◌∙◌, ◌+◌, [], ◌++◌, length, length-append, refl, ap, arith}
use Rattle.std.specs.Prelude.{insert}
use Rattle.std.proofs.lemmas.List.Elements.{All-push}
use Rattle.key_pages.specs.PageList.{page_at}
use Rattle.key_pages.proofs.PageLemmas.{left-page, level-joined, level-shared}
use Rattle.key_pages.proofs.directory.level.Goals as goal

pub returns-then-len-le-MOST_PAGE_ENTRIES-clause-level : goal.returns-then-len-le-MOST_PAGE_ENTRIES-clause-level
returns-then-len-le-MOST_PAGE_ENTRIES-clause-level c =
    let pages = c.args.pages.now.items in
    let removed = c.remove-right.new.self.items in
    let right = c.remove-right.result in
    let left = page_at removed c.args.left in
    let removed-is = c.remove-right.ensures.items in
    level-joined pages removed _ c.args.left left right (left ++ right) c.requires.left removed-is (left-page pages removed c.args.left c.requires.left removed-is) c.remove-right.ensures.page
    refl c.join.ensures.items c.requires.least (omega (arith, ap length c.page.ensures, c.len.ensures, c.len-2.ensures))

pub returns-then-len-le-MOST_PAGE_ENTRIES-clause-empty : goal.returns-then-len-le-MOST_PAGE_ENTRIES-clause-empty
returns-then-len-le-MOST_PAGE_ENTRIES-clause-empty c = rw c.push_reserved.ensures.items (All-push (λ page. page ≡ []) c.args.free.now.items c.join.new.right c.requires.empty c.join.ensures.right)

pub returns-else-len-le-MOST_PAGE_ENTRIES-clause-level : goal.returns-else-len-le-MOST_PAGE_ENTRIES-clause-level
returns-else-len-le-MOST_PAGE_ENTRIES-clause-level c =
    let pages = c.args.pages.now.items in
    let removed = c.remove-right.new.self.items in
    let right = c.remove-right.result in
    let left = page_at removed c.args.left in
    let removed-is = c.remove-right.ensures.items in
    let shared = c.share.ensures.left in
    let more = c.share.new.right in
    let rest = ap length shared.2 in
    level-shared pages removed _ c.args.left left right shared.0 c.requires.left removed-is (left-page pages removed c.args.left c.requires.left removed-is) c.remove-right.ensures.page more
    shared.2 (c.insert.ensures.items ∙ ap (λ xs. insert xs (c.args.left + 1) more) shared.1) shared.3 (omega (arith, rest, length-append shared.0 more, length-append left right))
    (omega (arith, ap length c.page.ensures, c.len.ensures, c.len-2.ensures)) c.requires.left_most c.requires.right_most
