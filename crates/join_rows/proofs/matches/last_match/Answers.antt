use Rattle.std.proofs.Common.{ap, sym, ◌∙◌}
use Rattle.std.specs.Ordering.{is_eq}
use Rattle.key_pages.specs.EntryList.{EntryList}
use Rattle.key_pages.specs.declared.positions.Position.TheVariants as pages
use Rattle.key_pages.specs.Position.{is_short}
use Rattle.join_rows.specs.Search.{compare_part, begins_with, last_match}
use Rattle.join_rows.proofs.WalkLemmas.{where_near, last-reversed}
use Rattle.join_rows.proofs.SearchLemmas.{near-then, near-else, last-match}
use Rattle.join_rows.proofs.matches.last_match.Goals as goal

pub returns-in_default : goal.returns-in_default
returns-in_default c =
    ap (where_near (begins_with c.args.part.now)) (c.in_default.ensures ∙ last-reversed (is_short c.pages-pages.result.now.falling (pages.Past c.args.part)) c.pages-pages.result.now.entries)
    ∙ last-match c.pages-pages.result.now.falling c.args.part c.pages-pages.result.now.entries c.in_order.ensures.order
    ∙ ap (λ (list : EntryList). last_match c.args.part.now list.entries) c.pages-pages.ensures

pub returns-then-begins_with : goal.returns-then-begins_with
returns-then-begins_with c =
    near-then c.args.part.now c.in-Some.entry.now _ (c.in-Some.ensures ∙ last-reversed (is_short c.pages-pages.result.now.falling (pages.Past c.args.part)) c.pages-pages.result.now.entries)
    (ap (λ w. is_eq (compare_part c.args.part.now w)) (sym c.as_bytes.ensures) ∙ sym c.begins_with.ensures ∙ c.if-begins_with.true)
    ∙ last-match c.pages-pages.result.now.falling c.args.part c.pages-pages.result.now.entries c.in_order.ensures.order
    ∙ ap (λ (list : EntryList). last_match c.args.part.now list.entries) c.pages-pages.ensures

pub returns-else-begins_with : goal.returns-else-begins_with
returns-else-begins_with c =
    near-else c.args.part.now c.in-Some.entry.now _ (c.in-Some.ensures ∙ last-reversed (is_short c.pages-pages.result.now.falling (pages.Past c.args.part)) c.pages-pages.result.now.entries)
    (ap (λ w. is_eq (compare_part c.args.part.now w)) (sym c.as_bytes.ensures) ∙ sym c.begins_with.ensures ∙ c.if-begins_with.false)
    ∙ last-match c.pages-pages.result.now.falling c.args.part c.pages-pages.result.now.entries c.in_order.ensures.order
    ∙ ap (λ (list : EntryList). last_match c.args.part.now list.entries) c.pages-pages.ensures
