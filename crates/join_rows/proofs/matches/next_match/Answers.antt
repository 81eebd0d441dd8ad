use Rattle.std.proofs.Common.{ap, sym, ◌∙◌}
use Rattle.std.specs.Ordering.{is_eq}
use Rattle.key_pages.specs.EntryList.{EntryList}
use Rattle.join_rows.specs.Search.{compare_part, begins_with, next_match}
use Rattle.join_rows.proofs.WalkLemmas.{where_near}
use Rattle.join_rows.proofs.SearchLemmas.{near-then, near-else, next-match}
use Rattle.join_rows.proofs.matches.next_match.Goals as goal

pub returns-in_default : goal.returns-in_default
returns-in_default c =
    ap (where_near (begins_with c.args.part.now)) c.in_default.ensures
    ∙ next-match c.pages-pages.result.now.falling c.args.part.now c.args.key.now c.args.rrn c.requires c.pages-pages.result.now.entries c.in_order.ensures.order
    ∙ ap (λ (list : EntryList). next_match list.falling c.args.part.now c.args.key.now c.args.rrn list.entries) c.pages-pages.ensures

pub returns-then-begins_with : goal.returns-then-begins_with
returns-then-begins_with c =
    near-then c.args.part.now c.in-Some.entry.now _ c.in-Some.ensures
    (ap (λ w. is_eq (compare_part c.args.part.now w)) (sym c.as_bytes.ensures) ∙ sym c.begins_with.ensures ∙ c.if-begins_with.true)
    ∙ next-match c.pages-pages.result.now.falling c.args.part.now c.args.key.now c.args.rrn c.requires c.pages-pages.result.now.entries c.in_order.ensures.order
    ∙ ap (λ (list : EntryList). next_match list.falling c.args.part.now c.args.key.now c.args.rrn list.entries) c.pages-pages.ensures

pub returns-else-begins_with : goal.returns-else-begins_with
returns-else-begins_with c =
    near-else c.args.part.now c.in-Some.entry.now _ c.in-Some.ensures
    (ap (λ w. is_eq (compare_part c.args.part.now w)) (sym c.as_bytes.ensures) ∙ sym c.begins_with.ensures ∙ c.if-begins_with.false)
    ∙ next-match c.pages-pages.result.now.falling c.args.part.now c.args.key.now c.args.rrn c.requires c.pages-pages.result.now.entries c.in_order.ensures.order
    ∙ ap (λ (list : EntryList). next_match list.falling c.args.part.now c.args.key.now c.args.rrn list.entries) c.pages-pages.ensures
