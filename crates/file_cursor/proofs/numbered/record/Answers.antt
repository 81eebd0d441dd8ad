use Rattle.std.proofs.Common.{Option, Some, nat_le, ap, ◌∙◌}
use Rattle.key_pages.specs.declared.entries.Entry.{Entry}
use Rattle.file_cursor.specs.Finding.{with_number}
use Rattle.file_cursor.proofs.NumberedLemmas.{chain-same}
use Rattle.file_cursor.proofs.numbered.record.Goals as goal

pub returns-in_default : goal.returns-in_default
returns-in_default c =
    ap (λ (o : Option Entry). with_number c.args.rrn o) c.in_default.ensures
    ∙ chain-same c.args.rrn c.args.pages.now c.requires c.in_order.ensures.order c.before_number.result
    (λ e by few. c.before_number.ensures e by few ∙ ap (λ m. nat_le m e.rrn) c.from.ensures)

pub returns : goal.returns
returns c =
    c.with_number.ensures
    ∙ ap (λ (o : Option Entry). with_number c.args.rrn o) (ap Some c.hit_on.ensures ∙ c.in-Some.ensures)
    ∙ chain-same c.args.rrn c.args.pages.now c.requires c.in_order.ensures.order c.before_number.result
    (λ e by few. c.before_number.ensures e by few ∙ ap (λ m. nat_le m e.rrn) c.from.ensures)
