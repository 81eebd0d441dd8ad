use Rattle.std.proofs.Common.{◌≡◌, drop, ap, sym, ◌∙◌, rules}
use Rattle.std.specs.List.{list_all}
use Rattle.join_rows.specs.Wanted.{is_blank}
use Rattle.join_rows.proofs.StepLemmas.{cut-front}
use Rattle.join_rows.proofs.wanted.cut_to.Goals as goal

pub returns-then-are_blank : goal.returns-then-are_blank
returns-then-are_blank c =
    let rest : c.split_at.result.1.now ≡ drop c.args.width c.args.text.now = search rules in
    cut-front c.args.width c.args.text.now _ (search rules) (ap (list_all is_blank) (sym rest) ∙ sym c.are_blank.ensures ∙ c.if-are_blank.true)
